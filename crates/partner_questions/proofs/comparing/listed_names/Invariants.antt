-- The lines of the list so far are found by name.
use Rattle.std.proofs.Common.{take}
use Rattle.partner_lists.specs.Names.{Finds}
use Rattle.partner_lists.specs.Reading.{numbered_names}
use Rattle.partner_questions.proofs.comparing.listed_names.Given as goal

abbrev pub invariant-loop-request : goal.invariant-loop-request
invariant-loop-request l = Finds l.names (numbered_names (take l.request-index l.theirs))
