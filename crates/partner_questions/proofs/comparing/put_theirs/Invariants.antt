-- The differences of the lines so far are added.
use Rattle.std.proofs.Common.{◌≡◌, ◌++◌, take}
use Rattle.std.specs.HashMap.{get}
use Rattle.std.specs.List.{flat_map}
use Rattle.partner_lists.specs.Names.{same_name}
use Rattle.partner_questions.specs.Differences.{their_found}
use Rattle.partner_questions.proofs.comparing.put_theirs.Given as goal

abbrev pub invariant-loop-request : goal.invariant-loop-request
invariant-loop-request l =
    l.all.items ≡ l.initial.all.items ++ flat_map (their_found (get same_name l.here) (get same_name l.lines)) (take l.request-index l.theirs)
