-- The lines so far are noted.
use Rattle.std.proofs.Common.{take}
use Rattle.std.specs.List.{flat_map}
use Rattle.partner_questions.specs.Noted.{Notes}
use Rattle.partner_questions.specs.Touches.{touched_in}
use Rattle.partner_questions.proofs.touching.put_lines.Given as goal

abbrev pub invariant-loop-line : goal.invariant-loop-line
invariant-loop-line l = Notes (flat_map (touched_in l.flights l.journal) (take l.line-index l.journal)) l.initial.lines l.lines
