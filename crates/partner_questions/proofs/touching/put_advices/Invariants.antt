-- The advices so far are noted.
use Rattle.std.proofs.Common.{take}
use Rattle.std.specs.List.{flat_map}
use Rattle.partner_questions.specs.Noted.{Notes}
use Rattle.partner_questions.specs.Touches.{advice_touched}
use Rattle.partner_questions.proofs.touching.put_advices.Given as goal

abbrev pub invariant-loop-advice : goal.invariant-loop-advice
invariant-loop-advice l = Notes (flat_map (advice_touched l.flights l.journal l.line) (take l.advice-index l.advice-items)) l.initial.lines l.lines
