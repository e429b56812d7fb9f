-- The advices so far are written.
use Rattle.std.proofs.Common.{◌≡◌, ◌++◌, take}
use Rattle.std.specs.List.{flat_map}
use Rattle.seat_reports.specs.LadderDesk.{advice_text}
use Rattle.seat_reports.proofs.text.put_advices.Given as goal

abbrev pub invariant-loop-advice : goal.invariant-loop-advice
invariant-loop-advice l = l.text.items ≡ l.initial.text.items ++ flat_map advice_text (take l.advice-index l.advices)
