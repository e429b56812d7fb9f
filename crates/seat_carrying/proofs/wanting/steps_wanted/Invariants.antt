-- The steps so far are as they are wanted, and those behind them come under the last.
use Rattle.seat_carrying.proofs.Wanted.{AreWantedTo}
use Rattle.seat_carrying.proofs.wanting.steps_wanted.Given as goal

abbrev pub invariant-loop-step : goal.invariant-loop-step
invariant-loop-step l = AreWantedTo l.file l.begun l.now l.step-index l.most l.all.items
