use Rattle.std.proofs.Common.{◌≡◌, take}
use Rattle.seat_nesting.specs.Changing.{with_sale}
use Rattle.seat_nesting.proofs.ladder.with_sale.Given as goal

-- the steps up to here are marked
abbrev pub invariant-loop-step : goal.invariant-loop-step
invariant-loop-step l = l.marked_steps.items ≡ with_sale (take l.step-index l.steps) l.class l.closed
