-- The lines so far ask for those that came first.
use Rattle.seat_rules.specs.Bookings.{is_waiting}
use Rattle.seat_carrying.proofs.Asked.{IsAskedTo}
use Rattle.seat_carrying.proofs.carrying.ask_waiting.Given as goal

abbrev pub invariant-loop-owned : goal.invariant-loop-owned
invariant-loop-owned l = IsAskedTo (λ o. is_waiting o.booking.status) l.initial.core.grid l.initial.core.cap l.initial.core.journal l.live l.owned-index l.core
