-- Those that came first went where they go.
use Rattle.std.proofs.Common.{◌≡◌, take}
use Rattle.carry_protections.specs.Going.{moved_under}
use Rattle.carry_protections.proofs.going.moved_under.Given as goal

abbrev pub invariant-loop-booking : goal.invariant-loop-booking
invariant-loop-booking l = l.all.items ≡ moved_under l.courses l.journal l.flights l.new l.today (take l.booking-index l.live)
