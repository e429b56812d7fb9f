-- Those that came first are on their new places.
use Rattle.std.proofs.Common.{◌≡◌, flat_map, option_to_list, take}
use Rattle.seat_moving.specs.Moving.{moved_by}
use Rattle.seat_moving.proofs.moving.moved.Given as goal

abbrev pub invariant-loop-booking : goal.invariant-loop-booking
invariant-loop-booking l =
    l.all.items ≡ flat_map (λ b. option_to_list (moved_by l.journal l.flights l.new l.today b)) (take l.booking-index l.live)
