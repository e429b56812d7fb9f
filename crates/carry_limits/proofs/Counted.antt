-- Seats counted as far as a number of 32 bits goes, and the legs on which there are too many.
use Rattle.std.proofs.Common.{◌≡◌, ◌<◌, ◌≤◌, ◌++◌, ◌∷◌, [], ℕ, ◌+◌, Bool, true, false, List, min, arith, refl, ap, sym, ◌∙◌}
use Rattle.std.specs.List.{sum_by}
use Rattle.std.proofs.lemmas.Bool.{le-ltb, lt-ltb}
use Rattle.std.proofs.lemmas.List.{append-nil}
use Rattle.seat_nesting.specs.Nesting.{HasLadders, Ladders, Steps, held_from, ladder_at}
use Rattle.seat_rules.specs.Bookings.{held, seats_among}
use Rattle.seat_rules.specs.declared.booking.Booking.{Booking}
use Rattle.seat_rules.proofs.Counters.Ranks.{held_by_rank}
use Rattle.limit_changes.specs.declared.legs.NamedLeg.{NamedLeg}
use Rattle.carry_limits.specs.ByFlight.{Lists, list_at}
use Rattle.carry_limits.specs.Overs.{all_held, most_counted, over_on, seats_at}
use Rattle.carry_limits.specs.declared.counting.Over.{Over}

-- what is held in the classes of a ladder is what the bookings hold that have one of them
pub held_is : (file : Ladders) (lists : Lists) (leg : NamedLeg) (steps : Steps) (on : List Booking) (count : ℕ) → HasLadders file
    → steps ≡ ladder_at file leg.flight leg.leg → on ≡ list_at lists leg.flight
    → count ≡ min most_counted (sum_by (seats_among steps leg.flight leg.leg) on)
    → count ≡ min most_counted (all_held file lists leg)
held_is file lists leg steps on count distinct are its is =
    is
    ∙ ap (λ (l : Steps). min most_counted (sum_by (seats_among l leg.flight leg.leg) on)) are
    ∙ ap (λ (bs : List Booking). min most_counted (sum_by (seats_among (ladder_at file leg.flight leg.leg) leg.flight leg.leg) bs)) its
    ∙ ap (min most_counted) (sym (held_by_rank file (list_at lists leg.flight) leg.flight leg.leg 0 distinct))

abbrev over : NamedLeg → ℕ → ℕ → Over
over leg held seats = record { leg = leg; held = held; seats = seats }

pub none_over : (file : Ladders) (lists : Lists) (leg : NamedLeg) (all : List Over) (count seats : ℕ)
    → count ≡ min most_counted (all_held file lists leg) → seats ≡ seats_at file leg → seats ≤ 65535
    → count ≤ seats → all ≡ all ++ over_on file lists leg
none_over file lists leg all count seats counted top few le =
    let enough : all_held file lists leg ≤ seats_at file leg = omega (arith, counted, top, few, le) in
    let none : over_on file lists leg ≡ [] = rw (le-ltb (seats_at file leg) (all_held file lists leg) enough) refl in
    sym (ap (λ (l : List Over). all ++ l) none ∙ append-nil all)

pub one_over : (file : Ladders) (lists : Lists) (leg : NamedLeg) (old new : List Over) (x : Over)
    → x.held ≡ min most_counted (all_held file lists leg) → x.seats ≡ seats_at file leg → x.leg ≡ leg → x.seats < x.held
    → new ≡ old ++ x ∷ [] → new ≡ old ++ over_on file lists leg
one_over file lists leg old new x counted top its lt is =
    is ∙ ap (λ (y : Over). old ++ y ∷ []) whole ∙ ap (λ (l : List Over). old ++ l) (sym one)
  where
    many : seats_at file leg < all_held file lists leg
    many = omega (arith, counted, top, lt)

    one : over_on file lists leg ≡ over leg (min most_counted (all_held file lists leg)) (seats_at file leg) ∷ []
    one = rw (lt-ltb (seats_at file leg) (all_held file lists leg) many) refl

    whole : x ≡ over leg (min most_counted (all_held file lists leg)) (seats_at file leg)
    whole =
        ap (λ (n : NamedLeg). over n x.held x.seats) its ∙ ap (λ (n : ℕ). over leg n x.seats) counted
        ∙ ap (λ (n : ℕ). over leg (min most_counted (all_held file lists leg)) n) top
