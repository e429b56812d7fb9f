-- Who waits and finds no seats, were each class open, finds none.
use Rattle.std.proofs.Common.{◌≡◌, ◌<◌, ◌-◌, ℕ, zero, suc, ◌+◌, nat_le, Bool, true, false, if◌then◌else◌, List, [], ◌∷◌, arith, refl, ap, sym, ◌∙◌}
use Rattle.std.proofs.lemmas.Bool.Decides.{nat_tests}
use Rattle.std.specs.List.{AllByRecursion}
use Rattle.airline_base.specs.declared.place.Place.{Place}
use Rattle.seat_nesting.specs.Nesting.{Ladders, Steps, Table, free, free_on, ladder_at, least, room}
use Rattle.seat_nesting.specs.Changing.{with_marks}
use Rattle.seat_nesting.proofs.MarkChanges.{free_marks}
use Rattle.seat_nesting.proofs.Rooms.{room_free}
use Rattle.seat_rules.specs.Bookings.{held}
use Rattle.seat_rules.specs.Sequential.{NoneFitsAmong, may_confirm}
use Rattle.seat_rules.specs.declared.booking.Booking.{Booking}
use Rattle.seat_rules.specs.declared.booking.Status.{Status}
use Rattle.seat_rules.specs.declared.booking.Status.TheVariants.{Held, Waiting}

least_same : (f g : ℕ → ℕ) (from n : ℕ) → ((x : ℕ) → f x ≡ g x) → least f from n ≡ least g from n
least_same f g from zero h = h from
least_same f g from (suc n) h = rw (least_same f g from n h, h (from + suc n)) refl

not_le : (m n : ℕ) → n < m → nat_le m n ≡ false
not_le m n lt = grind (arith, nat_tests)

module _ (now behind file : Ladders) (marked : (flight leg : ℕ) → ladder_at behind flight leg ≡ with_marks (ladder_at now flight leg) (ladder_at file flight leg)) where
  free_same : (seats : Table) (p : Place) (class : ℕ) → free behind seats p class ≡ free now seats p class
  free_same seats p class =
      ap (λ (n : ℕ). if nat_le p.from p.to then n else 0)
      (least_same (λ leg. free_on (ladder_at behind p.flight leg) (seats p.flight leg) class) (λ leg. free_on (ladder_at now p.flight leg) (seats p.flight leg) class)
      p.from (p.to - p.from)
      (λ leg. ap (λ (steps : Steps). free_on steps (seats p.flight leg) class) (marked p.flight leg)
      ∙ free_marks (ladder_at now p.flight leg) (ladder_at file p.flight leg) (seats p.flight leg) class))

  module _ (book : List Booking) where
    one_full : (b : Booking) → (b.status ≡ Waiting → free now (held book) b.place b.class < b.seats) → may_confirm behind book b ≡ false
    one_full b full = by b.status refl where
      no_room : b.status ≡ Waiting → nat_le b.seats (room behind (held book) b.place b.class) ≡ false
      no_room e =
          not_le b.seats (room behind (held book) b.place b.class)
          (omega (arith, room_free behind (held book) b.place b.class, free_same (held book) b.place b.class, full e))

      by : (status : Status) → b.status ≡ status → may_confirm behind book b ≡ false
      by Held e = rw e refl
      by Waiting e = rw (e, no_room e) refl

    pub none_fit : (bs : List Booking)
        → AllByRecursion (λ b. b.status ≡ Waiting → free now (held book) b.place b.class < b.seats) bs → NoneFitsAmong behind book bs
    none_fit [] full = tt
    none_fit (b ∷ bs) full = (one_full b full.0, none_fit bs full.1)
