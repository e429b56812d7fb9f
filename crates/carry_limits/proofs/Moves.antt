-- Bookings that stay on their places.
use Rattle.std.proofs.Common.{◌≡◌, ℕ, Bool, true, List, [], ◌∷◌, ◌++◌, filter, option_to_list, Option, Some, refl, ap, sym, subst, ◌∙◌}
use Rattle.std.specs.List.{AllByRecursion}
use Rattle.ssim_flights.specs.declared.flight.Flight.{Flight as Flown}
use Rattle.seat_journal.specs.declared.entry.Entry.{Entry}
use Rattle.seat_nesting.specs.Nesting.{Ladders}
use Rattle.seat_rules.specs.declared.booking.Booking.{Booking}
use Rattle.seat_carrying.specs.Carrying.{sells}
use Rattle.seat_carrying.specs.Owned.{bookings_of}
use Rattle.seat_carrying.specs.declared.owned.Owned.{Owned}
use Rattle.seat_moving.specs.Moving.{moved, moved_by, moved_to, session_of, target}
use Rattle.seat_moving.specs.declared.target.Target.{Target}
use Rattle.seat_moving.specs.declared.target.Target.TheVariants.{Onto}

filter_hit : (p : Owned → Bool) (o : Owned) (os : List Owned) → p o ≡ true → filter p (o ∷ os) ≡ o ∷ filter p os
filter_hit p o os e = rw e refl

module _ (journal : List Entry) (olds news : List Flown) (today : ℕ) (file : Ladders) where
  abbrev sold : Owned → Bool
  sold o = sells file o.booking.place o.booking.class

  -- on its own place, with its session
  abbrev own : Booking → Owned
  own b = record { session = session_of journal b; booking = record b { place = b.place } }

  pub all_stay : (bs : List Booking) → AllByRecursion (λ b. target olds news today b.place ≡ Onto b.place) bs
      → AllByRecursion (λ b. sells file b.place b.class ≡ true) bs
      → bookings_of (filter (λ o. sells file o.booking.place o.booking.class) (moved journal olds news today bs)) ≡ bs
  all_stay [] stay sells_all = refl
  all_stay (b ∷ bs) stay sells_all =
      one (moved_by journal olds news today b) (ap (λ (t : Target). moved_to (session_of journal b) b t) stay.0) (all_stay bs stay.1 sells_all.1)
    where
      one : (m : Option Owned) → m ≡ Some (own b) → bookings_of (filter sold (moved journal olds news today bs)) ≡ bs
          → bookings_of (filter (λ o. sells file o.booking.place o.booking.class) (option_to_list m ++ moved journal olds news today bs)) ≡ b ∷ bs
      one m e rest =
          ap (λ (o : Option Owned). bookings_of (filter sold (option_to_list o ++ moved journal olds news today bs))) e
          ∙ ap (λ (l : List Owned). bookings_of l) (filter_hit sold (own b) (moved journal olds news today bs) sells_all.0)
          ∙ ap (λ (l : List Booking). b ∷ l) rest
