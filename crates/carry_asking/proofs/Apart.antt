-- Bookings that are apart are apart on their new places.
use Rattle.std.proofs.Common.{◌≡◌, ◌==◌, ◌&&◌, ℕ, nat_eq, nat_lt, Bool, true, false, List, [], ◌∷◌, ◌++◌, flat_map, option_to_list, Option, Some, None, if◌then◌else◌, refl, sym, ap, ◌∙◌}
use Rattle.std.specs.Cmp.Lexicographic.{pointwise}
use Rattle.std.specs.List.{AllByRecursion}
use Rattle.airline_base.proofs.Tests.{both_true}
use Rattle.airline_base.specs.declared.place.Place.{Place}
use Rattle.ssim_flights.specs.Places.{place_wanted}
use Rattle.ssim_flights.specs.declared.flight.Flight.{Flight as Flown}
use Rattle.ssim_flights.specs.declared.flight.Wanted.{Wanted}
use Rattle.seat_journal.specs.declared.entry.Entry.{Entry}
use Rattle.seat_rules.specs.Bookings.{Differs, IsApart, is_for, same_place}
use Rattle.seat_rules.specs.declared.booking.Booking.{Booking}
use Rattle.seat_rules.proofs.History.Faults.{place_same, same_nat}
use Rattle.seat_carrying.specs.Owned.{bookings_of}
use Rattle.seat_carrying.specs.declared.owned.Owned.{Owned}
use Rattle.carry_asking.specs.Laws.{MovedStayApart}
use Rattle.seat_moving.specs.Moving.{is_very, moved, moved_by, moved_to, name_of, onto, session_of, target, target_by}
use Rattle.seat_moving.specs.declared.target.Target.{Target}
use Rattle.seat_moving.specs.declared.target.Target.TheVariants.{Departed, Lost, Onto}
use Rattle.carry_asking.proofs.Names.{found_is_named}

-- ---- no two places go onto one

-- the place is found by a name among its own flights, and the other by that name among the new ones
pub record GoesOnto (old new : List Flown) (a p : Place) : Type 0 where
  pub name : Wanted
  pub very : is_very a (place_wanted old name) ≡ true
  pub found : place_wanted new name ≡ Some p

onto_is : (o : Option Place) (p : Place) → onto o ≡ Onto p → o ≡ Some p
onto_is None p e = absurd cc
onto_is (Some q) p e = let same : q ≡ p = cc in ap (λ (x : Place). Some x) same

goes_by : (old new : List Flown) (today : ℕ) (a p : Place) (o : Option Wanted) → target_by old new today a o ≡ Onto p → GoesOnto old new a p
goes_by old new today a p None e = absurd cc
goes_by old new today a p (Some name) e = cases (nat_lt name.day today) (is_very a (place_wanted old name)) refl refl where
  cases : (t u : Bool) → nat_lt name.day today ≡ t → is_very a (place_wanted old name) ≡ u → GoesOnto old new a p
  cases true u f g = let wrong : Departed ≡ Onto p = rw f at e in absurd cc
  cases false true f g = record { name = name; very = g; found = onto_is (place_wanted new name) p (rw (f, g) at e) }
  cases false false f g = let wrong : Lost ≡ Onto p = rw (f, g) at e in absurd cc

very_is : (a : Place) (o : Option Place) → is_very a o ≡ true → o ≡ Some a
very_is a None e = absurd cc
very_is a (Some q) e = ap (λ (x : Place). Some x) (place_same q a e)

one_onto : (old new : List Flown) (a b p : Place) → GoesOnto old new a p → GoesOnto old new b p → a ≡ b
one_onto old new a b p x y =
    let some : Some x.name ≡ Some y.name = sym (found_is_named new x.name p x.found) ∙ found_is_named new y.name p y.found in
    let name : x.name ≡ y.name = cc in
    let there : Some a ≡ Some b = sym (very_is a (place_wanted old x.name) x.very) ∙ ap (place_wanted old) name ∙ very_is b (place_wanted old y.name) y.very in
    cc

-- ---- so bookings stay apart

place_itself : (p : Place) → same_place p p ≡ true
place_itself p = rw (same_nat p.flight, same_nat p.from, same_nat p.to) refl

differ_onto : (old new : List Flown) (x b : Booking) (p q : Place) → GoesOnto old new x.place p → GoesOnto old new b.place q
    → Differs x b → Differs (record x { place = p }) (record b { place = q })
differ_onto old new x b p q gx gb differs = cases (pointwise nat_eq x.locator b.locator && same_place p q && (x.class == b.class)) refl where
  cases : (t : Bool) → (pointwise nat_eq x.locator b.locator && same_place p q && (x.class == b.class)) ≡ t
      → (pointwise nat_eq x.locator b.locator && same_place p q && (x.class == b.class)) ≡ false
  cases false e = e
  cases true e =
      let one = both_true (pointwise nat_eq x.locator b.locator && same_place p q) (x.class == b.class) e in
      let two = both_true (pointwise nat_eq x.locator b.locator) (same_place p q) one.0 in
      let same : p ≡ q = place_same p q two.1 in
      let there : GoesOnto old new b.place p = record { name = gb.name; very = gb.very; found = gb.found ∙ ap (λ (r : Place). Some r) (sym same) } in
      let place : x.place ≡ b.place = one_onto old new x.place b.place p gx there in
      let places : same_place x.place b.place ≡ true = ap (λ (r : Place). same_place x.place r) (sym place) ∙ place_itself x.place in
      let is : is_for b.locator b.place b.class x ≡ true = rw (two.0, places, one.1) refl in
      absurd cc

-- a booking that goes onto a place
pub record GoesAs (journal : List Entry) (old new : List Flown) (b : Booking) (o : Owned) : Type 0 where
  pub place : Place
  pub goes : GoesOnto old new b.place place
  pub is : o ≡ record { session = session_of journal b; booking = record b { place = place } }

goes_as : (journal : List Entry) (old new : List Flown) (b : Booking) (o : Owned) (t : Target)
    → ((p : Place) → t ≡ Onto p → GoesOnto old new b.place p) → moved_to (session_of journal b) b t ≡ Some o → GoesAs journal old new b o
goes_as journal old new b o Departed goes e = absurd cc
goes_as journal old new b o Lost goes e = absurd cc
goes_as journal old new b o (Onto p) goes e =
    let same : o ≡ record { session = session_of journal b; booking = record b { place = p } } = cc in
    record { place = p; goes = goes p refl; is = same }

module _ (journal : List Entry) (old new : List Flown) (today : ℕ) where
  pub goes_there : (b : Booking) (o : Owned) → moved_by journal old new today b ≡ Some o → GoesAs journal old new b o
  goes_there b o e =
      goes_as journal old new b o (target old new today b.place)
      (λ p is. goes_by old new today b.place p (name_of old b.place) is) e

  all_differ : (x : Booking) (o : Owned) (bs : List Booking) → moved_by journal old new today x ≡ Some o → AllByRecursion (Differs x) bs
      → AllByRecursion (Differs o.booking) (bookings_of (moved journal old new today bs))
  all_differ x o [] is differs = tt
  all_differ x o (b ∷ bs) is differs = cases (moved_by journal old new today b) refl (all_differ x o bs is differs.1) where
    cases : (m : Option Owned) → moved_by journal old new today b ≡ m
        → AllByRecursion (Differs o.booking) (bookings_of (moved journal old new today bs))
        → AllByRecursion (Differs o.booking) (bookings_of (option_to_list m ++ moved journal old new today bs))
    cases None e rest = rest
    cases (Some p) e rest =
        let gx = goes_there x o is in
        let gb = goes_there b p e in
        let there = differ_onto old new x b gx.place gb.place gx.goes gb.goes differs.0 in
        (rw (gx.is, gb.is) there, rest)

  stay_apart : (bs : List Booking) → IsApart bs → IsApart (bookings_of (moved journal old new today bs))
  stay_apart [] h = tt
  stay_apart (b ∷ bs) h = cases (moved_by journal old new today b) refl (stay_apart bs h.1) where
    cases : (m : Option Owned) → moved_by journal old new today b ≡ m → IsApart (bookings_of (moved journal old new today bs))
        → IsApart (bookings_of (option_to_list m ++ moved journal old new today bs))
    cases None e rest = rest
    cases (Some o) e rest = (all_differ b o bs e h.0, rest)

pub moved_stay_apart : MovedStayApart
moved_stay_apart journal old new today bookings apart = stay_apart journal old new today bookings apart
