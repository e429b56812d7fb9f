-- A live booking of a legal history can be asked for on its new place just where its class is sold.
use Rattle.std.proofs.Common.{◌≡◌, ◌≤◌, ◌<◌, ◌-◌, ℕ, nat_le, nat_lt, true, List, [], ◌∷◌, ◌++◌, length, slice_get, option_to_list, Option, Some, None, IfSome, arith, refl, sym, ap, subst, ◌∙◌}
use Rattle.std.proofs.lemmas.Bool.Decides.{nat_tests}
use Rattle.std.specs.List.{AllByRecursion}
use Rattle.airline_base.specs.declared.place.Place.{Place}
use Rattle.ssim_flights.specs.Places.{place_wanted}
use Rattle.ssim_flights.specs.declared.flight.Flight.{Flight as Flown}
use Rattle.seat_journal.specs.declared.entry.Entry.{Entry}
use Rattle.seat_nesting.specs.Nesting.{Fits, Ladders, legs_of}
use Rattle.seat_rules.specs.Journal.{replay}
use Rattle.seat_rules.specs.declared.booking.Booking.{Booking}
use Rattle.seat_carrying.specs.Carrying.{sells}
use Rattle.seat_carrying.specs.declared.owned.Owned.{Owned}
use Rattle.seat_desk.specs.Loading.{IsGridOf}
use Rattle.seat_replies.proofs.Serving.{served}
use Rattle.seat_moving.specs.Moving.{moved, moved_by, session_in, session_of}
use Rattle.carry_lines.specs.Carriable.{is_agent, is_carriable, is_party, is_there}
use Rattle.carry_asking.specs.Laws.{MovedAreOwned}
use Rattle.carry_asking.proofs.Apart.{GoesAs, goes_there}
use Rattle.carry_asking.proofs.Parties.{IsParty, are_parties}

le_test : (m n : ℕ) → m ≤ n → nat_le m n ≡ true
le_test m n le = grind (arith, nat_tests)

lt_test : (m n : ℕ) → m < n → nat_lt m n ≡ true
lt_test m n lt = grind (arith, nat_tests)

-- the session that asked for it
session_is : (journal : List Entry) (b : Booking) → IsParty journal b → is_agent (session_of journal b) ≡ true
session_is journal b party =
    let index : b.number - 1 ≡ party.line = omega (arith, party.number_is) in
    let session : session_of journal b ≡ party.entry.session =
    ap (λ (i : ℕ). session_in (slice_get journal i)) index ∙ ap session_in party.is_entry in
    rw (session, le_test 1 party.entry.session party.agent, le_test party.entry.session 8 party.agents) refl

-- the place that was found
place_there : (new : List Flown) (grid : Ladders) (p : Place) (o : Option Place) → o ≡ Some p → IfSome o (Fits grid) → is_there grid p ≡ true
place_there new grid p None found fits = absurd cc
place_there new grid p (Some q) found fits =
    let same : q ≡ p = cc in
    let here : Fits grid p = subst (Fits grid) same fits in
    rw (le_test p.from p.to here.0, lt_test p.to (length (legs_of grid p.flight)) here.1) refl

module _ (journal : List Entry) (old new : List Flown) (today : ℕ) (grid : Ladders) (of : IsGridOf new grid) where
  one_owned : (b : Booking) (o : Owned) → IsParty journal b → moved_by journal old new today b ≡ Some o
      → is_carriable grid o ≡ sells grid o.booking.place o.booking.class
  one_owned b o party is =
      let g : GoesAs journal old new b o = goes_there journal old new today b o is in
      let agent = session_is journal b party in
      let seats : is_party b.seats ≡ true = rw (le_test 1 b.seats party.some, le_test b.seats 999 party.few) refl in
      let fits : IfSome (place_wanted new g.goes.name) (Fits grid) =
      subst (λ (l : Ladders). IfSome (place_wanted new g.goes.name) (Fits l)) (sym of.is) (served of.rows new g.goes.name) in
      let there = place_there new grid g.place (place_wanted new g.goes.name) g.goes.found fits in
      rw (g.is, agent, seats, there) refl

  all_owned : (bs : List Booking) → AllByRecursion (IsParty journal) bs
      → AllByRecursion (λ o. is_carriable grid o ≡ sells grid o.booking.place o.booking.class) (moved journal old new today bs)
  all_owned [] parties = tt
  all_owned (b ∷ bs) parties = cases (moved_by journal old new today b) refl (all_owned bs parties.1) where
    cases : (m : Option Owned) → moved_by journal old new today b ≡ m
        → AllByRecursion (λ o. is_carriable grid o ≡ sells grid o.booking.place o.booking.class) (moved journal old new today bs)
        → AllByRecursion (λ o. is_carriable grid o ≡ sells grid o.booking.place o.booking.class) (option_to_list m ++ moved journal old new today bs)
    cases None e rest = rest
    cases (Some o) e rest = (one_owned b o parties.0 e, rest)

pub moved_are_owned : MovedAreOwned
moved_are_owned limits journal old new today grid legal of =
    all_owned journal old new today grid of (replay limits journal).bookings (are_parties limits journal legal)
