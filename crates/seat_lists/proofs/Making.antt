-- Each live booking was asked for by the line of its number, and its place is one of the flights'.
use Rattle.std.proofs.Common.{◌≡◌, ◌≤◌, ◌<◌, ◌+◌, ◌-◌, ℕ, zero, suc, List, [], ◌∷◌, ◌++◌, length, Option, Some, None, IfSome, slice_get, unwrap_or, option_map, arith, refl, sym, ap, subst, ◌∙◌}
use Rattle.seat_lists.proofs.Common.{Place, Fits, Ladders, Steps, LimitRow, Entry, Seats, replay, State, Booking}
use Rattle.std.specs.List.{AllByRecursion}
use Rattle.std.proofs.lemmas.List.{length-map}
use Rattle.std.proofs.lemmas.Option.{slice_get-map}
use Rattle.ssim_flights.specs.declared.flight.Flight.{Flight as Flown}
use Rattle.seat_limits.specs.Authorised.{authorised_grid, authorised_legs}
use Rattle.seat_journal.specs.declared.entry.Command.{Command}
use Rattle.seat_rules.specs.Bookings.{is_for}
use Rattle.seat_rules.specs.Journal.{FitsWork, IsLegal, IsNext}
use Rattle.seat_rules.specs.Sequential.{answer, booking_of, changed_by, confirmed, pass, reduced, sales_by}
use Rattle.seat_rules.specs.declared.booking.Status.{Status}
use Rattle.seat_rules.specs.declared.booking.Status.TheVariants.{Held, Waiting}
use Rattle.seat_rules.proofs.History.Legal.{each_legal}
use Rattle.seat_rules.proofs.History.Lines.{replay_next}
use Rattle.seat_rules.proofs.Passes.Quiet.{all_map, all_push}
use Rattle.seat_rules.proofs.Step.Apart.{all_confirmed, all_reduced}
use Rattle.seat_rules.proofs.Step.Limits.{each_pass}
use Rattle.seat_rules.proofs.Step.Outcomes.{each_outcome}
use Rattle.seat_lists.specs.Picking.{HasPlace, IsMade}

module _ {A : Type 0} where
  at_longer : (xs ys : List A) (i : ℕ) (x : A) → slice_get xs i ≡ Some x → slice_get (xs ++ ys) i ≡ Some x
  at_longer [] ys i x e = absurd cc
  at_longer (y ∷ xs) ys zero x e = e
  at_longer (y ∷ xs) ys (suc i) x e = at_longer xs ys i x e

  at_end : (xs : List A) (x : A) → slice_get (xs ++ x ∷ []) (length xs) ≡ Some x
  at_end [] x = refl
  at_end (y ∷ xs) x = at_end xs x

made_longer : (grid : Ladders) (past : List Entry) (e : Entry) (b : Booking) → IsMade grid past b
    → IsMade grid (past ++ e ∷ []) b
made_longer grid past e b m = record {
  line = m.line;
  entry = m.entry;
  command = m.command;
  number_is = m.number_is;
  is_entry = at_longer past (e ∷ []) m.line m.entry m.is_entry;
  is_command = m.is_command;
  place_is = m.place_is;
  locator_is = m.locator_is;
  fits = m.fits;
}

-- what no pass and no cancellation changes
made_same : (grid : Ladders) (journal : List Entry) (a b : Booking) → b.number ≡ a.number → b.locator ≡ a.locator
    → b.place ≡ a.place → IsMade grid journal a → IsMade grid journal b
made_same grid journal a b n l p m = record {
  line = m.line;
  entry = m.entry;
  command = m.command;
  number_is = n ∙ m.number_is;
  is_entry = m.is_entry;
  is_command = m.is_command;
  place_is = m.place_is ∙ ap (λ (q : Place). Some q) (sym p);
  locator_is = m.locator_is ∙ sym l;
  fits = subst (Fits grid) (sym p) m.fits;
}

fits_place : (grid : Ladders) (c : Command) (place : Place) → c.place ≡ Some place → FitsWork grid (Seats c)
    → Fits grid place
fits_place grid c place at f = subst (λ (o : Option Place). IfSome o (Fits grid)) at f.2

made_new : (grid : Ladders) (past : List Entry) (e : Entry) (c : Command) (place : Place) (status : Status)
    → Seats c ≡ e.work → c.place ≡ Some place → FitsWork grid e.work
    → IsMade grid (past ++ e ∷ []) (booking_of (length past + 1) c place status)
made_new grid past e c place status w at f = record {
  line = length past;
  entry = e;
  command = c;
  number_is = refl;
  is_entry = at_end past e;
  is_command = sym w;
  place_is = at;
  locator_is = refl;
  fits = fits_place grid c place at (subst (FitsWork grid) (sym w) f);
}

abbrev AreMade : Ladders → List Entry → List Booking → Type 0
AreMade grid journal bookings = AllByRecursion (IsMade grid journal) bookings

made_pass : (grid now : Ladders) (journal : List Entry) (xs : List Booking) → AreMade grid journal xs
    → AreMade grid journal (pass now [] [] xs).bookings
made_pass grid now journal xs h =
    each_pass (AreMade grid journal) now
    (λ done b bs d may. all_confirmed (IsMade grid journal) done b bs (λ m. made_same grid journal b (confirmed b) refl refl refl m) d)
    [] xs [] h

made_answer : (grid : Ladders) (past : List Entry) (s : State) (e : Entry) → FitsWork grid e.work
    → AreMade grid past s.bookings
    → AreMade grid (past ++ e ∷ []) (answer s (length past + 1) e.work).state.bookings
made_answer grid past s e f h =
    each_outcome (λ w o. w ≡ e.work → AreMade grid now o.state.bookings) s (length past + 1)
    (λ w r is. before)
    (λ c place at none fits is. all_push (IsMade grid now) s.bookings (booking_of (length past + 1) c place Held) before (made_new grid past e c place Held is at f))
    (λ c place at none over why is. all_push (IsMade grid now) s.bookings (booking_of (length past + 1) c place Waiting) before (made_new grid past e c place Waiting is at f))
    (λ c place at none is. made_pass grid s.grid now (s.bookings ++ booking_of (length past + 1) c place Waiting ∷ [])
    (all_push (IsMade grid now) s.bookings (booking_of (length past + 1) c place Waiting) before (made_new grid past e c place Waiting is at f)))
    (λ c place b at found le is. made_pass grid s.grid now (reduced (is_for c.locator place c.class) c.seats s.bookings)
    (all_reduced (IsMade grid now) (is_for c.locator place c.class) c.seats s.bookings (λ x t m. made_same grid now x (record x { seats = x.seats - c.seats }) refl refl refl m) before))
    (λ c may is. made_pass grid (changed_by s.grid c) now s.bookings before)
    (λ c may is. made_pass grid (sales_by s.grid c) now s.bookings before)
    e.work refl
  where
    now : List Entry
    now = past ++ e ∷ []

    before : AreMade grid now s.bookings
    before = all_map (IsMade grid past) (IsMade grid now) s.bookings (λ b m. made_longer grid past e b m) h

pub replay_is_made : (grid : Ladders) (journal : List Entry) → IsLegal grid journal
    → AllByRecursion (IsMade grid journal) (replay grid journal).bookings
replay_is_made grid journal legal =
    each_legal grid (λ j. AreMade grid j (replay grid j).bookings) next_made [] journal tt legal
  where
    next_made : (past : List Entry) (e : Entry) → IsLegal grid past → IsNext grid past e
        → AreMade grid past (replay grid past).bookings
        → AreMade grid (past ++ e ∷ []) (replay grid (past ++ e ∷ [])).bookings
    next_made past e l next h =
        let number : e.number ≡ length past + 1 = ap (λ (x : Entry). x.number) next.line in
        let Q : State → Type 0 = λ s. AreMade grid (past ++ e ∷ []) s.bookings in
        let R : ℕ → Type 0 = λ n. AreMade grid (past ++ e ∷ []) (answer (replay grid past) n e.work).state.bookings in
        subst Q (sym (replay_next grid past e)) (subst R (sym number) (made_answer grid past (replay grid past) e next.fits h))

-- ---- flights

legs_there : (rows : List LimitRow) (flights : List Flown) (place : Place) (o : Option Flown)
    → slice_get flights place.flight ≡ o
    → place.from ≤ place.to → place.to < length (unwrap_or (option_map (authorised_legs rows) o) [])
    → HasPlace flights place
legs_there rows flights place None e le lt = absurd (omega arith)
legs_there rows flights place (Some flight) e le lt =
    let few : length (authorised_legs rows flight) ≡ length flight.legs = length-map _ _ in
    record { flight = flight; is_flight = e; from_below = omega arith; to_below = omega arith }

pub has_place : (rows : List LimitRow) (flights : List Flown) (grid : Ladders) (place : Place)
    → grid ≡ authorised_grid rows flights → Fits grid place → HasPlace flights place
has_place rows flights grid place is f =
    let there : Fits (authorised_grid rows flights) place = subst (λ (g : Ladders). Fits g place) is f in
    let at : slice_get (authorised_grid rows flights) place.flight ≡ option_map (authorised_legs rows) (slice_get flights place.flight) = slice_get-map (authorised_legs rows) flights place.flight in
    legs_there rows flights place (slice_get flights place.flight) refl there.0 (subst (λ (o : Option (List Steps)). place.to < length (unwrap_or o [])) at there.1)
