-- A look at each flight of a day.
use Rattle.std.proofs.Common.{◌≡◌, ℕ, suc, ◌+◌, ◌==◌, Bool, true, false, List, [], ◌∷◌, ◌++◌, Option, Some, None, arith, refl, sym, ap, subst, ◌∙◌}
use Rattle.std.specs.Prelude.{slice_get}
use Rattle.std.proofs.lemmas.Bool.{true≢false, eqb-true}
use Rattle.airline_base.specs.declared.place.Place.{Place}
use Rattle.ssim_flights.specs.declared.flight.Flight.{Flight as Flown}
use Rattle.ssim_flights.specs.Places.{place_wanted}
use Rattle.flight_days.specs.declared.day_flights.DayFlights.{DayFlights}
use Rattle.flight_days.specs.Leaving.{flights_in, in_list, list_of, listed, number_if, AreDaysOf}
use Rattle.flight_days.proofs.Leaving.{found_leaves}
use Rattle.airimp_lines.specs.declared.look.Look.{Look}
use Rattle.seat_desk.specs.FlightsDesk.{IsText}
use Rattle.seat_nesting.specs.Nesting.{Ladders}
use Rattle.seat_rules.specs.Sequential.{State}
use Rattle.desk_answers.specs.Looks.{wanted_on, IsDayLook, IsFlightLine, IsFoundLine, IsNoneLine, IsOwnLine, IsSaidOf}

-- there are none
pub none_said : (count : ℕ) (look : Look) (lines text : List ℕ) → lines ≡ [] → IsNoneLine count look text → IsSaidOf count look lines text
none_said count look lines text none is = subst (λ (l : List ℕ). IsSaidOf count look l text) (sym none) is

-- there are some
pub some_said : (count : ℕ) (look : Look) (lines : List ℕ) → (lines ≡ [] → ⊥) → IsSaidOf count look lines lines
some_said count look [] some = absurd (some refl)
some_said count look (c ∷ lines) some = refl

module _ (flights : List Flown) (grid : Ladders) (state : State) (count : ℕ) (look : Look) where
  pub day_said : (lines text : List ℕ) → IsText (IsFlightLine flights grid state count look) 0 flights lines
      → IsSaidOf count look lines text → IsDayLook flights grid state count look text
  day_said lines text are is = record { lines = lines; are_lines = are; said = is }

  -- the line of the flight with a number
  pub record IsNumbered (m i : ℕ) (text : List ℕ) : Type 0 where
    pub flown : Flown
    pub at : slice_get flights i ≡ Some flown
    pub is_line : IsFlightLine flights grid state count look i flown text

  -- a flight that does not leave on the day has no line
  no_line : (i : ℕ) (flight : Flown) → slice_get flights i ≡ Some flight → in_list flight.legs (list_of look.day) ≡ false
      → IsFlightLine flights grid state count look i flight []
  no_line i flight at other = found (place_wanted flights (wanted_on flight look)) refl
    where
      own : (p : Place) → place_wanted flights (wanted_on flight look) ≡ Some p → (t : Bool) → (p.flight == i) ≡ t
          → IsOwnLine grid state count look flight p t []
      own p is true e =
          let here : slice_get flights p.flight ≡ Some flight = ap (slice_get flights) (eqb-true p.flight i e) ∙ at in
          absurd (true≢false (sym (found_leaves flights (wanted_on flight look) p flight is here) ∙ other))
      own p is false e = refl

      found : (o : Option Place) → place_wanted flights (wanted_on flight look) ≡ o → IsFoundLine grid state count look i flight o []
      found None is = refl
      found (Some p) is = own p is (p.flight == i) refl

  some_same : (a b : Flown) → Some a ≡ Some b → a ≡ b
  some_same a b e = cc

  first_at : (n : ℕ) (x : Flown) (xs : List Flown) → ((j : ℕ) → slice_get flights (n + j) ≡ slice_get (x ∷ xs) j)
      → slice_get flights n ≡ Some x
  first_at n x xs at = let e : n ≡ n + 0 = omega arith in ap (slice_get flights) e ∙ at 0

  later_at : (n : ℕ) (x : Flown) (xs : List Flown) → ((j : ℕ) → slice_get flights (n + j) ≡ slice_get (x ∷ xs) j)
      → (j : ℕ) → slice_get flights (n + 1 + j) ≡ slice_get xs j
  later_at n x xs at j = let e : n + 1 + j ≡ n + suc j = omega arith in ap (slice_get flights) e ∙ at (suc j)

  -- the lines of the flights from n on that leave on the day are those of all from n on
  lines_from : (n m : ℕ) (xs : List Flown) (text : List ℕ) → ((j : ℕ) → slice_get flights (n + j) ≡ slice_get xs j)
      → IsText IsNumbered m (flights_in n xs (list_of look.day)) text → IsText (IsFlightLine flights grid state count look) n xs text
  lines_from n m [] text at is = is
  lines_from n m (x ∷ xs) text at is =
      by (λ k rest more. lines_from (n + 1) k xs rest (later_at n x xs at) more) (in_list x.legs (list_of look.day)) refl is
    where
      by : ((k : ℕ) (rest : List ℕ) → IsText IsNumbered k (flights_in (n + 1) xs (list_of look.day)) rest
          → IsText (IsFlightLine flights grid state count look) (n + 1) xs rest)
          → (t : Bool) → in_list x.legs (list_of look.day) ≡ t
          → IsText IsNumbered m (number_if t n ++ flights_in (n + 1) xs (list_of look.day)) text
          → IsText (IsFlightLine flights grid state count look) n (x ∷ xs) text
      by later true e parts =
          let one : IsNumbered m n parts.0 = parts.2 in
          let same : one.flown ≡ x = some_same one.flown x (sym one.at ∙ first_at n x xs at) in (
            parts.0,
            parts.1,
            subst (λ (f : Flown). IsFlightLine flights grid state count look n f parts.0) same one.is_line,
            parts.3,
            later (m + 1) parts.1 parts.4,
          )
      by later false e parts = ([], text, no_line n x (first_at n x xs at) e, refl, later m text parts)

  -- the lines of the flights of the day are those of all flights
  pub day_text : (days : DayFlights) (numbers text : List ℕ) → AreDaysOf days flights → numbers ≡ listed days look.day
      → IsText IsNumbered 0 numbers text → IsText (IsFlightLine flights grid state count look) 0 flights text
  day_text days numbers text are is lines =
      lines_from 0 0 flights text (λ j. let e : 0 + j ≡ j = omega arith in ap (slice_get flights) e)
      (subst (λ (l : List ℕ). IsText IsNumbered 0 l text) (is ∙ are.at (list_of look.day)) lines)
