-- The legs that depart on a day are on the flights that are listed for it.
use Rattle.std.proofs.Common.{◌≡◌, ℕ, suc, ◌+◌, ◌<◌, ◌≤◌, ◌==◌, ◌||◌, Bool, true, false, if◌then◌else◌, List, [], ◌∷◌, ◌++◌, length, drop, get_or, refl, sym, ap, ◌∙◌, arith, Option, Some, None, append_assoc, append-nil}
use Rattle.std.specs.Prelude.{slice_get}
use Rattle.std.proofs.Math.ListN.{drop_of_length-le}
use Rattle.std.proofs.lemmas.Bool.{true≢false, eqb-true, eq-eqb}
use Rattle.std.proofs.lemmas.List.{drop_more}
use Rattle.flight_days.specs.Leaving.{flights_in, in_list, list_of, listed, number_if, AreDaysOf}
use Rattle.flight_days.specs.declared.day_flights.DayFlights.{DayFlights}
use Rattle.seat_journal.specs.declared.entry.Control.{Control}
use Rattle.seat_limits.specs.declared.change_row.ChangeRow.{ChangeRow}
use Rattle.seat_replies.specs.Changes.{is_named, on_flights, on_leg, on_legs}
use Rattle.ssim_flights.specs.declared.flight.DatedLeg.{DatedLeg}
use Rattle.ssim_flights.specs.declared.flight.Flight.{Flight as Flown}

-- on the legs of the flight with a number that depart on a row's day
abbrev pub on_numbered : ChangeRow → ℕ → Option Flown → List Control
on_numbered row n None = []
on_numbered row n (Some f) = (if is_named row f then on_legs row n 0 f.legs else [])

-- and on those of each of the flights with these numbers
abbrev pub on_numbers : ChangeRow → List Flown → List ℕ → List Control
on_numbers row flights [] = []
on_numbers row flights (n ∷ ns) = on_numbered row n (slice_get flights n) ++ on_numbers row flights ns

-- ---- number by number

pub number_put : (row : ChangeRow) (flights : List Flown) (numbers : List ℕ) (i n : ℕ) (flight : Flown)
    (whole all new : List Control)
    → i < length numbers → n ≡ get_or numbers i n → slice_get flights n ≡ Some flight
    → all ++ on_numbers row flights (drop i numbers) ≡ whole
    → new ≡ all ++ (if is_named row flight then on_legs row n 0 flight.legs else [])
    → new ++ on_numbers row flights (drop (i + 1) numbers) ≡ whole
number_put row flights numbers i n flight whole all new lt is at so_far put =
    let here : List Control = on_numbered row n (Some flight) in
    let left : List Control = on_numbers row flights (drop (i + 1) numbers) in
    let next : drop i numbers ≡ n ∷ drop (i + 1) numbers = drop_more numbers i n lt ∙ ap (λ (m : ℕ). m ∷ drop (i + 1) numbers) (sym is) in
    let parts : on_numbers row flights (drop i numbers) ≡ here ++ left =
    ap (on_numbers row flights) next ∙ ap (λ (o : Option Flown). on_numbered row n o ++ left) at in
    ap (λ (l : List Control). l ++ left) put ∙ append_assoc all here left
    ∙ ap (λ (l : List Control). all ++ l) (sym parts) ∙ so_far

pub numbers_put : (row : ChangeRow) (flights : List Flown) (numbers : List ℕ) (i : ℕ) (whole all : List Control)
    → length numbers ≤ i → all ++ on_numbers row flights (drop i numbers) ≡ whole → all ≡ whole
numbers_put row flights numbers i whole all le so_far =
    sym (append-nil all) ∙ ap (λ (l : List ℕ). all ++ on_numbers row flights l) (sym (drop_of_length-le numbers le)) ∙ so_far

-- ---- a flight that is not listed has no leg on the day

or_none : (a b : Bool) → (a || b) ≡ false → (a ≡ false) × (b ≡ false)
or_none true b e = absurd (true≢false e)
or_none false b e = (refl, e)

other_day : (d e : ℕ) → (list_of d == list_of e) ≡ false → (d == e) ≡ false
other_day d e apart = of (d == e) refl
  where
    of : (t : Bool) → (d == e) ≡ t → t ≡ false
    of true same = absurd (true≢false (sym (eq-eqb (list_of d) (list_of e) (ap list_of (eqb-true d e same))) ∙ apart))
    of false same = refl

none_on : (row : ChangeRow) (n leg : ℕ) (legs : List DatedLeg) → in_list legs (list_of row.day) ≡ false
    → on_legs row n leg legs ≡ []
none_on row n leg [] none = refl
none_on row n leg (l ∷ legs) none =
    let parts = or_none (list_of l.day == list_of row.day) (in_list legs (list_of row.day)) none in
    ap (λ (t : Bool). (if t then on_leg row.setting n leg ∷ [] else []) ++ on_legs row n (leg + 1) legs) (other_day l.day row.day parts.0)
    ∙ none_on row n (leg + 1) legs parts.1

none_if : (t : Bool) (l : List Control) → l ≡ [] → (if t then l else []) ≡ []
none_if true l e = e
none_if false l e = refl

-- ---- so the flights that are listed for the day have the same legs as all flights

first_at : (flights : List Flown) (n : ℕ) (f : Flown) (fs : List Flown) → ((j : ℕ) → slice_get flights (n + j) ≡ slice_get (f ∷ fs) j)
    → slice_get flights n ≡ Some f
first_at flights n f fs at = let e : n ≡ n + 0 = omega arith in ap (slice_get flights) e ∙ at 0

later_at : (flights : List Flown) (n : ℕ) (f : Flown) (fs : List Flown) → ((j : ℕ) → slice_get flights (n + j) ≡ slice_get (f ∷ fs) j)
    → (j : ℕ) → slice_get flights (n + 1 + j) ≡ slice_get fs j
later_at flights n f fs at j = let e : n + 1 + j ≡ n + suc j = omega arith in ap (slice_get flights) e ∙ at (suc j)

listed_from : (row : ChangeRow) (flights : List Flown) (n : ℕ) (fs : List Flown)
    → ((j : ℕ) → slice_get flights (n + j) ≡ slice_get fs j)
    → on_numbers row flights (flights_in n fs (list_of row.day)) ≡ on_flights row n fs
listed_from row flights n [] at = refl
listed_from row flights n (f ∷ fs) at =
    of (listed_from row flights (n + 1) fs (later_at flights n f fs at)) (in_list f.legs (list_of row.day)) refl
  where
    of : on_numbers row flights (flights_in (n + 1) fs (list_of row.day)) ≡ on_flights row (n + 1) fs
        → (t : Bool) → in_list f.legs (list_of row.day) ≡ t
        → on_numbers row flights (number_if t n ++ flights_in (n + 1) fs (list_of row.day)) ≡ on_flights row n (f ∷ fs)
    of rest true e =
        ap (λ (o : Option Flown). on_numbered row n o ++ on_numbers row flights (flights_in (n + 1) fs (list_of row.day))) (first_at flights n f fs at)
        ∙ ap (λ (l : List Control). on_numbered row n (Some f) ++ l) rest
    of rest false e =
        rest ∙ sym (ap (λ (l : List Control). l ++ on_flights row (n + 1) fs) (none_if (is_named row f) (on_legs row n 0 f.legs) (none_on row n 0 f.legs e)))

pub day_legs : (row : ChangeRow) (flights : List Flown) (days : DayFlights) (numbers : List ℕ) → AreDaysOf days flights
    → numbers ≡ listed days row.day → on_numbers row flights numbers ≡ on_flights row 0 flights
day_legs row flights days numbers are is =
    ap (on_numbers row flights) (is ∙ are.at (list_of row.day))
    ∙ listed_from row flights 0 flights (λ j. let e : 0 + j ≡ j = omega arith in ap (slice_get flights) e)
