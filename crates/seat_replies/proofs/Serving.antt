-- A place that is found is on the grid.
use Rattle.seat_journal.specs.declared.entry.Control.{Control}
use Rattle.seat_journal.specs.declared.entry.Control.TheVariants.{ToLimit, ToSale}
use Rattle.std.proofs.Common.{◌≡◌, ℕ, zero, suc, ◌+◌, ◌<◌, ◌≤◌, List, [], ◌∷◌, ◌++◌, length, map, refl, sym, ap, ◌∙◌, subst, arith, Option, Some, IfSome, Bool, true, false}
use Rattle.seat_replies.proofs.Common.{slice_get, AllByRecursion, Place, place_wanted, DatedLeg, authorised_grid, Fits, Ladders, LimitRow, option_map, Request, Command, Entry, idle, lists_over, commands_of}
use Rattle.std.proofs.lemmas.List.{length-map}
use Rattle.std.specs.Prelude.{unwrap_or, All}
use Rattle.std.proofs.lemmas.Option.{slice_get-map}
use Rattle.ssim_flights.specs.Places.{place, places, places_from, ends_from, same_wanted}
use Rattle.ssim_flights.specs.declared.flight.Flight.{Flight as Flown}
use Rattle.ssim_flights.specs.declared.flight.Wanted.{Wanted}
use Rattle.seat_limits.specs.Authorised.{authorised_legs}
use Rattle.seat_nesting.specs.Nesting.{legs_of}
use Rattle.std.specs.Map.{lookup}
use Rattle.airimp_lines.specs.Grammar.{IsRightSegment}
use Rattle.seat_rules.specs.Journal.{FitsCommand, FitsControl}
use Rattle.seat_nesting.specs.Nesting.{Steps}
use Rattle.seat_desk.specs.Loading.{IsGridOf}
use Rattle.seat_replies.specs.Changes.{IsLegOf, IsOnLeg}
use Rattle.seat_replies.specs.Requests.{AreRight, command_of, wanted_of}
use Rattle.seat_replies.proofs.Going.{over_few}
use Rattle.seat_replies.proofs.Rows.{all_append, all_of}

-- P holds of the place of each
abbrev Each : (Place → Type 0) → List (Wanted × Place) → Type 0
Each P entries = AllByRecursion (λ (e : Wanted × Place). P e.1) entries

found : (P : Place → Type 0) (test : Wanted → Bool) (entries : List (Wanted × Place)) → Each P entries
    → IfSome (lookup test entries) P
found P test [] all = tt
found P test (e ∷ entries) all = cases (test e.0) refl (found P test entries all.1) where
  cases : (t : Bool) → test e.0 ≡ t → IfSome (lookup test entries) P → IfSome (lookup test (e ∷ entries)) P
  cases true is rest = rw is all.0
  cases false is rest = rw is rest

both : (P : Place → Type 0) (xs ys : List (Wanted × Place)) → Each P xs → Each P ys → Each P (xs ++ ys)
both P [] ys a b = b
both P (x ∷ xs) ys a b = (a.0, both P xs ys a.1 b)

ends_fit : (P : Place → Type 0) (flight : Flown) (n from : ℕ) (first : DatedLeg) (to : ℕ) (legs : List DatedLeg)
    → ((t : ℕ) → to ≤ t → t < to + length legs → P (place n from t)) → Each P (ends_from flight n from first to legs)
ends_fit P flight n from first to [] h = tt
ends_fit P flight n from first to (leg ∷ legs) h =
    (h to (omega arith) (omega arith), ends_fit P flight n from first (to + 1) legs (λ t low high. h t (omega (arith, low)) (omega (arith, high))))

from_fit : (P : Place → Type 0) (flight : Flown) (n from : ℕ) (legs : List DatedLeg)
    → ((f t : ℕ) → f ≤ t → t < from + length legs → P (place n f t)) → Each P (places_from flight n from legs)
from_fit P flight n from [] h = tt
from_fit P flight n from (leg ∷ legs) h =
    both P (ends_from flight n from leg from (leg ∷ legs)) (places_from flight n (from + 1) legs)
    (ends_fit P flight n from leg from (leg ∷ legs) (λ t low high. h from t low high))
    (from_fit P flight n (from + 1) legs (λ f t low high. h f t low (omega (arith, high))))

all_fit : (P : Place → Type 0) (n : ℕ) (flights : List Flown)
    → ((i : ℕ) (flight : Flown) (f t : ℕ) → slice_get flights i ≡ Some flight → f ≤ t → t < length flight.legs
    → P (place (n + i) f t))
    → Each P (places n flights)
all_fit P n [] h = tt
all_fit P n (flight ∷ flights) h =
    let here : n + 0 ≡ n = omega arith in
    both P (places_from flight n 0 flight.legs) (places (n + 1) flights)
    (from_fit P flight n 0 flight.legs (λ f t low high. subst (λ (k : ℕ). P (place k f t)) here (h 0 flight f t refl low (omega (arith, high)))))
    (all_fit P (n + 1) flights (λ i x f t at low high. let e : n + suc i ≡ n + 1 + i = omega arith in subst (λ (k : ℕ). P (place k f t)) e (h (suc i) x f t at low high)))

pub legs_are : (rows : List LimitRow) (flights : List Flown) (i : ℕ) (flight : Flown)
    → slice_get flights i ≡ Some flight
    → length (legs_of (authorised_grid rows flights) i) ≡ length flight.legs
legs_are rows flights i flight at =
    let here : slice_get (authorised_grid rows flights) i ≡ Some (authorised_legs rows flight) =
    slice_get-map (authorised_legs rows) flights i ∙ ap (λ (o : Option Flown). option_map (authorised_legs rows) o) at in
    ap (λ (o : Option (List Steps)). length (unwrap_or o [])) here ∙ length-map flight.legs _

-- what is wanted is served on the grid, where it is served at all
pub served : (rows : List LimitRow) (flights : List Flown) (wanted : Wanted)
    → IfSome (place_wanted flights wanted) (Fits (authorised_grid rows flights))
unfolding place_wanted
served rows flights wanted =
    found (Fits (authorised_grid rows flights)) (λ w. same_wanted w wanted) (places 0 flights)
    (all_fit (Fits (authorised_grid rows flights)) 0 flights
    (λ i flight f t at low high.
    let same = legs_are rows flights i flight at in
    let here : i ≡ 0 + i = omega arith in
    subst (λ (k : ℕ). Fits (authorised_grid rows flights) (place k f t)) here (low, omega (arith, high, same))))

-- and its last leg is a leg of the flights
pub served_leg : (flights : List Flown) (wanted : Wanted)
    → IfSome (place_wanted flights wanted) (λ p. IsLegOf flights p.flight p.to)
unfolding place_wanted
served_leg flights wanted =
    found (λ p. IsLegOf flights p.flight p.to) (λ w. same_wanted w wanted) (places 0 flights)
    (all_fit (λ p. IsLegOf flights p.flight p.to) 0 flights
    (λ i flight f t at low high.
    let here : i ≡ 0 + i = omega arith in
    subst (λ (k : ℕ). IsLegOf flights k t) here (record { flown = flight; at = at; there = high })))

command_fits : (flights : List Flown) (grid : Ladders) (r : Request) → IsGridOf flights grid → IsRightSegment r.segment
    → FitsCommand grid (command_of flights r)
command_fits flights grid r g right =
    let few : r.segment.seats < 1000 = right.seats.1 in
    let low : 0 < r.segment.seats = right.seats.0 in
    (omega (arith, low), omega (arith, few), subst (λ (l : Ladders). IfSome (place_wanted flights (wanted_of r.segment)) (Fits l)) (sym g.is) (served g.rows flights (wanted_of r.segment)))

commands_fit : (flights : List Flown) (grid : Ladders) (requests : List Request) → IsGridOf flights grid
    → All (λ (r : Request). IsRightSegment r.segment) requests
    → AllByRecursion (FitsCommand grid) (commands_of flights requests)
commands_fit flights grid [] g right = tt
commands_fit flights grid (r ∷ requests) g right =
    (command_fits flights grid r g (right 0 r (omega arith)), commands_fit flights grid requests g (λ k d lt. right (suc k) d (omega (arith, lt))))

lists_fit : (flights : List Flown) (grid : Ladders) (scripts : List (List Request)) → IsGridOf flights grid
    → AllByRecursion AreRight scripts
    → AllByRecursion (λ (list : List Command). All (λ (c : Command). FitsCommand grid c) list)
    (map (commands_of flights) scripts)
lists_fit flights grid [] g right = tt
lists_fit flights grid (requests ∷ scripts) g right =
    (all_of (FitsCommand grid) (commands_of flights requests) (commands_fit flights grid requests g right.0.each), lists_fit flights grid scripts g right.1)

idle_fit : (grid : Ladders) (n : ℕ)
    → AllByRecursion (λ (list : List Command). All (λ (c : Command). FitsCommand grid c) list) (idle n)
idle_fit grid zero = tt
idle_fit grid (suc n) = (λ k d lt. absurd (omega (arith, lt)), idle_fit grid n)

-- what right scripts ask fits the grid, and so does nothing
pub all_fit_grid : (flights : List Flown) (grid : Ladders) (past : List Entry) (scripts : List (List Request))
    (lists : List (List Command)) → IsGridOf flights grid → AllByRecursion AreRight scripts
    → lists ≡ lists_over past (map (commands_of flights) scripts)
    → All (λ (list : List Command). All (λ (c : Command). FitsCommand grid c) list) lists
all_fit_grid flights grid past scripts lists g right is =
    let fit : List Command → Type 0 = λ list. All (λ (c : Command). FitsCommand grid c) list in
    let both = all_append fit (map (commands_of flights) scripts) _ (lists_fit flights grid scripts g right) (idle_fit grid _) in
    subst (λ (l : List (List Command)). All fit l) (sym is) (all_of fit (lists_over past (map (commands_of flights) scripts)) both)

-- and the host is opened for one to eight of them
pub opened_few : (flights : List Flown) (past : List Entry) (scripts : List (List Request))
    (lists : List (List Command)) → (1 ≤ length scripts) × (length scripts ≤ 8)
    → lists ≡ lists_over past (map (commands_of flights) scripts) → (1 ≤ length lists) × (length lists ≤ 8)
opened_few flights past scripts lists count is =
    let mapped : length (map (commands_of flights) scripts) ≡ length scripts = length-map scripts (commands_of flights) in
    let few = over_few past (map (commands_of flights) scripts) (omega (arith, count.0, mapped)) (omega (arith, count.1, mapped)) in
    subst (λ (l : List (List Command)). (1 ≤ length l) × (length l ≤ 8)) (sym is) few

-- ---- changes

leg_fits : (flights : List Flown) (grid : Ladders) (flight leg : ℕ) → IsGridOf flights grid → IsLegOf flights flight leg
    → leg < length (legs_of grid flight)
leg_fits flights grid flight leg g on =
    let same = legs_are g.rows flights flight on.flown on.at in
    subst (λ (l : Ladders). leg < length (legs_of l flight)) (sym g.is) (omega (arith, on.there, same))

change_fits : (flights : List Flown) (grid : Ladders) (c : Control) → IsGridOf flights grid → IsOnLeg flights c
    → FitsControl grid c
change_fits flights grid (ToLimit c) g on =
    record { there = leg_fits flights grid c.flight c.leg g on.leg; limit_most = on.limit_most; wait_most = on.wait_most }
change_fits flights grid (ToSale c) g on = leg_fits flights grid c.flight c.leg g on

each_fits : (flights : List Flown) (grid : Ladders) (changes : List Control) → IsGridOf flights grid
    → AllByRecursion (IsOnLeg flights) changes
    → AllByRecursion (λ (c : Control). FitsControl grid c) changes
each_fits flights grid [] g on = tt
each_fits flights grid (c ∷ changes) g on = (change_fits flights grid c g on.0, each_fits flights grid changes g on.1)

-- what is on legs of the flights fits the grid
pub changes_fit : (flights : List Flown) (grid : Ladders) (changes : List Control) → IsGridOf flights grid
    → AllByRecursion (IsOnLeg flights) changes
    → All (λ (c : Control). FitsControl grid c) changes
changes_fit flights grid changes g on = all_of (λ (c : Control). FitsControl grid c) changes (each_fits flights grid changes g on)
