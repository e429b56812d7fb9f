-- Grids of ladders.
use Rattle.std.proofs.Common.{◌≡◌, ◌∙◌, ◌<◌, ◌≤◌, ℕ, false, nat_lt, Some, None, List, [], Option, length, replicate, get_or, unwrap_or, refl, ap, sym, subst, arith}
use Rattle.std.specs.List.{slice_get}
use Rattle.std.proofs.lemmas.Bool.Decides.{nat_tests}
use Rattle.std.proofs.lemmas.List.{get_or_past}
use Rattle.std.proofs.lemmas.Option.{unwrap_or-slice_get}
use Rattle.seat_nesting.specs.declared.counted_flights.LegPart.{LegPart}
use Rattle.seat_nesting.specs.declared.counted_flights.FlightPart.{FlightPart}
use Rattle.seat_nesting.specs.declared.laid_out.Layout.{Layout}
use Rattle.seat_nesting.specs.Nesting.{Steps, Ladders, IsDistinct, HasLadders, ladder_at, legs_of}
use Rattle.seat_nesting.specs.Counting.{LegSeats, leg_at, limits_of}
use Rattle.seat_nesting.specs.OwnLadders.{CountedLeg, Pool, pool_of, steps_by, all_seen, counted_at}
use Rattle.seat_nesting.specs.FlatCounts.{IsLaid, counted_by, flights_by, grid_in, leg_index, leg_steps, no_flight, no_part}
use Rattle.seat_nesting.proofs.CountedLegs.{steps_seen}
use Rattle.seat_nesting.proofs.FlatCounts.{IsAt, at_map, finds_at, flight_at, found_counted, none_counted}
use Rattle.seat_nesting.proofs.LegCounting.{get_or_any}
use Rattle.seat_nesting.proofs.LimitChanges.{ladder_seen}
use Rattle.seat_nesting.proofs.Layouts.{fresh_laid, grid_laid, layout_laid, limits_laid}

-- ---- where a leg of a grid is

-- as many legs as a flight has
legs_laid : (layout : Layout) (grid : Ladders) (flight : ℕ) → IsLaid layout grid
    → (flight_at layout.flights.items flight).legs ≡ length (legs_of grid flight)
legs_laid layout grid flight laid =
    sym (at_map (λ (f : FlightPart). f.legs) layout.flights.items flight no_flight)
    ∙ ap (λ (l : List ℕ). unwrap_or (slice_get l flight) 0) laid.sizes
    ∙ at_map (λ (l : List Steps). length l) grid flight []

pub finds_flight : (layout : Layout) (grid : Ladders) (all : List FlightPart) (flight : ℕ) (found : FlightPart)
    → IsLaid layout grid → all ≡ layout.flights.items → flight < length all → found ≡ get_or all flight found
    → found.legs ≡ length (legs_of grid flight)
finds_flight layout grid all flight found laid all_are lt is =
    ap (λ (f : FlightPart). f.legs) (is ∙ get_or_any all flight found no_flight lt ∙ sym (unwrap_or-slice_get all flight no_flight))
    ∙ ap (λ (f : List FlightPart). (flight_at f flight).legs) all_are
    ∙ legs_laid layout grid flight laid

pub finds_no_flight : (layout : Layout) (grid : Ladders) (all : List FlightPart) (flight : ℕ)
    → IsLaid layout grid → all ≡ layout.flights.items → false ≡ nat_lt flight (length all)
    → 0 ≡ length (legs_of grid flight)
finds_no_flight layout grid all flight laid all_are out =
    let past : length all ≤ flight = grind (arith, nat_tests, out) in
    ap (λ (f : FlightPart). f.legs) (sym (unwrap_or-slice_get all flight no_flight ∙ get_or_past all flight no_flight past))
    ∙ ap (λ (f : List FlightPart). (flight_at f flight).legs) all_are
    ∙ legs_laid layout grid flight laid

-- the ladder of a leg
counted_steps : (layout : Layout) (grid : Ladders) (flight leg : ℕ) → IsLaid layout grid
    → steps_by (pool_of layout.shared.items []) (counted_at (flights_by (replicate layout.numbers 0) layout.legs.items layout.flights.items) flight leg).limits
    ≡ ladder_at grid flight leg
counted_steps layout grid flight leg laid =
    let run : List ℕ = replicate layout.numbers 0 in
    let pool : Pool = pool_of layout.shared.items [] in
    steps_seen pool (flights_by run layout.legs.items layout.flights.items) (all_seen pool (flights_by run layout.legs.items layout.flights.items)) flight leg refl
    ∙ ap (λ (g : Ladders). ladder_at g flight leg) (limits_laid layout grid run laid)

pub leg_is_at : (layout : Layout) (grid : Ladders) (all : List FlightPart) (flight leg i : ℕ) (o : Option ℕ)
    → IsLaid layout grid → all ≡ layout.flights.items → o ≡ leg_index all flight leg → o ≡ Some i
    → IsAt layout.legs.items layout.flights.items flight leg i
leg_is_at layout grid all flight leg i o laid all_are o_is some =
    let run : List ℕ = replicate layout.numbers 0 in
    finds_at run layout.legs.items layout.flights.items all flight leg i o (layout_laid layout grid run laid refl) all_are o_is some

pub leg_found : (layout : Layout) (grid : Ladders) (flight leg i : ℕ) (found : LegPart)
    → IsLaid layout grid → IsAt layout.legs.items layout.flights.items flight leg i
    → found ≡ get_or layout.legs.items i found → leg_steps layout.shared.items found ≡ ladder_at grid flight leg
leg_found layout grid flight leg i found laid at is =
    let run : List ℕ = replicate layout.numbers 0 in
    ap (leg_steps layout.shared.items) (is ∙ get_or_any layout.legs.items i found no_part at.inside)
    ∙ ap (λ (c : CountedLeg). steps_by (pool_of layout.shared.items []) c.limits) (sym (found_counted run layout.legs.items layout.flights.items flight leg i at))
    ∙ counted_steps layout grid flight leg laid

pub leg_not_found : (layout : Layout) (grid : Ladders) (all : List FlightPart) (flight leg : ℕ) (o : Option ℕ)
    → IsLaid layout grid → all ≡ layout.flights.items → o ≡ leg_index all flight leg → o ≡ None
    → ladder_at grid flight leg ≡ []
leg_not_found layout grid all flight leg o laid all_are o_is none =
    let run : List ℕ = replicate layout.numbers 0 in
    let out : leg_index layout.flights.items flight leg ≡ None = ap (λ (f : List FlightPart). leg_index f flight leg) (sym all_are) ∙ sym o_is ∙ none in
    sym (counted_steps layout grid flight leg laid)
    ∙ ap (λ (c : CountedLeg). steps_by (pool_of layout.shared.items []) c.limits) (none_counted run layout.legs.items layout.flights.items flight leg out)

-- no class stands twice
pub laid_ladders : (layout : Layout) (grid : Ladders) → IsLaid layout grid → HasLadders grid
laid_ladders layout grid laid flight leg =
    let run : List ℕ = replicate layout.numbers 0 in
    let seen = all_seen (pool_of layout.shared.items []) (flights_by run layout.legs.items layout.flights.items) in
    subst IsDistinct (sym (ladder_seen seen flight leg) ∙ ap (λ (g : Ladders). ladder_at g flight leg) (limits_laid layout grid run laid))
    (fresh_laid layout grid laid flight leg).kept.ladder.distinct
