-- The pairs of flights, and the rows of pairs.
use Rattle.std.proofs.Common.{Bool, true, false, ◌≡◌, ℕ, ◌+◌, ◌<◌, ◌≤◌, List, [], ◌∷◌, length, drop, get_or, Option, sym, ap, ◌∙◌, arith}
use Rattle.std.proofs.Math.ListN.{drop_of_length-le}
use Rattle.ssim_flights.proofs.Walks.{drop_step}
use Rattle.ssim_flights.specs.declared.flight.DatedLeg.{DatedLeg}
use Rattle.ssim_flights.specs.declared.flight.Flight.{Flight as Flown}
use Rattle.seat_lists.specs.declared.picking.Designator.{Designator}
use Rattle.seat_questions.specs.Rooms.{run_of}
use Rattle.seat_questions.specs.declared.rooms.CityPair.{CityPair}
use Rattle.seat_pickup.specs.Moves.{Where}
use Rattle.seat_pickup.specs.Pairs.{between, pairs_at}
use Rattle.seat_pickup.specs.Pickups.{has_any}
use Rattle.seat_pickup.specs.declared.moved.MoveSums.{MoveSums}
use Rattle.seat_pickup.specs.declared.pairing.Pairing.{Pairing}
use Rattle.seat_tables.specs.Rows.{rows_from}
use Rattle.seat_tables.specs.Sheets.{ArePut, IsReady}
use Rattle.seat_tables.specs.declared.sheet.Sheet.{Sheet}
use Rattle.table_questions.specs.SumRows.{with_pair}
use Rattle.pickup_questions.specs.PairRows.{pair_cells, pair_names, pair_rows, pairs_of, rows_of_pair, with_flights, with_lasts, with_places}
use Rattle.pickup_questions.proofs.Grouping.{group_kept, group_left}

-- ---- the pairs so far

pub last_more : (first : DatedLeg) (legs : List DatedLeg) (j : ℕ) (last run : DatedLeg) (pairs new whole : List CityPair)
    → with_lasts pairs first (drop j legs) ≡ whole → j < length legs → last ≡ get_or legs j last → run ≡ run_of first last
    → new ≡ with_pair pairs run → with_lasts new first (drop (j + 1) legs) ≡ whole
last_more first legs j last run pairs new whole so_far inside here as_one is =
    ap (λ (p : List CityPair). with_lasts p first (drop (j + 1) legs)) (is ∙ ap (λ (r : DatedLeg). with_pair pairs r) as_one)
    ∙ sym (ap (λ (l : List DatedLeg). with_lasts pairs first l) (drop_step legs j last inside here)) ∙ so_far

pub lasts_whole : (first : DatedLeg) (legs : List DatedLeg) (j : ℕ) (pairs whole : List CityPair)
    → with_lasts pairs first (drop j legs) ≡ whole → length legs ≤ j → pairs ≡ whole
lasts_whole first legs j pairs whole so_far over =
    sym (ap (λ (l : List DatedLeg). with_lasts pairs first l) (drop_of_length-le legs over)) ∙ so_far

pub place_more : (legs : List DatedLeg) (j : ℕ) (leg : DatedLeg) (lasts : List DatedLeg) (pairs new whole : List CityPair)
    → with_places pairs (drop j legs) ≡ whole → j < length legs → leg ≡ get_or legs j leg → lasts ≡ drop j legs
    → new ≡ with_lasts pairs leg lasts → with_places new (drop (j + 1) legs) ≡ whole
place_more legs j leg lasts pairs new whole so_far inside here from is =
    let rest : drop j legs ≡ leg ∷ drop (j + 1) legs = drop_step legs j leg inside here in
    ap (λ (p : List CityPair). with_places p (drop (j + 1) legs)) (is ∙ ap (λ (l : List DatedLeg). with_lasts pairs leg l) (from ∙ rest))
    ∙ sym (ap (λ (l : List DatedLeg). with_places pairs l) rest) ∙ so_far

pub places_whole : (legs : List DatedLeg) (j : ℕ) (pairs whole : List CityPair) → with_places pairs (drop j legs) ≡ whole
    → length legs ≤ j → pairs ≡ whole
places_whole legs j pairs whole so_far over =
    sym (ap (λ (l : List DatedLeg). with_places pairs l) (drop_of_length-le legs over)) ∙ so_far

pub flight_more : (flights : List Flown) (i : ℕ) (flight : Flown) (pairs new whole : List CityPair)
    → with_flights pairs (drop i flights) ≡ whole → i < length flights → flight ≡ get_or flights i flight
    → new ≡ with_places pairs flight.legs → with_flights new (drop (i + 1) flights) ≡ whole
flight_more flights i flight pairs new whole so_far inside here is =
    ap (λ (p : List CityPair). with_flights p (drop (i + 1) flights)) is
    ∙ sym (ap (λ (l : List Flown). with_flights pairs l) (drop_step flights i flight inside here)) ∙ so_far

pub flights_whole : (flights : List Flown) (i count : ℕ) (pairs whole : List CityPair) → with_flights pairs (drop i flights) ≡ whole
    → count ≡ length flights → count ≤ i → pairs ≡ whole
flights_whole flights i count pairs whole so_far counted over =
    let past : length flights ≤ i = omega (arith, counted, over) in
    sym (ap (λ (l : List Flown). with_flights pairs l) (drop_of_length-le flights past)) ∙ so_far

-- ---- the rows

pub pair_left : (moved : ℕ → ℕ → MoveSums) (n : ℕ) (pair : CityPair) (sums : MoveSums) (any : Bool) (sheet : Sheet)
    → sums ≡ moved n 65 → any ≡ has_any sums → any ≡ false → IsReady sheet → ArePut pair_names (rows_of_pair moved n pair) sheet sheet
pair_left moved n pair sums any sheet same is e ready =
    group_left pair_names (λ s. pair_cells pair s) sums (moved n 65) any sheet same is e ready

pub pair_kept : (moved : ℕ → ℕ → MoveSums) (n : ℕ) (pair : CityPair) (sums : MoveSums) (any : Bool) (old new : Sheet)
    → sums ≡ moved n 65 → any ≡ has_any sums → any ≡ true → ArePut pair_names (pair_cells pair sums ∷ []) old new
    → ArePut pair_names (rows_of_pair moved n pair) old new
pair_kept moved n pair sums any old new same is e put =
    group_kept pair_names (λ s. pair_cells pair s) sums (moved n 65) any old new same is e put

-- those of all pairs of the flights
pub rows_are : (asked : Option Designator) (flights : List Flown) (moved : Where → ℕ → ℕ → MoveSums) (numbered given : List CityPair)
    (pairing : Pairing) → pairing.asked ≡ asked → pairing.flights.now ≡ flights → pairing.pairs.now ≡ numbered
    → numbered ≡ pairs_of flights → given ≡ pairs_of flights
    → rows_from (rows_of_pair (moved (pairs_at pairing))) 0 given ≡ pair_rows asked flights moved
rows_are asked flights moved numbered given pairing by over pairs all these =
    let on : pairs_at pairing ≡ between asked flights (pairs_of flights) =
    ap (λ (a : Option Designator). between a pairing.flights.now pairing.pairs.now) by
    ∙ ap (λ (l : List Flown). between asked l pairing.pairs.now) over
    ∙ ap (λ (p : List CityPair). between asked flights p) (pairs ∙ all) in
    ap (λ (l : List CityPair). rows_from (rows_of_pair (moved (pairs_at pairing))) 0 l) these
    ∙ ap (λ (w : Where). rows_from (rows_of_pair (moved w)) 0 (pairs_of flights)) on
