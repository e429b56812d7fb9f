-- The pairs of legs, and the row of a pair.
use Rattle.std.proofs.Common.{Bool, true, false, ◌≡◌, ℕ, ◌+◌, ◌<◌, ◌≤◌, List, [], ◌∷◌, length, drop, get_or, refl, sym, ap, subst, ◌∙◌, arith, if◌then◌else◌}
use Rattle.std.proofs.Math.ListN.{drop_of_length-le}
use Rattle.std.specs.Prelude.{nat_lt}
use Rattle.ssim_flights.specs.declared.flight.DatedLeg.{DatedLeg}
use Rattle.ssim_flights.specs.declared.flight.Flight.{Flight as Flown}
use Rattle.ssim_flights.proofs.Walks.{drop_step}
use Rattle.seat_rules.specs.Sequential.{State}
use Rattle.seat_questions.specs.declared.rooms.CityPair.{CityPair}
use Rattle.seat_loads.specs.Legs.{is_kept}
use Rattle.seat_loads.specs.Sums.{AreSums, one, over_legs}
use Rattle.seat_loads.specs.declared.loads.LoadsOf.{LoadsOf}
use Rattle.seat_loads.specs.declared.sums.Sums.{Sums}
use Rattle.seat_tables.specs.Sheets.{ArePut, IsReady}
use Rattle.seat_tables.specs.declared.cell.Cell.{Cell}
use Rattle.seat_tables.specs.declared.sheet.Sheet.{Sheet}
use Rattle.table_questions.proofs.Tables.{rows_kept, rows_left}
use Rattle.table_questions.specs.SumRows.{on_pair, pair_cells, pair_names, pair_row, sums_of_pair, with_flights, with_legs, with_pair}

same_cells : (asked : LoadsOf) (s : State) (flights : List Flown) (pair : CityPair) (sums : Sums) → AreSums asked s flights sums
    → pair_cells pair sums ≡ pair_row asked s flights pair
same_cells asked s flights pair sums are =
    rw (are.legs.legs, are.legs.seats, are.legs.limits, are.riders.held, are.riders.waiting) refl

-- the sums of the pair say whether it has a row
same_keep : (asked other : LoadsOf) (s : State) (flights : List Flown) (pair : CityPair) (sums : Sums) (keep : Bool)
    → other ≡ on_pair asked pair → AreSums other s flights sums → keep ≡ nat_lt 0 sums.legs.legs
    → keep ≡ nat_lt 0 (over_legs (on_pair asked pair) one flights)
same_keep asked other s flights pair sums keep same are is =
    is ∙ ap (λ (n : ℕ). nat_lt 0 n) (are.legs.legs ∙ ap (λ (a : LoadsOf). over_legs a one flights) same)

pub pair_left : (asked other : LoadsOf) (s : State) (flights : List Flown) (pair : CityPair) (sums : Sums) (keep : Bool) (sheet : Sheet)
    → other ≡ on_pair asked pair → AreSums other s flights sums → keep ≡ nat_lt 0 sums.legs.legs
    → keep ≡ false → IsReady sheet → ArePut pair_names (sums_of_pair asked s flights 0 pair) sheet sheet
pair_left asked other s flights pair sums keep sheet same are is e ready =
    rows_left pair_names (pair_row (on_pair asked pair) s flights pair ∷ []) _ sheet
    (sym (same_keep asked other s flights pair sums keep same are is) ∙ e) ready

pub pair_kept : (asked other : LoadsOf) (s : State) (flights : List Flown) (pair : CityPair) (sums : Sums) (keep : Bool) (old new : Sheet)
    → other ≡ on_pair asked pair → AreSums other s flights sums → keep ≡ nat_lt 0 sums.legs.legs
    → keep ≡ true → ArePut pair_names (pair_cells pair sums ∷ []) old new → ArePut pair_names (sums_of_pair asked s flights 0 pair) old new
pair_kept asked other s flights pair sums keep old new same are is e put =
    let own : AreSums (on_pair asked pair) s flights sums = subst (λ (a : LoadsOf). AreSums a s flights sums) same are in
    rows_kept pair_names (pair_row (on_pair asked pair) s flights pair ∷ []) _ old new
    (sym (same_keep asked other s flights pair sums keep same are is) ∙ e)
    (subst (λ (cells : List Cell). ArePut pair_names (cells ∷ []) old new) (same_cells (on_pair asked pair) s flights pair sums own) put)

-- ---- the pairs of the legs so far

pub leg_more : (keeps : DatedLeg → Bool) (legs : List DatedLeg) (j : ℕ) (leg : DatedLeg) (pairs new whole : List CityPair)
    → with_legs keeps pairs (drop j legs) ≡ whole → j < length legs → leg ≡ get_or legs j leg
    → new ≡ (if keeps leg then with_pair pairs leg else pairs) → with_legs keeps new (drop (j + 1) legs) ≡ whole
leg_more keeps legs j leg pairs new whole so_far inside here is =
    ap (λ (p : List CityPair). with_legs keeps p (drop (j + 1) legs)) is
    ∙ sym (ap (λ (l : List DatedLeg). with_legs keeps pairs l) (drop_step legs j leg inside here)) ∙ so_far

pub no_leg_more : (keeps : DatedLeg → Bool) (legs : List DatedLeg) (j : ℕ) (pairs whole : List CityPair)
    → with_legs keeps pairs (drop j legs) ≡ whole → length legs ≤ j → pairs ≡ whole
no_leg_more keeps legs j pairs whole so_far over =
    sym (ap (λ (l : List DatedLeg). with_legs keeps pairs l) (drop_of_length-le legs over)) ∙ so_far

pub flight_more : (asked : LoadsOf) (flights : List Flown) (i : ℕ) (flight : Flown) (pairs new whole : List CityPair)
    → with_flights asked pairs (drop i flights) ≡ whole → i < length flights → flight ≡ get_or flights i flight
    → new ≡ with_legs (is_kept asked) pairs flight.legs → with_flights asked new (drop (i + 1) flights) ≡ whole
flight_more asked flights i flight pairs new whole so_far inside here is =
    ap (λ (p : List CityPair). with_flights asked p (drop (i + 1) flights)) is
    ∙ sym (ap (λ (l : List Flown). with_flights asked pairs l) (drop_step flights i flight inside here)) ∙ so_far

pub no_flight_more : (asked : LoadsOf) (flights : List Flown) (i count : ℕ) (pairs whole : List CityPair)
    → with_flights asked pairs (drop i flights) ≡ whole → count ≡ length flights → count ≤ i → pairs ≡ whole
no_flight_more asked flights i count pairs whole so_far counted over =
    let past : length flights ≤ i = omega (arith, counted, over) in
    sym (ap (λ (l : List Flown). with_flights asked pairs l) (drop_of_length-le flights past)) ∙ so_far
