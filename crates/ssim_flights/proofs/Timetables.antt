-- Flights by rows: local days round by round, and the legs and the rows of an itinerary more.
use Rattle.std.proofs.Common.{◌≡◌, ℕ, ◌+◌, ◌-◌, ◌*◌, ◌/◌, ◌%◌, ◌<◌, ◌≤◌, false, List, [], ◌∷◌, ◌++◌, length, get_or, set, map, take, drop, All, Option, Some, option_map, ℤ, pos, negsuc, ◌+ℤ◌, ◌≤ℤ◌, unsigned_abs, inl, inr, refl, sym, ap, subst, ◌∙◌, arith, append_assoc, append-nil, length-append}
use Rattle.ssim_flights.proofs.Common.{range_with_len, Leg, Flight, Plan, Scheduled, chain, operating_days, rows, schedule, flight_on}
use Rattle.std.specs.Prelude.{◌⊎◌, slice_get}
use Rattle.std.specs.List.{slice_range}
use Rattle.std.proofs.Math.Seq.{drop-append_seam}
use Rattle.std.proofs.lemmas.Bool.{cases_lt}
use Rattle.std.proofs.lemmas.List.{drop-append-le, get_or-set_same, get_or-set_other, length-drop, length-map, length-take, map-append, take_all, take_more, take-append-le}
use Rattle.std.proofs.lemmas.List.Elements.{All-nil, All-cons, All-append, All-filter, All-get_or, All-head, All-map, All-tail, All-weaker}
use Rattle.std.proofs.lemmas.Option.{slice_get-map, slice_get_past, slice_get_read}
use Rattle.jiff_core.proofs.SignedLemmas.{signed_arith}
use Rattle.ssim_flights.specs.declared.flight.DatedLeg.{DatedLeg}
use Rattle.ssim_flights.specs.declared.flight.Wanted.{Wanted}
use Rattle.ssim_flights.specs.declared.local_days.LocalDays.{LocalDays}
use Rattle.ssim_flights.specs.declared.timetable.FlightRow.{FlightRow}
use Rattle.ssim_flights.specs.declared.timetable.PlannedLeg.{PlannedLeg}
use Rattle.ssim_flights.specs.declared.timetable.Timetable.{Timetable}
use Rattle.ssim_flights.specs.Operating.{Operation, last_day, operates, operation}
use Rattle.ssim_flights.specs.Right.{IsRightLeg}
use Rattle.ssim_flights.specs.Rounds.{AreRounds, round_days}
use Rattle.ssim_flights.specs.Schedules.{dated_leg, scheduled, Reaches}
use Rattle.ssim_flights.specs.Slots.{has_name, is_wanted}
use Rattle.ssim_flights.specs.Timetables.{at_row, flight_at, flights_in, legs_at, local_of, planned_on, AreLocals, AreLocalsOf, ArePlanned, AreShifted, IsFit, IsPlanned, IsRowOf, IsTable}
use Rattle.ssim_flights.proofs.Chaining.{chain_right, reach_first, reach_from}
use Rattle.ssim_flights.proofs.Departing.{local_back, operations_are}
use Rattle.ssim_flights.proofs.OperatingDays.{range_within}
use Rattle.ssim_flights.proofs.Repeating.{few}
use Rattle.ssim_flights.proofs.Rounding.{is_placed, last_small, round_bounds, IsPlaced}

-- ---- days that lie so many days later

pub shifted_none : (after : ℤ) (days shifted : List ℕ) → AreShifted after days 0 shifted
shifted_none after days shifted = record { at = λ j h. absurd (omega arith) }

pub shifted_more : (after : ℤ) (days old new : List ℕ) (j x : ℕ) → j < length old → AreShifted after days j old
    → new ≡ set old j x → x ≡ unsigned_abs (pos (get_or days j 0) +ℤ after) → AreShifted after days (j + 1) new
shifted_more after days old new j x inside so_far is here = record { at = λ k h. by k h (cases_lt k j) }
  where
    by : (k : ℕ) → k < j + 1 → (k < j) ⊎ (j ≤ k) → get_or new k 0 ≡ unsigned_abs (pos (get_or days k 0) +ℤ after)
    by k h (inl below) = ap (λ (xs : List ℕ). get_or xs k 0) is ∙ (get_or-set_other old j k x 0 (omega arith) ∙ so_far.at k below)
    by k h (inr past) =
        let same : j ≡ k = omega arith in
        subst (λ (i : ℕ). get_or new i 0 ≡ unsigned_abs (pos (get_or days i 0) +ℤ after)) same
        (ap (λ (xs : List ℕ). get_or xs j 0) is ∙ (get_or-set_same old j x 0 inside ∙ here))

from_zero : (z : ℤ) → pos 10592 ≤ℤ z → z ≡ pos (unsigned_abs z)
from_zero (pos n) low = refl
from_zero (negsuc n) low = absurd (omega (arith, signed_arith))

later : (a p : ℕ) (after : ℤ) → 10957 ≤ a → negsuc 1 ≤ℤ after
    → unsigned_abs (pos a +ℤ after) + p ≡ unsigned_abs (pos (a + p) +ℤ after)
later a p after low h =
    let here = from_zero (pos a +ℤ after) (omega (arith, signed_arith)) in
    let there = from_zero (pos (a + p) +ℤ after) (omega (arith, signed_arith)) in
    omega (arith, signed_arith)

near : (a : ℕ) (after : ℤ) → 10957 ≤ a → a ≤ 47846 → negsuc 1 ≤ℤ after → after ≤ℤ pos 8
    → (10592 ≤ unsigned_abs (pos a +ℤ after)) × (unsigned_abs (pos a +ℤ after) ≤ 47854)
near a after low high l h =
    let here = from_zero (pos a +ℤ after) (omega (arith, signed_arith)) in
    (omega (arith, signed_arith), omega (arith, signed_arith))

-- a day of the first round
pub round_range : (leg : Leg) (end : ℕ) (first : List ℕ) (count : ℕ) → AreRounds leg end first count
    → All (λ d. (10957 ≤ d) × (d ≤ 47846)) first
round_range leg end first count are =
    subst (λ (ds : List ℕ). All (λ d. (10957 ≤ d) × (d ≤ 47846)) ds) (sym are.first)
    (All-filter (operates leg) (λ d. (10957 ≤ d) × (d ≤ 47846)) (range_with_len leg.from (round_days leg.second_week))
    (All-weaker (λ d. (leg.from ≤ d) × (d < leg.from + round_days leg.second_week)) (λ d. (10957 ≤ d) × (d ≤ 47846)) (λ d h. within d h.0 h.1) (range_with_len leg.from (round_days leg.second_week))
    (range_within leg.from (round_days leg.second_week))))
  where
    within : (d : ℕ) → leg.from ≤ d → d < leg.from + round_days leg.second_week → (10957 ≤ d) × (d ≤ 47846)
    within d low high =
        let from = are.from.begun in
        let lasts = are.from.lasts in
        let bounds = round_bounds leg.second_week in
        (omega arith, omega arith)

module _ (leg : Leg) (end : ℕ) (days first : List ℕ) (count : ℕ) (after : ℤ) (locals : LocalDays) (are : AreRounds leg end first count) (view : operating_days leg end ≡ days) (low : negsuc 1 ≤ℤ after) (high : after ≤ℤ pos 8) (shifted : AreShifted after first (length first) locals.first) (many : locals.many ≡ length first) (round : locals.round ≡ round_days leg.second_week) where
  place_of_day : (i : ℕ) → i < length days → IsPlaced leg days first i (round_days leg.second_week)
  place_of_day i h = is_placed leg end days first first count i (round_days leg.second_week) are refl view refl h

  local_at_day : (i : ℕ) → i < length days → local_of locals i ≡ unsigned_abs (pos (get_or days i 0) +ℤ after)
  local_at_day i h =
      let q = place_of_day i h in
      let range : (10957 ≤ get_or first (i % length first) 0) × (get_or first (i % length first) 0 ≤ 47846) =
      All-get_or (λ d. (10957 ≤ d) × (d ≤ 47846)) first (i % length first) 0 q.place (round_range leg end first count are) in
      ap (λ (k : ℕ). get_or locals.first (i % k) 0 + i / k * locals.round) many
      ∙ (ap (λ (c : ℕ). get_or locals.first (i % length first) 0 + i / length first * c) round
      ∙ (ap (λ (d : ℕ). d + i / length first * round_days leg.second_week) (shifted.at (i % length first) q.place)
      ∙ (later (get_or first (i % length first) 0) (i / length first * round_days leg.second_week) after range.0 low
      ∙ ap (λ (d : ℕ). unsigned_abs (pos d +ℤ after)) q.day)))

  pub locals_are : AreLocals after days locals
  locals_are = record { at = local_at_day; fit = fits }
    where
      fits : (i : ℕ) → i < length days → IsFit i locals
      fits i h =
          let q = place_of_day i h in
          let some = q.some in
          let few = q.few in
          let is = local_at_day i h in
          let range = near (get_or days i 0) after q.low q.high low high in
          record { some = omega arith; few = omega arith; begun = omega arith; lasts = omega arith }

pub locals_of : (after : ℤ) (days : List ℕ) (operations : List Operation) (locals : LocalDays)
    → map (operation after) days ≡ operations → AreLocals after days locals → AreLocalsOf operations locals
locals_of after days operations locals view are = subst (λ (os : List Operation). AreLocalsOf os locals) view (record {
  at = λ i h. are.at i (inside i h) ∙ sym (local_back after days i (inside i h));
  fit = λ i h. are.fit i (inside i h);
})
  where
    inside : (i : ℕ) → i < length (map (operation after) days) → i < length days
    inside i h = subst (λ (n : ℕ). i < n) (length-map days (operation after)) h

-- ---- legs that are planned

pub planned_is : (leg : Scheduled) (planned : PlannedLeg) → planned.time ≡ leg.time → planned.board ≡ leg.leg.board
    → planned.off ≡ leg.leg.off → AreLocalsOf leg.operations planned.days → IsPlanned leg planned
planned_is leg planned time board off are = record {
  on = λ i h. ap (λ (t : ℕ). timed (local_of planned.days i) t planned.board planned.off) time
      ∙ (ap (λ (b : List ℕ). timed (local_of planned.days i) leg.time b planned.off) board
      ∙ (ap (λ (o : List ℕ). timed (local_of planned.days i) leg.time leg.leg.board o) off
      ∙ ap (λ (d : ℕ). timed d leg.time leg.leg.board leg.leg.off) (are.at i h)));
  fit = are.fit;
}
  where
    timed : ℕ → ℕ → List ℕ → List ℕ → DatedLeg
    timed day time board off = record { day = day; time = time; board = board; off = off }

pub planned_none : (old : List PlannedLeg) → ArePlanned old old []
planned_none old = record {
  more = [];
  items = sym (append-nil old);
  long = refl;
  on = λ i h. refl;
  fit = λ i h. All-nil (λ leg. IsFit i leg.days);
}

reach_front : (legs : List Scheduled) (leg : Scheduled) (i : ℕ) → Reaches (legs ++ leg ∷ []) i
    → Reaches legs i × (i < length leg.operations)
reach_front [] leg i h = (All-nil (λ each. i < length each.operations), All-head (λ each. i < length each.operations) leg [] h)
reach_front (first ∷ legs) leg i h =
    let rest = reach_front legs leg i (All-tail (λ each. i < length each.operations) first (legs ++ leg ∷ []) h) in
    (All-cons (λ each. i < length each.operations) first legs (All-head (λ each. i < length each.operations) first (legs ++ leg ∷ []) h) rest.0, rest.1)

pub planned_more : (old mid new : List PlannedLeg) (legs : List Scheduled) (j : ℕ) (leg : Scheduled)
    (planned : PlannedLeg) → j < length legs → leg ≡ get_or legs j leg → ArePlanned old mid (take j legs)
    → IsPlanned leg planned → new ≡ mid ++ planned ∷ [] → ArePlanned old new (take (j + 1) legs)
planned_more old mid new legs j leg planned inside at so_far is pushed =
    subst (λ (ls : List Scheduled). ArePlanned old new ls) (sym front) (record {
      more = so_far.more ++ planned ∷ [];
      items = pushed ∙ (ap (λ (ls : List PlannedLeg). ls ++ planned ∷ []) so_far.items ∙ append_assoc old so_far.more (planned ∷ []));
      long = length-append so_far.more (planned ∷ []) ∙ (ap (λ (n : ℕ). n + 1) so_far.long ∙ sym (length-append (take j legs) (leg ∷ [])));
      on = λ i h.
          map-append (planned_on i) so_far.more (planned ∷ [])
          ∙ (ap (λ (ls : List DatedLeg). ls ++ planned_on i planned ∷ []) (so_far.on i (reach_front (take j legs) leg i h).0)
          ∙ (ap (λ (l : DatedLeg). map (dated_leg i) (take j legs) ++ l ∷ []) (is.on i (reach_front (take j legs) leg i h).1)
          ∙ sym (map-append (dated_leg i) (take j legs) (leg ∷ []))));
      fit = λ i h.
          All-append (λ l. IsFit i l.days) so_far.more (planned ∷ []) (so_far.fit i (reach_front (take j legs) leg i h).0)
          (All-cons (λ l. IsFit i l.days) planned [] (is.fit i (reach_front (take j legs) leg i h).1) (All-nil (λ l. IsFit i l.days)));
    })
  where
    front : take (j + 1) legs ≡ take j legs ++ leg ∷ []
    front = take_more legs j leg inside ∙ ap (λ (x : Scheduled). take j legs ++ x ∷ []) (sym at)

pub planned_all : (old new : List PlannedLeg) (legs : List Scheduled) (j : ℕ) → length legs ≤ j
    → ArePlanned old new (take j legs) → ArePlanned old new legs
planned_all old new legs j past are = subst (λ (ls : List Scheduled). ArePlanned old new ls) (take_all j legs past) are

-- ---- the flights of a timetable

same_legs : (old more : List PlannedLeg) (row : FlightRow) → row.start + row.count ≤ length old
    → legs_at (old ++ more) row ≡ legs_at old row
same_legs old more row inside =
    let left = length-drop row.start old in
    ap (take (row.start + row.count - row.start)) (drop-append-le row.start old more (omega arith))
    ∙ take-append-le (row.start + row.count - row.start) (drop row.start old) more (omega arith)

own_legs : (old more : List PlannedLeg) (start count : ℕ) → start ≡ length old → count ≡ length more
    → slice_range (old ++ more) start (start + count) ≡ more
own_legs old more start count at many =
    let all : start + count - start ≡ length more = omega arith in
    ap (λ (n : ℕ). take n (drop start (old ++ more))) all
    ∙ (ap (λ (n : ℕ). take (length more) (drop n (old ++ more))) at
    ∙ (ap (take (length more)) (drop-append_seam old more) ∙ take_all (length more) more (omega arith)))

abbrev with_legs : FlightRow → List DatedLeg → Flight
with_legs row legs = record { airline = row.airline; number = row.number; suffix = row.suffix; legs = legs }

same_flights : (old more : List PlannedLeg) (rows : List FlightRow) → All (IsRowOf old) rows
    → map (flight_at (old ++ more)) rows ≡ map (flight_at old) rows
same_flights old more [] all = refl
same_flights old more (row ∷ rows) all =
    ap (λ (ls : List PlannedLeg). with_legs row (map (planned_on row.row) ls) ∷ map (flight_at (old ++ more)) rows) (same_legs old more row (All-head (IsRowOf old) row rows all).inside)
    ∙ ap (λ (fs : List Flight). flight_at old row ∷ fs) (same_flights old more rows (All-tail (IsRowOf old) row rows all))

-- the first row of an itinerary
abbrev pub first_row : Plan → Leg → ℕ → ℕ → FlightRow
first_row plan first start count = record {
  start = start;
  row = 0;
  number = first.number;
  suffix = first.suffix;
  airline = plan.airline;
  count = count;
}

own_flights : (plan : Plan) (first : Leg) (old more : List PlannedLeg) (legs : List Scheduled) (start count : ℕ)
    (rows : List ℕ) → start ≡ length old → count ≡ length more
    → ((i : ℕ) → Reaches legs i → map (planned_on i) more ≡ map (dated_leg i) legs) → All (Reaches legs) rows
    → map (flight_at (old ++ more)) (map (at_row (first_row plan first start count)) rows)
    ≡ map (flight_on plan first legs) rows
own_flights plan first old more legs start count [] at many on all = refl
own_flights plan first old more legs start count (i ∷ rows) at many on all =
    ap (λ (ls : List DatedLeg). with_legs (first_row plan first start count) ls ∷ map (flight_at (old ++ more)) (map (at_row (first_row plan first start count)) rows))
    (ap (map (planned_on i)) (own_legs old more start count at many) ∙ on i (All-head (Reaches legs) i rows all))
    ∙ ap (λ (fs : List Flight). flight_on plan first legs i ∷ fs) (own_flights plan first old more legs start count rows at many on (All-tail (Reaches legs) i rows all))

own_rows : (plan : Plan) (first : Leg) (old more : List PlannedLeg) (legs : List Scheduled) (start count : ℕ)
    (rows : List ℕ) → start ≡ length old → count ≡ length more → count ≤ 8
    → ((i : ℕ) → Reaches legs i → All (λ leg. IsFit i leg.days) more) → All (Reaches legs) rows
    → All (IsRowOf (old ++ more)) (map (at_row (first_row plan first start count)) rows)
own_rows plan first old more legs start count rows at many few fit all =
    All-map (IsRowOf (old ++ more)) (at_row (first_row plan first start count)) rows
    (All-weaker (Reaches legs) (λ i. IsRowOf (old ++ more) (at_row (first_row plan first start count) i)) (λ i h. record {
      inside = let n = length-append old more in omega arith;
      few = few;
      fit = subst (λ (ls : List PlannedLeg). All (λ leg. IsFit i leg.days) ls) (sym (own_legs old more start count at many)) (fit i h);
    }) rows all)

row_still : (old more : List PlannedLeg) (row : FlightRow) → IsRowOf old row → IsRowOf (old ++ more) row
row_still old more row is = record {
  inside = let n = length-append old more in let inside = is.inside in omega arith;
  few = is.few;
  fit = subst (λ (ls : List PlannedLeg). All (λ leg. IsFit row.row leg.days) ls) (sym (same_legs old more row is.inside)) is.fit;
}

module _ (plan : Plan) (first : Leg) (legs : List Scheduled) (is : List ℕ) (old new : Timetable) (start count : ℕ) (table : IsTable old) (at : start ≡ length old.legs.items) (many : count ≡ length legs) (few : length legs ≤ 8) (planned : ArePlanned old.legs.items new.legs.items legs) (rows : new.rows.items ≡ old.rows.items ++ map (at_row (first_row plan first start count)) is) (reach : All (Reaches legs) is) where
  pub flights_added : flights_in new ≡ flights_in old ++ map (flight_on plan first legs) is
  unfolding flights_in
  flights_added =
      ap (λ (ls : List PlannedLeg). map (flight_at ls) new.rows.items) planned.items
      ∙ (ap (map (flight_at (old.legs.items ++ planned.more))) rows
      ∙ (map-append (flight_at (old.legs.items ++ planned.more)) old.rows.items (map (at_row (first_row plan first start count)) is)
      ∙ (ap (λ (fs : List Flight). fs ++ map (flight_at (old.legs.items ++ planned.more)) (map (at_row (first_row plan first start count)) is)) (same_flights old.legs.items planned.more old.rows.items table.rows)
      ∙ ap (λ (fs : List Flight). map (flight_at old.legs.items) old.rows.items ++ fs) (own_flights plan first old.legs.items planned.more legs start count is at (many ∙ sym planned.long) planned.on reach))))

  pub table_added : 1 ≤ length is → IsTable new
  table_added some = record {
    rows = subst (λ (rs : List FlightRow). All (IsRowOf new.legs.items) rs) (sym rows)
        (subst (λ (ls : List PlannedLeg). All (IsRowOf ls) (old.rows.items ++ map (at_row (first_row plan first start count)) is)) (sym planned.items)
        (All-append (IsRowOf (old.legs.items ++ planned.more)) old.rows.items (map (at_row (first_row plan first start count)) is)
        (All-weaker (IsRowOf old.legs.items) (IsRowOf (old.legs.items ++ planned.more)) (λ row h. row_still old.legs.items planned.more row h) old.rows.items table.rows)
        (own_rows plan first old.legs.items planned.more legs start count is at (many ∙ sym planned.long) (omega arith) planned.fit reach)));
    small =
        let all = ap length planned.items ∙ length-append old.legs.items planned.more in
        let more = planned.long in
        let flown = ap length rows ∙ length-append old.rows.items (map (at_row (first_row plan first start count)) is) in
        let each = length-map is (at_row (first_row plan first start count)) in
        let small = table.small in
        omega arith;
  }

pub table_none : (table : Timetable) → table.legs.items ≡ [] → table.rows.items ≡ [] → IsTable table
table_none table legs rows = record {
  rows = subst (λ (rs : List FlightRow). All (IsRowOf table.legs.items) rs) (sym rows) (All-nil (IsRowOf table.legs.items));
  small = let l = ap length legs in omega arith;
}

pub many_flights : (table : Timetable) → length (flights_in table) ≡ length table.rows.items
unfolding flights_in
many_flights table = length-map table.rows.items (flight_at table.legs.items)

pub row_known : (table : Timetable) (i : ℕ) (row : FlightRow) → IsTable table → i < length table.rows.items
    → row ≡ get_or table.rows.items i row → IsRowOf table.legs.items row
row_known table i row is inside at =
    subst (λ (r : FlightRow). IsRowOf table.legs.items r) (sym at) (All-get_or (IsRowOf table.legs.items) table.rows.items i row inside is.rows)

pub few_legs_at : (legs : List PlannedLeg) (row : FlightRow) → IsRowOf legs row → length (legs_at legs row) ≤ 8
few_legs_at legs row is =
    let few = is.few in
    let n = length-take (row.start + row.count - row.start) (drop row.start legs) in
    omega arith

pub flight_known : (table : Timetable) (i : ℕ) (row : FlightRow) (legs : List DatedLeg) → i < length table.rows.items
    → row ≡ get_or table.rows.items i row → legs ≡ map (planned_on row.row) (legs_at table.legs.items row)
    → slice_get (flights_in table) i ≡ Some (with_legs row legs)
unfolding flights_in
flight_known table i row legs inside at are =
    slice_get-map (flight_at table.legs.items) table.rows.items i
    ∙ (ap (λ (o : Option FlightRow). option_map (flight_at table.legs.items) o) (slice_get_read table.rows.items (length table.rows.items) i row refl inside at)
    ∙ ap (λ (ls : List DatedLeg). Some (with_legs row ls)) (sym are))

pub name_some : (table : Timetable) (rows : List FlightRow) (i : ℕ) (row : FlightRow) (w : Wanted)
    → rows ≡ table.rows.items → i < length rows → row ≡ get_or rows i row
    → is_wanted w row.number row.suffix ≡ has_name w (slice_get (flights_in table) i)
unfolding flights_in
name_some table rows i row w are inside at =
    sym (ap (has_name w) (slice_get-map (flight_at table.legs.items) table.rows.items i
    ∙ ap (option_map (flight_at table.legs.items)) (ap (λ (rs : List FlightRow). slice_get rs i) (sym are) ∙ slice_get_read rows (length rows) i row refl inside at)))

pub name_none : (table : Timetable) (rows : List FlightRow) (i : ℕ) (w : Wanted) → rows ≡ table.rows.items
    → length rows ≤ i → false ≡ has_name w (slice_get (flights_in table) i)
unfolding flights_in
name_none table rows i w are past =
    sym (ap (has_name w) (slice_get-map (flight_at table.legs.items) table.rows.items i
    ∙ ap (option_map (flight_at table.legs.items)) (ap (λ (rs : List FlightRow). slice_get rs i) (sym are) ∙ slice_get_past rows i past)))

-- ---- rows are small numbers

leg_small : (plan : Plan) (leg : Leg) → IsRightLeg leg → plan.end ≤ 47846
    → length (scheduled plan leg).operations ≤ 36890
leg_small plan leg right end =
    let n = operations_are plan leg in
    let m = few (operates leg) leg.from (last_day leg plan.end + 1 - leg.from) in
    let last = last_small leg.to leg.from plan.end right.to end in
    let begun = right.from.begun in
    omega arith

first_small : (plan : Plan) (legs : List Leg) (first : Scheduled) (rest : List Scheduled) → All IsRightLeg legs
    → plan.end ≤ 47846 → map (scheduled plan) legs ≡ first ∷ rest → length first.operations ≤ 36890
first_small plan [] first rest right end e = cc
first_small plan (leg ∷ legs) first rest right end e =
    let same : scheduled plan leg ≡ first = cc in
    subst (λ (s : Scheduled). length s.operations ≤ 36890) same (leg_small plan leg (All-head IsRightLeg leg legs right) end)

pub rows_small : (plan : Plan) (legs : List Leg) (first : Scheduled) (rest chained : List Scheduled) (is : List ℕ)
    → All IsRightLeg legs → plan.end ≤ 47846 → chained ≡ schedule plan (chain legs) → chained ≡ first ∷ rest
    → is ≡ rows plan chained → All (λ i. i < 65536) is
rows_small plan legs first rest chained is right end e parts r =
    let small = first_small plan (chain legs) first rest (chain_right IsRightLeg legs right) end (sym e ∙ parts) in
    All-weaker (λ i. i < length first.operations) (λ i. i < 65536) (λ i h. omega arith) is
    (reach_first first rest chained is parts (reach_from plan chained is r))
