-- The days of legs, and the rows of days.
use Rattle.std.proofs.Common.{Bool, true, false, ◌&&◌, ◌≡◌, ℕ, zero, suc, ◌+◌, ◌-◌, ◌<◌, ◌≤◌, List, [], ◌∷◌, ◌++◌, length, drop, get_or, min, max, refl, sym, ap, subst, ◌∙◌, arith, append_assoc}
use Rattle.std.proofs.Math.ListN.{drop_of_length-le}
use Rattle.std.proofs.lemmas.List.{append-nil}
use Rattle.ssim_flights.specs.declared.flight.DatedLeg.{DatedLeg}
use Rattle.ssim_flights.specs.declared.flight.Flight.{Flight as Flown}
use Rattle.ssim_flights.proofs.Walks.{drop_step}
use Rattle.seat_rules.specs.Sequential.{State}
use Rattle.std.specs.Prelude.{nat_lt}
use Rattle.seat_questions.specs.Rooms.{keeps_day}
use Rattle.seat_loads.specs.Sums.{AreSums, one, over_legs}
use Rattle.seat_loads.specs.declared.loads.LoadsOf.{LoadsOf}
use Rattle.seat_loads.specs.declared.sums.Sums.{Sums}
use Rattle.seat_tables.specs.Sheets.{ArePut, IsReady}
use Rattle.seat_tables.specs.declared.cell.Cell.{Cell}
use Rattle.seat_tables.specs.declared.sheet.Sheet.{Sheet}
use Rattle.seat_tables.proofs.Putting.{put_both}
use Rattle.table_questions.proofs.Tables.{rows_kept, rows_left}
use Rattle.table_questions.specs.SumRows.{day_cells, day_count, day_names, day_row, days_from, earliest, earliest_of, latest, latest_of, on_day, rows_of_each, sums_of_day}

-- ---- the row of a day

same_cells : (asked : LoadsOf) (s : State) (flights : List Flown) (day : ℕ) (sums : Sums) → AreSums asked s flights sums
    → day_cells day sums ≡ day_row asked s flights day
same_cells asked s flights day sums are =
    rw (are.legs.legs, are.legs.seats, are.legs.limits, are.riders.held, are.riders.waiting) refl

-- the sums of the day say whether it is kept
same_keep : (asked other : LoadsOf) (s : State) (flights : List Flown) (day : ℕ) (sums : Sums) (keep : Bool) → other ≡ on_day asked day
    → AreSums other s flights sums → keep ≡ (keeps_day asked.day day && nat_lt 0 sums.legs.legs)
    → keep ≡ (keeps_day asked.day day && nat_lt 0 (over_legs (on_day asked day) one flights))
same_keep asked other s flights day sums keep same are is =
    is ∙ ap (λ (n : ℕ). keeps_day asked.day day && nat_lt 0 n) (are.legs.legs ∙ ap (λ (a : LoadsOf). over_legs a one flights) same)

pub day_left : (asked other : LoadsOf) (s : State) (flights : List Flown) (day : ℕ) (sums : Sums) (keep : Bool) (sheet : Sheet)
    → other ≡ on_day asked day → AreSums other s flights sums → keep ≡ (keeps_day asked.day day && nat_lt 0 sums.legs.legs)
    → keep ≡ false → IsReady sheet → ArePut day_names (sums_of_day asked s flights day) sheet sheet
day_left asked other s flights day sums keep sheet same are is e ready =
    rows_left day_names (day_row (on_day asked day) s flights day ∷ []) _ sheet
    (sym (same_keep asked other s flights day sums keep same are is) ∙ e) ready

pub day_kept : (asked other : LoadsOf) (s : State) (flights : List Flown) (day : ℕ) (sums : Sums) (keep : Bool) (old new : Sheet)
    → other ≡ on_day asked day → AreSums other s flights sums → keep ≡ (keeps_day asked.day day && nat_lt 0 sums.legs.legs)
    → keep ≡ true → ArePut day_names (day_cells day sums ∷ []) old new → ArePut day_names (sums_of_day asked s flights day) old new
day_kept asked other s flights day sums keep old new same are is e put =
    let own : AreSums (on_day asked day) s flights sums = subst (λ (a : LoadsOf). AreSums a s flights sums) same are in
    rows_kept day_names (day_row (on_day asked day) s flights day ∷ []) _ old new
    (sym (same_keep asked other s flights day sums keep same are is) ∙ e)
    (subst (λ (cells : List Cell). ArePut day_names (cells ∷ []) old new) (same_cells (on_day asked day) s flights day sums own) put)

-- ---- the rows of days

rows_more : (rows : ℕ → List (List Cell)) (n day : ℕ) → rows_of_each rows (n + 1) day ≡ rows_of_each rows n day ++ rows (day + n)
rows_more rows zero day =
    let e : day + 0 ≡ day = omega arith in
    append-nil (rows day) ∙ ap rows (sym e)
rows_more rows (suc n) day =
    let e : day + suc n ≡ day + 1 + n = omega arith in
    let longer : suc n + 1 ≡ suc (n + 1) = omega arith in
    ap (λ (k : ℕ). rows_of_each rows k day) longer
    ∙ ap (λ (l : List (List Cell)). rows day ++ l) (rows_more rows n (day + 1))
    ∙ sym (append_assoc (rows day) (rows_of_each rows n (day + 1)) (rows (day + 1 + n)))
    ∙ ap (λ (k : ℕ). (rows day ++ rows_of_each rows n (day + 1)) ++ rows k) (sym e)

pub day_more : (names : List (List ℕ)) (rows : ℕ → List (List Cell)) (n day : ℕ) (old mid new : Sheet)
    → ArePut names (rows_of_each rows n day) old mid → ArePut names (rows (day + n)) mid new
    → ArePut names (rows_of_each rows (n + 1) day) old new
day_more names rows n day old mid new so_far one =
    subst (λ (l : List (List Cell)). ArePut names l old new) (sym (rows_more rows n day))
    (put_both names (rows_of_each rows n day) (rows (day + n)) old mid new so_far one)

-- those of all days
pub days_whole : (rows : ℕ → List (List Cell)) (i count first last : ℕ) (flights : List Flown) (old new : Sheet)
    → ArePut day_names (rows_of_each rows i first) old new → i ≤ count → count ≤ i → count ≡ last + 1 - first
    → last ≡ latest_of 0 flights → first ≡ days_from flights
    → ArePut day_names (rows_of_each rows (day_count flights) (days_from flights)) old new
days_whole rows i count first last flights old new put within over counted is_last is_first =
    let all : i ≡ count = omega (arith, within, over) in
    let so_many : i ≡ day_count flights =
    all ∙ counted ∙ ap (λ (n : ℕ). n + 1 - first) is_last ∙ ap (λ (n : ℕ). latest_of 0 flights + 1 - n) is_first in
    subst (λ (n : ℕ). ArePut day_names (rows_of_each rows n (days_from flights)) old new) so_many
    (subst (λ (d : ℕ). ArePut day_names (rows_of_each rows i d) old new) is_first put)

-- ---- the earliest and the latest

pub earlier_leg : (legs : List DatedLeg) (i day whole : ℕ) (leg : DatedLeg) → earliest day (drop i legs) ≡ whole → i < length legs
    → leg ≡ get_or legs i leg → earliest (min day leg.day) (drop (i + 1) legs) ≡ whole
earlier_leg legs i day whole leg so_far inside is =
    sym (ap (λ (l : List DatedLeg). earliest day l) (drop_step legs i leg inside is)) ∙ so_far

pub no_leg_earlier : (legs : List DatedLeg) (i day whole : ℕ) → earliest day (drop i legs) ≡ whole → length legs ≤ i → day ≡ whole
no_leg_earlier legs i day whole so_far over = sym (ap (λ (l : List DatedLeg). earliest day l) (drop_of_length-le legs over)) ∙ so_far

pub earlier_flight : (flights : List Flown) (i day new whole : ℕ) (flight : Flown) → earliest_of day (drop i flights) ≡ whole
    → i < length flights → flight ≡ get_or flights i flight → new ≡ earliest day flight.legs
    → earliest_of new (drop (i + 1) flights) ≡ whole
earlier_flight flights i day new whole flight so_far inside here is =
    ap (λ (d : ℕ). earliest_of d (drop (i + 1) flights)) is
    ∙ sym (ap (λ (l : List Flown). earliest_of day l) (drop_step flights i flight inside here)) ∙ so_far

pub no_flight_earlier : (flights : List Flown) (i count day whole : ℕ) → earliest_of day (drop i flights) ≡ whole → count ≡ length flights
    → count ≤ i → day ≡ whole
no_flight_earlier flights i count day whole so_far counted over =
    let past : length flights ≤ i = omega (arith, counted, over) in
    sym (ap (λ (l : List Flown). earliest_of day l) (drop_of_length-le flights past)) ∙ so_far

pub later_leg : (legs : List DatedLeg) (i day whole : ℕ) (leg : DatedLeg) → latest day (drop i legs) ≡ whole → i < length legs
    → leg ≡ get_or legs i leg → latest (max day leg.day) (drop (i + 1) legs) ≡ whole
later_leg legs i day whole leg so_far inside is =
    sym (ap (λ (l : List DatedLeg). latest day l) (drop_step legs i leg inside is)) ∙ so_far

pub no_leg_later : (legs : List DatedLeg) (i day whole : ℕ) → latest day (drop i legs) ≡ whole → length legs ≤ i → day ≡ whole
no_leg_later legs i day whole so_far over = sym (ap (λ (l : List DatedLeg). latest day l) (drop_of_length-le legs over)) ∙ so_far

pub later_flight : (flights : List Flown) (i day new whole : ℕ) (flight : Flown) → latest_of day (drop i flights) ≡ whole
    → i < length flights → flight ≡ get_or flights i flight → new ≡ latest day flight.legs
    → latest_of new (drop (i + 1) flights) ≡ whole
later_flight flights i day new whole flight so_far inside here is =
    ap (λ (d : ℕ). latest_of d (drop (i + 1) flights)) is
    ∙ sym (ap (λ (l : List Flown). latest_of day l) (drop_step flights i flight inside here)) ∙ so_far

pub no_flight_later : (flights : List Flown) (i count day whole : ℕ) → latest_of day (drop i flights) ≡ whole → count ≡ length flights
    → count ≤ i → day ≡ whole
no_flight_later flights i count day whole so_far counted over =
    let past : length flights ≤ i = omega (arith, counted, over) in
    sym (ap (λ (l : List Flown). latest_of day l) (drop_of_length-le flights past)) ∙ so_far
