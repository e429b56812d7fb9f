-- The days on which flights start.
use Rattle.std.proofs.Common.{◌≡◌, ℕ, ◌+◌, ◌-◌, ◌<◌, ◌≤◌, List, [], ◌∷◌, ◌++◌, length, drop, get_or, sym, ap, subst, ◌∙◌, arith, append_assoc}
use Rattle.std.proofs.Math.ListN.{drop_of_length-le}
use Rattle.std.proofs.lemmas.List.{append-nil}
use Rattle.ssim_flights.proofs.Walks.{drop_step}
use Rattle.ssim_flights.specs.declared.flight.Flight.{Flight as Flown}
use Rattle.seat_pickup.specs.declared.classes.Pickup.{Pickup}
use Rattle.seat_tables.specs.Sheets.{ArePut}
use Rattle.seat_tables.specs.declared.sheet.Sheet.{Sheet}
use Rattle.table_questions.specs.SumRows.{day_count, days_from, latest_of, rows_of_each}
use Rattle.pickup_questions.specs.GroupRows.{day_names, day_rows, rows_of_day}
use Rattle.pickup_questions.specs.Groups.{by_given, start_group, start_groups}

pub start_more : (first : ℕ) (flights : List Flown) (i : ℕ) (flight : Flown) (start : ℕ) (mid new whole : List ℕ)
    → mid ++ start_groups first (drop i flights) ≡ whole → i < length flights → flight ≡ get_or flights i flight
    → start ≡ start_group first flight.legs → new ≡ mid ++ start ∷ [] → new ++ start_groups first (drop (i + 1) flights) ≡ whole
start_more first flights i flight start mid new whole so_far inside here is put =
    let rest : drop i flights ≡ flight ∷ drop (i + 1) flights = drop_step flights i flight inside here in
    ap (λ (l : List ℕ). l ++ start_groups first (drop (i + 1) flights)) put
    ∙ append_assoc mid (start ∷ []) (start_groups first (drop (i + 1) flights))
    ∙ ap (λ (n : ℕ). mid ++ n ∷ start_groups first (drop (i + 1) flights)) is
    ∙ ap (λ (l : List Flown). mid ++ start_groups first l) (sym rest)
    ∙ so_far

pub starts_whole : (first : ℕ) (flights : List Flown) (i count : ℕ) (all whole : List ℕ) → all ++ start_groups first (drop i flights) ≡ whole
    → count ≡ length flights → count ≤ i → all ≡ whole
starts_whole first flights i count all whole so_far counted over =
    let past : length flights ≤ i = omega (arith, counted, over) in
    sym (append-nil all) ∙ ap (λ (l : List Flown). all ++ start_groups first l) (sym (drop_of_length-le flights past)) ∙ so_far

-- ---- the rows of the days

pub days_are : (flights : List Flown) (all summed : List Pickup) (group : Pickup → ℕ) (starts : List ℕ) (first last count : ℕ) (old new : Sheet)
    → starts ≡ start_groups first flights → group ≡ by_given starts → summed ≡ all → first ≡ days_from flights
    → last ≡ latest_of 0 flights → count ≡ last + 1 - first
    → ArePut day_names (rows_of_each (rows_of_day group first summed) count 0) old new → ArePut day_names (day_rows flights all) old new
days_are flights all summed group starts first last count old new started given same from until counted put =
    let so_many : count ≡ day_count flights =
    counted ∙ ap (λ (n : ℕ). n + 1 - first) until ∙ ap (λ (n : ℕ). latest_of 0 flights + 1 - n) from in
    let of : group ≡ by_given (start_groups (days_from flights) flights) =
    given ∙ ap (λ (l : List ℕ). by_given l) (started ∙ ap (λ (n : ℕ). start_groups n flights) from) in
    subst (λ (n : ℕ). ArePut day_names (rows_of_each (rows_of_day (by_given (start_groups (days_from flights) flights)) (days_from flights) all) n 0) old new) so_many
    (subst (λ (d : ℕ). ArePut day_names (rows_of_each (rows_of_day (by_given (start_groups (days_from flights) flights)) d all) count 0) old new) from
    (subst (λ (l : List Pickup). ArePut day_names (rows_of_each (rows_of_day (by_given (start_groups (days_from flights) flights)) first l) count 0) old new) same
    (subst (λ (g : Pickup → ℕ). ArePut day_names (rows_of_each (rows_of_day g first summed) count 0) old new) of put)))
