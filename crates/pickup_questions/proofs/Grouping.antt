-- The rows of groups: none where nothing was held or came.
use Rattle.std.proofs.Common.{Bool, true, false, ◌≡◌, ℕ, ◌+◌, ◌-◌, ◌<◌, ◌≤◌, List, [], ◌∷◌, length, get_or, refl, sym, ap, subst, ◌∙◌, arith}
use Rattle.ssim_flights.specs.declared.flight.DatedLeg.{DatedLeg}
use Rattle.ssim_flights.specs.declared.flight.Flight.{Flight as Flown}
use Rattle.seat_pickup.specs.Pickups.{has_any}
use Rattle.seat_pickup.specs.declared.classes.Pickup.{Pickup}
use Rattle.seat_tables.specs.Sheets.{ArePut, IsReady}
use Rattle.seat_tables.specs.declared.cell.Cell.{Cell}
use Rattle.seat_tables.specs.declared.cell.Cell.TheVariants.{Date, Nothing}
use Rattle.seat_tables.specs.declared.sheet.Sheet.{Sheet}
use Rattle.table_questions.proofs.Tables.{rows_kept, rows_left}
use Rattle.table_questions.specs.Tables.{kept_rows}
use Rattle.pickup_questions.specs.GroupRows.{class_cells, class_names, day_cells, day_names, flight_cells, flight_names, rows_of_class, rows_of_flight, rows_on_day, start_cell}
use Rattle.pickup_questions.specs.LegRows.{leg_cells, leg_names, rows_of_leg}
use Rattle.pickup_questions.specs.Groups.{by_class, by_flight, group_of, start_group, sums_in}
use Rattle.pickup_questions.specs.declared.groups.Groups.{Groups}
use Rattle.pickup_questions.specs.declared.groups.Groups.TheVariants.{Flights, Classes}
use Rattle.seat_pickup.specs.declared.moved.MoveSums.{MoveSums}

-- the row of these sums, or none
pub group_left : (names : List (List ℕ)) (cells : MoveSums → List Cell) (sums right : MoveSums) (any : Bool) (sheet : Sheet)
    → sums ≡ right → any ≡ has_any sums → any ≡ false → IsReady sheet
    → ArePut names (kept_rows (has_any right) (cells right ∷ [])) sheet sheet
group_left names cells sums right any sheet same is e ready =
    subst (λ (s : MoveSums). ArePut names (kept_rows (has_any s) (cells s ∷ [])) sheet sheet) same
    (rows_left names (cells sums ∷ []) (has_any sums) sheet (sym is ∙ e) ready)

pub group_kept : (names : List (List ℕ)) (cells : MoveSums → List Cell) (sums right : MoveSums) (any : Bool) (old new : Sheet)
    → sums ≡ right → any ≡ has_any sums → any ≡ true → ArePut names (cells sums ∷ []) old new
    → ArePut names (kept_rows (has_any right) (cells right ∷ [])) old new
group_kept names cells sums right any old new same is e put =
    subst (λ (s : MoveSums). ArePut names (kept_rows (has_any s) (cells s ∷ [])) old new) same
    (rows_kept names (cells sums ∷ []) (has_any sums) old new (sym is ∙ e) put)

-- of a class
pub class_left : (groups : Groups) (all : List Pickup) (k class : ℕ) (sums : MoveSums) (any : Bool) (sheet : Sheet) → groups ≡ Classes
    → k ≡ class - 65 → sums ≡ sums_in (group_of groups) k all → any ≡ has_any sums → any ≡ false → IsReady sheet
    → ArePut class_names (rows_of_class all class) sheet sheet
class_left groups all k class sums any sheet of at same is e ready =
    group_left class_names (λ s. class_cells class s) sums (sums_in by_class (class - 65) all) any sheet
    (same ∙ ap (λ (g : Groups). sums_in (group_of g) k all) of ∙ ap (λ (n : ℕ). sums_in by_class n all) at) is e ready

pub class_kept : (groups : Groups) (all : List Pickup) (k class : ℕ) (sums : MoveSums) (any : Bool) (old new : Sheet) → groups ≡ Classes
    → k ≡ class - 65 → sums ≡ sums_in (group_of groups) k all → any ≡ has_any sums → any ≡ true
    → ArePut class_names (class_cells class sums ∷ []) old new → ArePut class_names (rows_of_class all class) old new
class_kept groups all k class sums any old new of at same is e put =
    group_kept class_names (λ s. class_cells class s) sums (sums_in by_class (class - 65) all) any old new
    (same ∙ ap (λ (g : Groups). sums_in (group_of g) k all) of ∙ ap (λ (n : ℕ). sums_in by_class n all) at) is e put

-- of a flight
pub flight_left : (groups : Groups) (all : List Pickup) (i : ℕ) (flight : Flown) (sums : MoveSums) (any : Bool) (sheet : Sheet)
    → groups ≡ Flights → sums ≡ sums_in (group_of groups) i all → any ≡ has_any sums → any ≡ false → IsReady sheet
    → ArePut flight_names (rows_of_flight all i flight) sheet sheet
flight_left groups all i flight sums any sheet of same is e ready =
    group_left flight_names (λ s. flight_cells i flight s) sums (sums_in by_flight i all) any sheet (same ∙ ap (λ (g : Groups). sums_in (group_of g) i all) of) is e ready

pub flight_kept : (groups : Groups) (all : List Pickup) (i : ℕ) (flight : Flown) (sums : MoveSums) (any : Bool) (old new : Sheet)
    → groups ≡ Flights → sums ≡ sums_in (group_of groups) i all → any ≡ has_any sums → any ≡ true
    → ArePut flight_names (flight_cells i flight sums ∷ []) old new → ArePut flight_names (rows_of_flight all i flight) old new
flight_kept groups all i flight sums any old new of same is e put =
    group_kept flight_names (λ s. flight_cells i flight s) sums (sums_in by_flight i all) any old new (same ∙ ap (λ (g : Groups). sums_in (group_of g) i all) of) is e put

-- of a day
pub day_left : (group : Pickup → ℕ) (all : List Pickup) (k day : ℕ) (sums : MoveSums) (any : Bool) (sheet : Sheet)
    → sums ≡ sums_in group k all → any ≡ has_any sums → any ≡ false → IsReady sheet → ArePut day_names (rows_on_day group all k day) sheet sheet
day_left group all k day sums any sheet same is e ready =
    group_left day_names (λ s. day_cells day s) sums (sums_in group k all) any sheet same is e ready

pub day_kept : (group : Pickup → ℕ) (all : List Pickup) (k day : ℕ) (sums : MoveSums) (any : Bool) (old new : Sheet)
    → sums ≡ sums_in group k all → any ≡ has_any sums → any ≡ true → ArePut day_names (day_cells day sums ∷ []) old new
    → ArePut day_names (rows_on_day group all k day) old new
day_kept group all k day sums any old new same is e put =
    group_kept day_names (λ s. day_cells day s) sums (sums_in group k all) any old new same is e put

-- of a leg
pub leg_left : (moved : ℕ → ℕ → MoveSums) (i : ℕ) (flight : Flown) (j : ℕ) (leg : DatedLeg) (sums : MoveSums) (any : Bool) (sheet : Sheet)
    → sums ≡ moved i (65 + j) → any ≡ has_any sums → any ≡ false → IsReady sheet → ArePut leg_names (rows_of_leg moved i flight j leg) sheet sheet
leg_left moved i flight j leg sums any sheet same is e ready =
    group_left leg_names (λ s. leg_cells i flight leg s) sums (moved i (65 + j)) any sheet same is e ready

pub leg_kept : (moved : ℕ → ℕ → MoveSums) (i : ℕ) (flight : Flown) (j : ℕ) (leg : DatedLeg) (sums : MoveSums) (any : Bool) (old new : Sheet)
    → sums ≡ moved i (65 + j) → any ≡ has_any sums → any ≡ true → ArePut leg_names (leg_cells i flight leg sums ∷ []) old new
    → ArePut leg_names (rows_of_leg moved i flight j leg) old new
leg_kept moved i flight j leg sums any old new same is e put =
    group_kept leg_names (λ s. leg_cells i flight leg s) sums (moved i (65 + j)) any old new same is e put

-- ---- the first leg

first_leg : (legs : List DatedLeg) (leg : DatedLeg) → 0 < length legs → leg ≡ get_or legs 0 leg → (rest : List DatedLeg) × (legs ≡ leg ∷ rest)
first_leg [] leg inside is = absurd (omega (arith, inside))
first_leg (x ∷ legs) leg inside is = (legs, ap (λ (y : DatedLeg). y ∷ legs) (sym is))

no_leg : (legs : List DatedLeg) → length legs ≤ 0 → legs ≡ []
no_leg [] none = refl
no_leg (x ∷ legs) none = absurd (omega (arith, none))

pub start : (legs : List DatedLeg) (leg : DatedLeg) → 0 < length legs → leg ≡ get_or legs 0 leg → Date leg.day ≡ start_cell legs
start legs leg inside is = let l = first_leg legs leg inside is in sym (ap start_cell l.1)

pub no_start : (legs : List DatedLeg) → length legs ≤ 0 → Nothing ≡ start_cell legs
no_start legs none = sym (ap start_cell (no_leg legs none))

pub start_group_is : (first : ℕ) (legs : List DatedLeg) (leg : DatedLeg) → 0 < length legs → leg ≡ get_or legs 0 leg
    → leg.day - first ≡ start_group first legs
start_group_is first legs leg inside is = let l = first_leg legs leg inside is in sym (ap (start_group first) l.1)

pub no_start_group : (first : ℕ) (legs : List DatedLeg) → length legs ≤ 0 → 0 ≡ start_group first legs
no_start_group first legs none = sym (ap (start_group first) (no_leg legs none))
