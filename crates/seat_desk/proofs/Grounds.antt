-- Why limit rows are refused, what they give, and what holds of every loaded grid.
use Rattle.std.proofs.Common.{◌≡◌, ◌≢◌, ℕ, List, ◌<◌, ◌≤◌, length, Option, Some, None, IfSome, Err, refl, sym, inl, inr, subst, ◌∙◌}
use Rattle.sha2.specs.Sha256.{sha256}
use Rattle.seat_seal.specs.declared.beside.Basis.{Basis}
use Rattle.seat_desk.specs.Sealing.{basis_of}
use Rattle.std.specs.Str.Lines.{lines}
use Rattle.ssim_flights.specs.declared.flight.Flight.{Flight as Flown}
use Rattle.seat_limits.specs.Authorised.{authorised_grid}
use Rattle.seat_limits.specs.LimitRows.{rows_in}
use Rattle.seat_limits.specs.declared.limit_fault.LimitFault.{LimitFault}
use Rattle.seat_limits.specs.declared.limit_fault.LimitKind.{LimitKind}
use Rattle.seat_limits.specs.declared.limit_fault.LimitKind.TheVariants as limit_kinds
use Rattle.seat_limits.specs.declared.limit_row.LimitRow.{LimitRow}
use Rattle.seat_limits.proofs.Grids.{limit_text_ladders}
use Rattle.seat_nesting.specs.Nesting.{Ladders, HasLadders}
use Rattle.seat_rules.proofs.History.Replays.{replay_holds_within}
use Rattle.seat_desk.specs.Laws.{LoadedLaddersDiffer, LoadedReplaysKeepLimits}
use Rattle.seat_desk.specs.CheckDesk.{most_set_bytes}
use Rattle.seat_desk.specs.FlightsDesk.{IsUnscheduled}
use Rattle.seat_desk.specs.Halves.{HasFlights, HasRows}
use Rattle.seat_desk.specs.Loading.{HasSchedule, IsFirstTooLargeLoad, IsGridOf, IsGround, IsLoaded, IsRefusedLoad, IsTooLargeLoad, IsUnlimited, LoadRefusal, most_limit_bytes, limit_refusal, limit_refusal_of}
use Rattle.seat_desk.specs.declared.fault.DeskFault.TheVariants.{Flight, Limit, Memory, Set}
use Rattle.seat_desk.specs.declared.fault.DeskFault.{DeskFault}

cases : (limits : List ℕ) (kind : LimitKind) (fault : LimitFault) → length limits ≤ most_limit_bytes
    → (kind ≢ limit_kinds.Memory → rows_in 1 (lines limits) ≡ Err fault)
    → limit_refusal_of kind fault ≢ Memory → IsUnlimited limits (limit_refusal_of kind fault)
cases limits limit_kinds.Memory fault within first not = absurd (not refl)
cases limits kind fault within first not = record { within = within; first = first (λ e. cc) }

pub refused_limits : (limits : List ℕ) (fault : LimitFault) → length limits ≤ most_limit_bytes
    → (fault.kind ≢ limit_kinds.Memory → rows_in 1 (lines limits) ≡ Err fault)
    → limit_refusal fault ≢ Memory → IsUnlimited limits (limit_refusal fault)
refused_limits limits fault = cases limits fault.kind fault

-- what holds of the bytes that were read holds of the input
pub of_input : (P : List ℕ → Type 0) (input : Option (List ℕ)) (bytes slice : List ℕ) → slice ≡ bytes
    → IfSome input (λ xs. bytes ≡ xs) → P slice → IfSome input P
of_input P (Some xs) bytes slice is whole held = subst P (is ∙ whole) held
of_input P None bytes slice is whole held = tt

-- what follows from what is known of one input, or of both
one_known : (P : List ℕ → Type 0) (R : List ℕ → List ℕ → Type 0) (set limits : Option (List ℕ))
    → ((xs ys : List ℕ) → P xs → R xs ys) → IfSome set P → IfSome set (λ xs. IfSome limits (λ ys. R xs ys))
one_known P R (Some xs) (Some ys) step p = step xs ys p
one_known P R (Some xs) None step p = tt
one_known P R None limits step p = tt

both_known : (P Q : List ℕ → Type 0) (R : List ℕ → List ℕ → Type 0) (set limits : Option (List ℕ))
    → ((xs ys : List ℕ) → P xs → Q ys → R xs ys) → IfSome set P → IfSome limits Q
    → IfSome set (λ xs. IfSome limits (λ ys. R xs ys))
both_known P Q R (Some xs) (Some ys) step p q = step xs ys p q
both_known P Q R (Some xs) None step p q = tt
both_known P Q R None limits step p q = tt

if_set : (set limits : List ℕ) (first days : ℕ) (fault : DeskFault) → IsUnscheduled first days fault set
    → LoadRefusal set limits first days fault
if_set set limits first days (Set fault) is = is
if_set set limits first days (Flight fault) is = is
if_set set limits first days _ is = absurd is.refused

if_limits : (set limits : List ℕ) (first days : ℕ) (flights : List Flown) (fault : DeskFault)
    → HasFlights first days flights set → IsUnlimited limits fault → LoadRefusal set limits first days fault
if_limits set limits first days flights (Limit fault) h wrong =
    record { flights = flights; set_within = h.within; is_schedule = h.is_schedule; wrong = wrong }
if_limits set limits first days flights _ h wrong = absurd wrong

module _ (set limits : Option (List ℕ)) (first days : ℕ) where
  -- the set is refused
  pub set_refused : (fault : DeskFault) → IfSome set (IsUnscheduled first days fault)
      → IfSome set (λ xs. IfSome limits (λ ys. IsRefusedLoad xs ys first days fault))
  set_refused fault =
      one_known (IsUnscheduled first days fault) (λ xs ys. IsRefusedLoad xs ys first days fault) set limits (λ xs ys is. record { refusal = if_set xs ys first days fault is })

  pub set_large : IfSome set (λ xs. most_set_bytes < length xs)
      → IfSome set (λ xs. IfSome limits (λ ys. IsTooLargeLoad xs ys))
  set_large = one_known (λ xs. most_set_bytes < length xs) IsTooLargeLoad set limits (λ xs ys more. inl more)

  pub set_first_large : IfSome set (λ xs. most_set_bytes < length xs)
      → IfSome set (λ xs. IfSome limits (λ ys. IsFirstTooLargeLoad xs ys first days))
  set_first_large =
      one_known (λ xs. most_set_bytes < length xs) (λ xs ys. IsFirstTooLargeLoad xs ys first days) set limits (λ xs ys more. inl more)

  module _ (flights : List Flown) (flown : IfSome set (HasFlights first days flights)) where
    -- the set is right
    pub scheduled : IfSome set (HasSchedule first days)
    scheduled = if_some set flown
      where
        if_some : (set : Option (List ℕ)) → IfSome set (HasFlights first days flights) → IfSome set (HasSchedule first days)
        if_some (Some xs) h = record { flights = flights; within = h.within; is_schedule = h.is_schedule }
        if_some None h = tt

    -- and the limits are refused
    pub rows_refused : (fault : DeskFault) → IfSome limits (λ ys. IsUnlimited ys fault)
        → IfSome set (λ xs. IfSome limits (λ ys. IsRefusedLoad xs ys first days fault))
    rows_refused fault =
        both_known (HasFlights first days flights) (λ ys. IsUnlimited ys fault) (λ xs ys. IsRefusedLoad xs ys first days fault) set limits
        (λ xs ys h wrong. record { refusal = if_limits xs ys first days flights fault h wrong }) flown

    pub rows_large : IfSome limits (λ ys. most_limit_bytes < length ys)
        → IfSome set (λ xs. IfSome limits (λ ys. IsTooLargeLoad xs ys))
    rows_large =
        both_known (HasFlights first days flights) (λ ys. most_limit_bytes < length ys) IsTooLargeLoad set limits (λ xs ys h more. inr more) flown

    pub rows_first_large : IfSome limits (λ ys. most_limit_bytes < length ys)
        → IfSome set (λ xs. IfSome limits (λ ys. IsFirstTooLargeLoad xs ys first days))
    rows_first_large =
        both_known (HasFlights first days flights) (λ ys. most_limit_bytes < length ys) (λ xs ys. IsFirstTooLargeLoad xs ys first days) set limits
        (λ xs ys h more. inr (record { ahead = record { flights = flights; within = h.within; is_schedule = h.is_schedule }; here = more })) flown

    -- and so are the limits
    pub ground_whole : (rows : List LimitRow) → IfSome limits (HasRows rows)
        → IfSome set (λ xs. IfSome limits (λ ys. IsGround xs ys first days flights rows))
    ground_whole rows =
        both_known (HasFlights first days flights) (HasRows rows) (λ xs ys. IsGround xs ys first days flights rows) set limits
        (λ xs ys h r. record { set_within = h.within; limits_within = r.within; is_schedule = h.is_schedule; are_rows = r.are_rows }) flown

    pub loaded_whole : (rows : List LimitRow) (grid : Ladders) → IfSome limits (HasRows rows)
        → grid ≡ authorised_grid rows flights
        → IfSome set (λ xs. IfSome limits (λ ys. IsLoaded xs ys first days flights grid))
    loaded_whole rows grid has_rows is =
        both_known (HasFlights first days flights) (HasRows rows) (λ xs ys. IsLoaded xs ys first days flights grid) set limits
        (λ xs ys h r. record {
          set_within = h.within;
          limits_within = r.within;
          loaded = record { rows = rows; is_schedule = h.is_schedule; are_rows = r.are_rows; grid_is = is };
        }) flown has_rows

  -- the digests of what was read are those of each input
  pub based_whole : (a b : List ℕ) → IfSome set (λ xs. a ≡ sha256 xs) → IfSome limits (λ ys. b ≡ sha256 ys)
      → IfSome set (λ xs. IfSome limits (λ ys.
      ◌≡◌ {A = Basis} (record { set = a; limits = b; first = first; days = days })
      (basis_of xs ys first days)))
  based_whole a b =
      both_known (λ xs. a ≡ sha256 xs) (λ ys. b ≡ sha256 ys)
      (λ xs ys. ◌≡◌ {A = Basis} (record { set = a; limits = b; first = first; days = days }) (basis_of xs ys first days)) set limits
      (λ xs ys a_is b_is. λ i. record { set = a_is i; limits = b_is i; first = first; days = days })

-- flights and rows that are right make a loaded grid, and a loaded grid has such rows
pub loaded_of_ground : (set limits : List ℕ) (first days : ℕ) (flights : List Flown) (rows : List LimitRow)
    → IsGround set limits first days flights rows
    → IsLoaded set limits first days flights (authorised_grid rows flights)
loaded_of_ground set limits first days flights rows is = record {
  set_within = is.set_within;
  limits_within = is.limits_within;
  loaded = record { rows = rows; is_schedule = is.is_schedule; are_rows = is.are_rows; grid_is = refl };
}

pub ground_of_loaded : (set limits : List ℕ) (first days : ℕ) (flights : List Flown) (grid : Ladders)
    (is : IsLoaded set limits first days flights grid)
    → IsGround set limits first days flights is.loaded.rows
ground_of_loaded set limits first days flights grid is =
    record { set_within = is.set_within; limits_within = is.limits_within; is_schedule = is.loaded.is_schedule; are_rows = is.loaded.are_rows }

-- a grid that limit rows give is one
pub grid_of_rows : (rows : List LimitRow) (flights : List Flown) (grid : Ladders) → grid ≡ authorised_grid rows flights
    → IsGridOf flights grid
grid_of_rows rows flights grid is = record { rows = rows; is = is }

-- each row of the limits' text has a ladder, so each leg of the loaded grid has one or none
pub loaded_ladders_differ : LoadedLaddersDiffer
loaded_ladders_differ set limits first days flights grid is =
    subst HasLadders (sym is.loaded.grid_is) (limit_text_ladders limits is.loaded.rows flights is.loaded.are_rows)

pub loaded_replays_keep_limits : LoadedReplaysKeepLimits
loaded_replays_keep_limits set limits first days flights grid journal is =
    replay_holds_within grid journal (loaded_ladders_differ set limits first days flights grid is)
