-- What a line of the manager asks for.
use Rattle.std.specs.Prelude.{◌≡◌, ◌<◌, ℕ, ◌+◌, ◌==◌, ◌&&◌, nat_le, nat_lt, Bool, true, false, if◌then◌else◌, List, [], ◌∷◌, length, codes, Option, Some, None, Err, ⊤}
use Rattle.std.specs.Str.Lines.{lines}
use Rattle.airline_base.specs.Days.{civil_in, IsCenturyDay}
use Rattle.airline_base.specs.Fields.{◌>>=◌, two_are, two_value, word_at}
use Rattle.airline_base.specs.Lines.{line_at}
use Rattle.desk_answers.specs.Saying.{HasHeard}
use Rattle.desk_lines.specs.Calls.{call_at}
use Rattle.desk_lines.specs.Epochs.{by_epoch}
use Rattle.desk_lines.specs.Lines.{is_numbered, is_word, next_number}
use Rattle.desk_lines.specs.declared.desk.Desk.{Desk}
use Rattle.desk_lines.specs.declared.desk.Meaning.{Meaning}
use Rattle.desk_lines.specs.declared.desk.Meaning.TheVariants.{Nothing, Wrong, WrongCall}
use Rattle.desk_lines.specs.declared.desk.Standing.{Standing}
use Rattle.desk_lines.specs.declared.desk.Standing.TheVariants.{Silent}
use Rattle.desk_lines.specs.declared.desk.Wrong.TheVariants as faults
use Rattle.desk_hall.specs.declared.orders.Order.{Order}
use Rattle.desk_hall.specs.declared.orders.Order.TheVariants.{Said, Row, RowCall, Refused, RefusedCall, Day, Stop}
use Rattle.desk_hall.specs.declared.orders.RowFault.{RowFault}
use Rattle.desk_hall.specs.declared.orders.RowFault.TheVariants.{Malformed, NoLeg}
use Rattle.seat_journal.specs.declared.entry.Control.{Control}
use Rattle.seat_limits.specs.ChangeRows.{IsChangeText, changes_in}
use Rattle.seat_limits.specs.FaultText.{kind_text}
use Rattle.seat_limits.specs.declared.change_row.ChangeRow.{ChangeRow}
use Rattle.seat_limits.specs.declared.limit_fault.LimitFault.{LimitFault}
use Rattle.seat_limits.specs.declared.limit_fault.LimitKind.{LimitKind}
use Rattle.seat_replies.specs.Changes.{AreServed, IsOnLeg}
use Rattle.ssim_flights.specs.declared.flight.Flight.{Flight as Flown}

-- ---- words

-- ahead of a hello the manager is heard as any desk is, and so is a word to the host wherever it comes
abbrev pub is_for_desk : Standing → List ℕ → Bool
is_for_desk Silent line = true
is_for_desk standing line = is_word line

abbrev pub in_century : Option ℕ → Option ℕ
in_century None = None
in_century (Some n) = if nat_le 10957 n && nat_le n 47481 then Some n else None

-- YYYY-MM-DD of the years 2000 to 2099
unfoldable pub iso_day_at : List ℕ → Option ℕ
iso_day_at (c ∷ e ∷ y ∷ z ∷ g ∷ m ∷ n ∷ h ∷ t ∷ u ∷ []) =
    if (c == 50) && (e == 48) && (g == 45) && (h == 45) && (two_are y z && (two_are m n && two_are t u))
    then in_century (civil_in (2000 + two_value y z) (two_value m n) (two_value t u)) else None
iso_day_at _ = None

-- `?DAY` and the day
unfoldable pub day_at : List ℕ → Option ℕ
day_at text = do
  rest ← word_at (codes "?DAY ") text
  iso_day_at rest

-- an end that was said ahead of the host's start is none
abbrev pub stopped : Bool → Order
stopped true = Said (Wrong faults.NoHello)
stopped false = Stop

-- `?STOP`
unfoldable pub stop_at : Bool → List ℕ → Option Order
stop_at is_earlier text = do
  rest ← word_at (codes "?STOP") text
  if length rest == 0 then Some (stopped is_earlier) else None

abbrev pub day_order : Option ℕ → Order
day_order None = Said (Wrong faults.Word)
day_order (Some day) = Day day

abbrev pub stop_order : Option Order → List ℕ → Order
stop_order (Some order) text = order
stop_order None text = day_order (day_at text)

-- a word that no desk has may be one of the manager
abbrev pub own_order : Bool → List ℕ → Order
own_order is_earlier text = stop_order (stop_at is_earlier text) text

abbrev pub order_in : Bool → List ℕ → Meaning → Order
order_in is_earlier text (Wrong faults.Word) = own_order is_earlier text
order_in is_earlier text meaning = Said meaning

-- ---- rows

-- the row sets this alone, on the one leg that it is for
pub record IsRowOf (flights : List Flown) (text : List ℕ) (control : Control) : Type 0 where
  pub rows : List ChangeRow
  pub are_rows : IsChangeText text rows
  pub served : AreServed flights rows (control ∷ [])

-- it has this fault, its first
pub record IsMalformed (text : List ℕ) (kind : LimitKind) : Type 0 where
  pub fault : LimitFault
  pub first : changes_in 1 (lines text) ≡ Err fault
  pub kind_is : kind ≡ fault.kind

-- it is a row, and for no one leg: none serves it, or more than one
pub record IsLegless (flights : List Flown) (text : List ℕ) : Type 0 where
  pub rows : List ChangeRow
  pub some : 0 < length rows
  pub are_rows : IsChangeText text rows
  pub unserved : (control : Control) → AreServed flights rows (control ∷ []) → ⊥

-- what a line that is no word asks for
abbrev pub IsRow : List Flown → List ℕ → Order → Type 0
IsRow flights text (Said Nothing) = IsChangeText text []
IsRow flights text (Said (Wrong faults.TooLong)) = 256 < length text
IsRow flights text (Row control) = IsRowOf flights text control
IsRow flights text (Refused (Malformed kind)) = IsMalformed text kind
IsRow flights text (Refused NoLeg) = IsLegless flights text
IsRow flights text order = ⊥

-- ---- numbered rows

-- only a row has a number
abbrev pub numbered_meaning : ℕ → Meaning → Meaning
numbered_meaning call Nothing = WrongCall call faults.Word
numbered_meaning call meaning = meaning

-- the same as the call of this number
abbrev pub numbered_order : ℕ → Order → Order
numbered_order call (Said meaning) = Said (numbered_meaning call meaning)
numbered_order call (Row control) = RowCall call control
numbered_order call (Refused fault) = RefusedCall call fault
numbered_order call order = order

-- the row behind the number asks for this
pub record IsNumbered (flights : List Flown) (call : ℕ) (row : List ℕ) (order : Order) : Type 0 where
  pub plain : Order
  pub is_row : IsRow flights row plain
  pub order_is : order ≡ numbered_order call plain

abbrev pub IsCalled : List Flown → Option (ℕ × List ℕ) → Order → Type 0
IsCalled flights None order = order ≡ Said (Wrong faults.Word)
IsCalled flights (Some (call, row)) order = IsNumbered flights call row order

-- a line that is not too long
abbrev pub IsCallBy : Bool → List Flown → List ℕ → Order → Type 0
IsCallBy true flights text order = order ≡ Said (Wrong faults.TooLong)
IsCallBy false flights text order = IsCalled flights (call_at text) order

-- what a line that is no word asks for, with a number or without one
abbrev pub IsUnnamed : Bool → List Flown → List ℕ → Order → Type 0
IsUnnamed true flights text order = IsCallBy (nat_lt 256 (length text)) flights text order
IsUnnamed false flights text order = IsRow flights text order

-- the code of its fault
abbrev pub row_text : RowFault → List ℕ
row_text (Malformed kind) = kind_text kind
row_text NoLeg = codes "U1"

-- ---- the epoch

-- of a manager whose client is for another journal each numbered row is refused, as a desk's numbered line is
abbrev pub order_by_epoch : Bool → Order → Order
order_by_epoch true (Said meaning) = Said (by_epoch true meaning)
order_by_epoch true (RowCall call control) = Said (WrongCall call faults.Epoch)
order_by_epoch true (RefusedCall call fault) = Said (WrongCall call faults.Epoch)
order_by_epoch stranger order = order

-- ---- the whole

-- it means something to a desk
pub record IsSaid (is_earlier : Bool) (old new : Desk) (line : List ℕ) (order : Order) : Type 0 where
  pub meaning : Meaning
  pub has_heard : HasHeard old new line meaning
  pub order_is : order ≡ order_in is_earlier (line_at line).0 meaning

-- it counts, and is a row, for this journal or for another
pub record IsRead (flights : List Flown) (old new : Desk) (line : List ℕ) (order : Order) : Type 0 where
  pub counted : new.lines ≡ next_number old.lines
  pub same_day : new.today ≡ old.today
  pub same_standing : new.standing ≡ old.standing
  pub same_epoch : new.epoch ≡ old.epoch
  pub same_client : new.is_stranger ≡ old.is_stranger
  pub plain : Order
  pub is_row : IsUnnamed (is_numbered (line_at line).0) flights (line_at line).0 plain
  pub order_is : order ≡ order_by_epoch old.is_stranger plain

abbrev pub IsOrderBy : Bool → Bool → List Flown → Desk → Desk → List ℕ → Order → Type 0
IsOrderBy true is_earlier flights old new line order = IsSaid is_earlier old new line order
IsOrderBy false is_earlier flights old new line order = IsRead flights old new line order

-- and whether it was said ahead of the host's start
abbrev pub IsOrder : Bool → List Flown → Desk → Desk → List ℕ → Order → Type 0
IsOrder is_earlier flights old new line order =
    IsOrderBy (is_for_desk old.standing line) is_earlier flights old new line order

-- what is set is set on a leg of the flights
abbrev pub IsRightOrder : List Flown → Order → Type 0
IsRightOrder flights (Row control) = IsOnLeg flights control
IsRightOrder flights (RowCall call control) = IsOnLeg flights control
IsRightOrder flights order = ⊤

-- a day is of the years 2000 to 2099
abbrev pub IsOfCentury : Order → Type 0
IsOfCentury (Day day) = IsCenturyDay day
IsOfCentury order = ⊤
