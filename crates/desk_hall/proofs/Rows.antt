-- Rows of the manager.
use Rattle.std.proofs.Common.{◌≡◌, ℕ, ◌≤◌, ◌<◌, Bool, true, false, nat_lt, List, [], ◌∷◌, length, get_or, ap, sym, ◌∙◌, subst, arith}
use Rattle.std.specs.Prelude.{Option, Some, None}
use Rattle.std.proofs.lemmas.Bool.Decides.{nat_tests}
use Rattle.desk_hall.specs.Orders.{IsCallBy, IsCalled, IsLegless, IsNumbered, IsOrder, IsOrderBy, IsRightOrder, IsRow, IsRowOf, IsUnnamed, is_for_desk, numbered_order, order_by_epoch}
use Rattle.desk_hall.specs.OneLeg.{control_of}
use Rattle.desk_hall.specs.declared.orders.Order.{Order}
use Rattle.desk_hall.specs.declared.orders.Order.TheVariants.{Row, Said}
use Rattle.airline_base.specs.Lines.{line_at}
use Rattle.desk_lines.specs.Calls.{call_at}
use Rattle.desk_lines.specs.Lines.{is_numbered, next_number}
use Rattle.desk_lines.specs.declared.desk.Desk.{Desk}
use Rattle.desk_lines.specs.declared.desk.Meaning.TheVariants.{Wrong}
use Rattle.desk_lines.specs.declared.desk.Wrong.TheVariants as faults
use Rattle.desk_hall.proofs.Legs.{each_sets, none_is, one_is}
use Rattle.seat_journal.specs.declared.entry.Control.{Control}
use Rattle.seat_limits.specs.ChangeRows.{IsChangeText}
use Rattle.seat_limits.specs.declared.change_row.ChangeRow.{ChangeRow}
use Rattle.seat_replies.specs.Changes.{AreServed, all_served, and_those, changes_of}
use Rattle.seat_replies.proofs.Changing.{on_legs_all}
use Rattle.ssim_flights.specs.declared.flight.Flight.{Flight as Flown}

-- ---- rows

-- one that is for one leg
served_one : (flights : List Flown) (rows : List ChangeRow) (row : ChangeRow) (control : Control) → rows ≡ row ∷ []
    → control_of flights row ≡ Some control → AreServed flights rows (control ∷ [])
served_one flights rows row control is at =
    ap (all_served flights) is ∙ ap (λ (o : Option (List Control)). and_those o (Some [])) (one_is (changes_of flights row) control at)

pub row_made : (flights : List Flown) (text : List ℕ) (rows : List ChangeRow) (row : ChangeRow) (control : Control)
    → IsChangeText text rows → rows ≡ row ∷ [] → control_of flights row ≡ Some control → IsRowOf flights text control
row_made flights text rows row control are is at =
    record { rows = rows; are_rows = are; served = served_one flights rows row control is at }

pub row_right : (flights : List Flown) (text : List ℕ) (rows : List ChangeRow) (row : ChangeRow) (control : Control)
    → IsChangeText text rows → rows ≡ row ∷ [] → control_of flights row ≡ Some control → IsRightOrder flights (Row control)
row_right flights text rows row control are is at =
    (on_legs_all flights text rows (control ∷ []) are (served_one flights rows row control is at)).0

-- one that is for none, or for several
pub row_legless : (flights : List Flown) (text : List ℕ) (rows : List ChangeRow) (row : ChangeRow)
    → IsChangeText text rows → rows ≡ row ∷ [] → control_of flights row ≡ None → IsLegless flights text
row_legless flights text rows row are is at = record {
  rows = rows;
  some = omega (arith, ap length is);
  are_rows = are;
  unserved = λ control served. none_is (changes_of flights row) control at (ap (all_served flights) (sym is) ∙ served);
}

-- several set more than one
pub rows_legless : (flights : List Flown) (text : List ℕ) (rows : List ChangeRow) → IsChangeText text rows → 1 < length rows
    → IsLegless flights text
rows_legless flights text rows are several = record {
  rows = rows;
  some = omega (arith, several);
  are_rows = are;
  unserved = λ control served.
      let few : length rows ≤ 1 = each_sets flights rows (control ∷ []) served in
      absurd (omega (arith, several, few));
}

-- the row is the only one
pub only_row : (rows : List ChangeRow) (row : ChangeRow) → row ≡ get_or rows 0 row → 0 < length rows → length rows < 2
    → rows ≡ row ∷ []
only_row [] row at some few = absurd (omega (arith, some))
only_row (first ∷ []) row at some few = ap (λ (r : ChangeRow). r ∷ []) (sym at)
only_row (first ∷ second ∷ rows) row at some few = absurd (omega (arith, few))

-- ---- numbered rows

pub numbered : (flights : List Flown) (call : ℕ) (row : List ℕ) (plain order : Order) → IsRow flights row plain
    → order ≡ numbered_order call plain → IsNumbered flights call row order
numbered flights call row plain order is_row is = record { plain = plain; is_row = is_row; order_is = is }

pub called : (flights : List Flown) (text row : List ℕ) (call : ℕ) (order : Order) → length text ≤ 256
    → Some (call, row) ≡ call_at text → IsNumbered flights call row order → IsCallBy (nat_lt 256 (length text)) flights text order
called flights text row call order short at is =
    let few : nat_lt 256 (length text) ≡ false = grind (arith, nat_tests) in
    rw few (subst (λ (o : Option (ℕ × List ℕ)). IsCalled flights o order) at is)

pub uncalled : (flights : List Flown) (text : List ℕ) (order : Order) → length text ≤ 256 → None ≡ call_at text
    → order ≡ Said (Wrong faults.Word) → IsCallBy (nat_lt 256 (length text)) flights text order
uncalled flights text order short at is =
    let few : nat_lt 256 (length text) ≡ false = grind (arith, nat_tests) in
    rw few (subst (λ (o : Option (ℕ × List ℕ)). IsCalled flights o order) at is)

pub too_long : (flights : List Flown) (text : List ℕ) (order : Order) → 256 < length text → order ≡ Said (Wrong faults.TooLong)
    → IsCallBy (nat_lt 256 (length text)) flights text order
too_long flights text order long is =
    let many : nat_lt 256 (length text) ≡ true = grind (arith, nat_tests) in
    rw many is

-- ---- what the manager's line comes to that is no word

pub row_read : (is_earlier : Bool) (flights : List Flown) (old new : Desk) (line text : List ℕ) (plain order : Order)
    → is_for_desk old.standing line ≡ false → new.lines ≡ next_number old.lines → new.today ≡ old.today
    → new.standing ≡ old.standing → new.epoch ≡ old.epoch → new.is_stranger ≡ old.is_stranger → text ≡ (line_at line).0
    → IsUnnamed (is_numbered text) flights text plain → order ≡ order_by_epoch old.is_stranger plain
    → IsOrder is_earlier flights old new line order
row_read is_earlier flights old new line text plain order none counts day stands epoch client cut row is =
    subst (λ (b : Bool). IsOrderBy b is_earlier flights old new line order) (sym none) (record {
      counted = counts;
      same_day = day;
      same_standing = stands;
      same_epoch = epoch;
      same_client = client;
      plain = plain;
      is_row = subst (λ (t : List ℕ). IsUnnamed (is_numbered t) flights t plain) cut row;
      order_is = is;
    })
