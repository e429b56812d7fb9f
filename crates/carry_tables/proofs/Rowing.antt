-- Rows are those of the bookings, one each.
use Rattle.std.proofs.Common.{◌≡◌, ℕ, ◌+◌, List, [], ◌∷◌, drop, length, map, Option, Some, None, arith, refl, sym, ap, subst, ◌∙◌}
use Rattle.std.proofs.lemmas.List.{drop-map}
use Rattle.ssim_flights.specs.declared.flight.Flight.{Flight as Flown}
use Rattle.seat_tables.specs.Rows.{IsTable, rows_from}
use Rattle.seat_tables.specs.Sheets.{ArePut}
use Rattle.seat_tables.specs.declared.cell.Cell.{Cell}
use Rattle.seat_tables.specs.declared.sheet.Form.{Form}
use Rattle.seat_tables.specs.declared.sheet.Sheet.{Sheet}
use Rattle.carry_reports.specs.Reports.{IsReport}
use Rattle.carry_reports.specs.declared.fating.Fated.{Fated}
use Rattle.carry_tables.specs.FateRows.{EachHasARow, IsReportAs, carry_names, fate_row, fate_rows, shown}

pub each_has_a_row : EachHasARow
each_has_a_row counts olds news k [] = refl
each_has_a_row counts olds news k (f ∷ all) =
    ap (λ (l : List (List Cell)). fate_row counts olds news f ∷ l) (each_has_a_row counts olds news (k + 1) all)

-- ---- which columns there are

pub names_shown : {X : Type 0} (f : X → List ℕ) (counts : List ℕ) (slice all : List X) (names : List (List ℕ)) → slice ≡ shown counts all
    → map f all ≡ names → map f slice ≡ shown counts names
names_shown f [] slice all names is are = ap (map f) is ∙ (sym (drop-map f 1 all) ∙ ap (drop 1) are)
names_shown f (count ∷ counts) slice all names is are = ap (map f) is ∙ are

pub as_many : {X Y : Type 0} (counts : List ℕ) (xs : List X) (ys : List Y) → length xs ≡ length ys → length (shown counts xs) ≡ length (shown counts ys)
as_many [] [] [] same = refl
as_many [] [] (y ∷ ys) same = absurd (omega (arith, same))
as_many [] (x ∷ xs) [] same = absurd (omega (arith, same))
as_many [] (x ∷ xs) (y ∷ ys) same = omega (arith, same)
as_many (count ∷ counts) xs ys same = same

-- the row that was put is the booking's
pub fate_put : (counts : List ℕ) (names : List (List ℕ)) (row : List Cell) (olds news : List Flown) (f : Fated) (old new : Sheet)
    → names ≡ carry_names counts → row ≡ fate_row counts olds news f → ArePut names (row ∷ []) old new
    → ArePut (carry_names counts) (fate_rows counts olds news 0 f) old new
fate_put counts names row olds news f old new are is put =
    subst (λ (n : List (List ℕ)). ArePut n (fate_rows counts olds news 0 f) old new) are
    (subst (λ (r : List Cell). ArePut names (r ∷ []) old new) is put)

-- ---- the form that is asked for

pub lines_as : (form : Option Form) (counts : List ℕ) (olds news : List Flown) (all : List Fated) (text : List ℕ) → form ≡ None
    → IsReport counts olds news all text → IsReportAs form counts olds news all text
lines_as form counts olds news all text none lines = subst (λ (f : Option Form). IsReportAs f counts olds news all text) (sym none) lines

pub table_as : (form : Option Form) (given : Form) (counts : List ℕ) (olds news : List Flown) (all : List Fated) (text : List ℕ) → form ≡ Some given
    → IsTable given (carry_names counts) (rows_from (fate_rows counts olds news) 0 all) text → IsReportAs form counts olds news all text
table_as form given counts olds news all text some table = subst (λ (f : Option Form). IsReportAs f counts olds news all text) (sym some) table
