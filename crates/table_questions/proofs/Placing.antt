-- Rows of what is lacking, and what a search finds of it.
use Rattle.std.proofs.Common.{Bool, true, false, ◌≡◌, ◌+◌, ◌-◌, ◌<◌, ◌∙◌, ℕ, List, [], ◌∷◌, Some, ap, get_or, length, sym, subst, arith}
use Rattle.std.proofs.lemmas.Option.{slice_get_within}
use Rattle.std.specs.Prelude.{slice_get}
use Rattle.ssim_flights.specs.declared.flight.DatedLeg.{DatedLeg}
use Rattle.ssim_flights.specs.declared.flight.Flight.{Flight as Flown}
use Rattle.seat_limits.specs.declared.limit_row.LimitRow.{LimitRow}
use Rattle.seat_questions.specs.Cover.{effect_among, has_row, legs_for}
use Rattle.seat_questions.specs.Coverage.{IsCoverage, finds_row, found_legs}
use Rattle.seat_questions.specs.Winning.{AreWinners}
use Rattle.seat_questions.specs.declared.coverage.Coverage.{Coverage}
use Rattle.seat_questions.proofs.Coverages as coverages
use Rattle.seat_questions.proofs.Marking.{marked_right}
use Rattle.seat_tables.specs.Rows.{IsTable}
use Rattle.seat_tables.specs.Sheets.{ArePut, IsReady}
use Rattle.seat_tables.specs.declared.cell.Cell.{Cell}
use Rattle.seat_tables.specs.declared.sheet.Form.{Form}
use Rattle.seat_tables.specs.declared.sheet.Sheet.{Sheet}
use Rattle.seat_tables.proofs.Putting.{put_none}
use Rattle.table_questions.specs.CoverRows.{cover_names, cover_rows, row_without}

-- nothing is lacking
pub rows_left : (names : List (List ℕ)) (row : List Cell) (there : Bool) (sheet : Sheet) → there ≡ true → IsReady sheet
    → ArePut names (row_without there row) sheet sheet
rows_left names row there sheet e ready =
    subst (λ (b : Bool). ArePut names (row_without b row) sheet sheet) (sym e) (put_none names sheet ready)

-- something is
pub rows_kept : (names : List (List ℕ)) (row : List Cell) (there : Bool) (old new : Sheet) → there ≡ false
    → ArePut names (row ∷ []) old new → ArePut names (row_without there row) old new
rows_kept names row there old new e put = subst (λ (b : Bool). ArePut names (row_without b row) old new) (sym e) put

-- a row that is these values, under names that are these
pub row_put : (names given : List (List ℕ)) (row cells : List Cell) (old new : Sheet) → given ≡ names → row ≡ cells
    → ArePut given (row ∷ []) old new → ArePut names (cells ∷ []) old new
row_put names given row cells old new named is put =
    subst (λ (n : List (List ℕ)). ArePut n (cells ∷ []) old new) named
    (subst (λ (l : List Cell). ArePut given (l ∷ []) old new) is put)

-- the table of the rows that are read
pub of_rows : (form : Form) (rows slice : List LimitRow) (flights : List Flown) (text : List ℕ) → slice ≡ rows
    → IsTable form cover_names (cover_rows slice flights) text → IsTable form cover_names (cover_rows rows flights) text
of_rows form rows slice flights text same =
    subst (λ (l : List LimitRow). IsTable form cover_names (cover_rows l flights) text) same

-- ---- what is found

-- each limit row has a mark
pub inside : (rows : List LimitRow) (flights : List Flown) (marks : List Bool) (i : ℕ) (row : LimitRow)
    → AreWinners rows flights marks → slice_get rows i ≡ Some row → i < length marks
inside rows flights marks i row are at = omega (arith, are.counted, slice_get_within rows i row at)

pub marked : (rows : List LimitRow) (flights : List Flown) (marks : List Bool) (i : ℕ) (row : LimitRow) (mark : Bool)
    → AreWinners rows flights marks → slice_get rows i ≡ Some row → mark ≡ get_or marks i false
    → mark ≡ effect_among rows flights (1 + i) row
marked rows flights marks i row mark are at is =
    let more : i ≡ (1 + i) - 1 = omega arith in
    is ∙ ap (λ (k : ℕ). get_or marks k false) more ∙ marked_right rows flights marks are i row at

pub legs_found : (c : Coverage) (flights : List Flown) (rows : List LimitRow) (k : ℕ) (row : LimitRow) (n : ℕ)
    → IsCoverage c flights rows → slice_get rows k ≡ Some row → n ≡ found_legs c row → n ≡ legs_for flights row
legs_found c flights rows k row n right at is = is ∙ coverages.legs_counted c flights rows right k row at

pub row_found : (c : Coverage) (flights : List Flown) (rows : List LimitRow) (flight : Flown) (leg : DatedLeg) (b : Bool)
    → IsCoverage c flights rows → b ≡ finds_row c flight leg → b ≡ has_row rows flight leg
row_found c flights rows flight leg b right is = is ∙ coverages.row_found c flights rows right flight leg
