-- Tables of what a replay leaves, and the rows of what is kept.
use Rattle.std.proofs.Common.{Bool, true, false, ◌≡◌, ◌≤◌, ℕ, List, [], ◌∷◌, length, take, sym, subst}
use Rattle.seat_tables.specs.Rows.{rows_from}
use Rattle.seat_tables.specs.Sheets.{ArePut, IsReady}
use Rattle.seat_tables.specs.declared.cell.Cell.{Cell}
use Rattle.seat_tables.specs.declared.sheet.Sheet.{Sheet}
use Rattle.seat_tables.proofs.Putting.{put_none, put_whole}
use Rattle.table_questions.specs.Tables.{kept_rows}

pub rows_left : (names : List (List ℕ)) (rows : List (List Cell)) (keep : Bool) (sheet : Sheet) → keep ≡ false → IsReady sheet
    → ArePut names (kept_rows keep rows) sheet sheet
rows_left names rows keep sheet e ready =
    subst (λ (b : Bool). ArePut names (kept_rows b rows) sheet sheet) (sym e) (put_none names sheet ready)

pub rows_kept : (names : List (List ℕ)) (rows : List (List Cell)) (keep : Bool) (old new : Sheet) → keep ≡ true
    → ArePut names rows old new → ArePut names (kept_rows keep rows) old new
rows_kept names rows keep old new e put = subst (λ (b : Bool). ArePut names (kept_rows b rows) old new) (sym e) put

-- ---- the rows of a list

-- of all of them, counted by a number of their own
pub all_put : {A : Type 0} (names : List (List ℕ)) (rows : ℕ → A → List (List Cell)) (i count : ℕ) (xs : List A) (old new : Sheet)
    → ArePut names (rows_from rows 0 (take i xs)) old new → count ≡ length xs → count ≤ i → ArePut names (rows_from rows 0 xs) old new
all_put {A} names rows i count xs old new put counted over =
    put_whole names rows 0 i xs old new put (subst (λ (k : ℕ). k ≤ i) counted over)

-- of all of a slice that is a list
pub own_put : {A : Type 0} (names : List (List ℕ)) (rows : ℕ → A → List (List Cell)) (i : ℕ) (slice xs : List A) (old new : Sheet)
    → ArePut names (rows_from rows 0 (take i slice)) old new → slice ≡ xs → length slice ≤ i → ArePut names (rows_from rows 0 xs) old new
own_put {A} names rows i slice xs old new put same over =
    subst (λ (l : List A). ArePut names (rows_from rows 0 l) old new) same (put_whole names rows 0 i slice old new put over)

-- a row that is these values, under names that are these
pub row_put : (names given : List (List ℕ)) (row cells : List Cell) (old new : Sheet) → given ≡ names → row ≡ cells
    → ArePut given (row ∷ []) old new → ArePut names (cells ∷ []) old new
row_put names given row cells old new named is put =
    subst (λ (n : List (List ℕ)). ArePut n (cells ∷ []) old new) named
    (subst (λ (l : List Cell). ArePut given (l ∷ []) old new) is put)
