-- The limit rows of a text's lines.
use Rattle.std.proofs.Common.{◌≡◌, ◌==◌, ℕ, ◌+◌, Bool, false, List, [], ◌∷◌, ◌++◌, length, Result, Ok, Err, arith, refl, ap, sym, subst, ◌∙◌}
use Rattle.std.specs.Result.{IsOk}
use Rattle.std.specs.Str.Lines.{lines}
use Rattle.seat_limits.specs.RowTexts.{row_then, each_row, TakesLine, IsStop}
use Rattle.seat_limits.specs.LimitRows.{packed, row_at, numbered, SpellsRows, IsLimitText}
use Rattle.seat_limits.specs.declared.row_reading.ReadRow.{ReadRow}
use Rattle.seat_limits.specs.declared.limit_fault.LimitKind.TheVariants as kinds
use Rattle.seat_limits.specs.declared.limit_row.LimitRow.{LimitRow}
use Rattle.seat_limits.specs.declared.limit_fault.LimitKind.{LimitKind}
use Rattle.seat_limits.proofs.RowLaws.{row_takes, row_again}
use Rattle.seat_limits.proofs.RowTexts.{Rows, ok_rows, IsAt, not_done, whole, rows_is}

take_then : (texts : List (List ℕ)) (n : ℕ) (c : ℕ) (text : List ℕ) (r : Result LimitRow LimitKind)
    (more : Rows LimitRow) (rows : List LimitRow) → row_at (c ∷ text) ≡ r
    → ((xs : List LimitRow) → more ≡ ok_rows xs → SpellsRows texts xs)
    → row_then n r more ≡ ok_rows rows → SpellsRows ((c ∷ text) ∷ texts) rows
take_then texts n c text (Err kind) more rows e h is = absurd cc
take_then texts n c text (Ok row) (Err fault) rows e h is = absurd cc
take_then texts n c text (Ok row) (Ok xs) rows e h is =
    let same : row ∷ xs ≡ rows = cc in
    subst (SpellsRows ((c ∷ text) ∷ texts)) same (row_takes (c ∷ text) row e, h xs refl)

rows_take : (texts : List (List ℕ)) (n : ℕ) (rows : List LimitRow) → each_row numbered n texts ≡ ok_rows rows
    → SpellsRows texts rows
rows_take [] n rows e = let same : [] ≡ rows = cc in subst (SpellsRows []) same tt
rows_take ([] ∷ texts) n rows e = rows_take texts (n + 1) rows e
rows_take ((c ∷ text) ∷ texts) n rows e = take_then texts n c text (row_at (c ∷ text)) (each_row numbered (n + 1) texts) rows refl (rows_take texts (n + 1)) e

pub rows_again : (texts : List (List ℕ)) (n : ℕ) (rows : List LimitRow) → SpellsRows texts rows
    → each_row numbered n texts ≡ ok_rows rows
rows_again [] n [] h = refl
rows_again [] n (row ∷ rows) h = absurd h
rows_again ([] ∷ texts) n rows h = rows_again texts (n + 1) rows h
rows_again ((c ∷ text) ∷ texts) n [] h = absurd h
rows_again ((c ∷ text) ∷ texts) n (row ∷ rows) h = rw (row_again (c ∷ text) row h.0, rows_again texts (n + 1) rows h.1) refl

pub whole_found : (bytes : List ℕ) (line : ℕ) (rest : List ℕ) (rows : List LimitRow)
    → IsAt numbered bytes line rest rows → length rest ≡ 0 → IsLimitText bytes rows
whole_found bytes line rest rows at none = record { spelled = rows_take (lines bytes) 1 rows (whole numbered bytes line rest rows at none) }

pub whole_only : (bytes : List ℕ) (line : ℕ) (rest : List ℕ) (rows others : List LimitRow)
    → IsAt numbered bytes line rest rows → length rest ≡ 0 → IsLimitText bytes others → rows ≡ others
whole_only bytes line rest rows others at none h = rows_is rows others (sym (whole numbered bytes line rest rows at none) ∙ rows_again (lines bytes) 1 others h.spelled)

-- ---- one line

kept_is : (text : List ℕ) (read : ReadRow) (row : LimitRow) → ◌≡◌ {A = Result LimitRow LimitKind} (Ok (packed read)) (row_at text)
    → row ≡ packed read → row_at text ≡ Ok row
kept_is text read row is kept = sym is ∙ ap (λ (r : LimitRow). Ok r) (sym kept)

pub kept_adds : (text : List ℕ) (none : Bool) (read : ReadRow) (row : LimitRow) (old new : List LimitRow)
    → none ≡ (length text == 0) → none ≡ false
    → ◌≡◌ {A = Result LimitRow LimitKind} (Ok (packed read)) (row_at text) → row ≡ packed read
    → new ≡ old ++ row ∷ [] → TakesLine row_at text old new
kept_adds [] none read row old new empty some is kept added = absurd (omega (arith, not_done none [] empty some))
kept_adds (c ∷ text) none read row old new empty some is kept added = record { row = row; row_is = kept_is (c ∷ text) read row is kept; added = added }

pub kept_stops : (text : List ℕ) (none : Bool) (read : ReadRow) (kind : LimitKind) → none ≡ (length text == 0)
    → none ≡ false → ◌≡◌ {A = Result LimitRow LimitKind} (Ok (packed read)) (row_at text) → kind ≡ kinds.Memory
    → IsStop row_at text kind
kept_stops [] none read kind empty some is wanting = absurd (omega (arith, not_done none [] empty some))
kept_stops (c ∷ text) none read kind empty some is wanting = subst (IsStop row_at (c ∷ text)) (sym wanting) (subst (λ (r : Result LimitRow LimitKind). IsOk r) is refl)
