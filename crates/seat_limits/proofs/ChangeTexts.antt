-- The change rows of a text's lines.
use Rattle.std.proofs.Common.{◌≡◌, ℕ, ◌+◌, List, [], ◌∷◌, length, Result, Ok, Err, refl, sym, subst, ◌∙◌}
use Rattle.std.specs.Str.Lines.{lines}
use Rattle.seat_limits.specs.RowTexts.{row_then, each_row}
use Rattle.seat_limits.specs.ChangeRows.{change_at, SpellsChanges, IsChangeText}
use Rattle.seat_limits.specs.declared.change_row.ChangeRow.{ChangeRow}
use Rattle.seat_limits.specs.declared.limit_fault.LimitKind.{LimitKind}
use Rattle.seat_limits.proofs.ChangeLaws.{change_takes, change_again}
use Rattle.seat_limits.proofs.RowTexts.{Rows, ok_rows, IsAt, whole, rows_is}

take_then : (texts : List (List ℕ)) (n : ℕ) (c : ℕ) (text : List ℕ) (r : Result ChangeRow LimitKind)
    (more : Rows ChangeRow) (rows : List ChangeRow) → change_at n (c ∷ text) ≡ r
    → ((xs : List ChangeRow) → more ≡ ok_rows xs → SpellsChanges (n + 1) texts xs)
    → row_then n r more ≡ ok_rows rows → SpellsChanges n ((c ∷ text) ∷ texts) rows
take_then texts n c text (Err kind) more rows e h is = absurd cc
take_then texts n c text (Ok row) (Err fault) rows e h is = absurd cc
take_then texts n c text (Ok row) (Ok xs) rows e h is =
    let same : row ∷ xs ≡ rows = cc in
    subst (SpellsChanges n ((c ∷ text) ∷ texts)) same (change_takes n (c ∷ text) row e, h xs refl)

changes_take : (texts : List (List ℕ)) (n : ℕ) (rows : List ChangeRow) → each_row change_at n texts ≡ ok_rows rows
    → SpellsChanges n texts rows
changes_take [] n rows e = let same : [] ≡ rows = cc in subst (SpellsChanges n []) same tt
changes_take ([] ∷ texts) n rows e = changes_take texts (n + 1) rows e
changes_take ((c ∷ text) ∷ texts) n rows e = take_then texts n c text (change_at n (c ∷ text)) (each_row change_at (n + 1) texts) rows refl (changes_take texts (n + 1)) e

pub changes_again : (texts : List (List ℕ)) (n : ℕ) (rows : List ChangeRow) → SpellsChanges n texts rows
    → each_row change_at n texts ≡ ok_rows rows
changes_again [] n [] h = refl
changes_again [] n (row ∷ rows) h = absurd h
changes_again ([] ∷ texts) n rows h = changes_again texts (n + 1) rows h
changes_again ((c ∷ text) ∷ texts) n [] h = absurd h
changes_again ((c ∷ text) ∷ texts) n (row ∷ rows) h = rw (change_again n (c ∷ text) row h.0, changes_again texts (n + 1) rows h.1) refl

pub whole_found : (bytes : List ℕ) (line : ℕ) (rest : List ℕ) (rows : List ChangeRow)
    → IsAt change_at bytes line rest rows → length rest ≡ 0 → IsChangeText bytes rows
whole_found bytes line rest rows at none = record { spelled = changes_take (lines bytes) 1 rows (whole change_at bytes line rest rows at none) }

pub whole_only : (bytes : List ℕ) (line : ℕ) (rest : List ℕ) (rows others : List ChangeRow)
    → IsAt change_at bytes line rest rows → length rest ≡ 0 → IsChangeText bytes others → rows ≡ others
whole_only bytes line rest rows others at none h = rows_is rows others (sym (whole change_at bytes line rest rows at none) ∙ changes_again (lines bytes) 1 others h.spelled)
