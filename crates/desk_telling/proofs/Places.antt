-- What stands at a place of a list.
use Rattle.std.proofs.Common.{◌≡◌, ℕ, zero, suc, ◌-◌, ◌<◌, ◌≤◌, List, length, get_or, slice_get, arith, Option, Some, None, refl, sym, ap, ◌∙◌}
use Rattle.std.proofs.lemmas.Option.{slice_get_past, slice_get_read}
use Rattle.std.specs.Option.{IfNone, IfSome}
use Rattle.std.specs.Slice.{IsItemAt}
use denote.Ref.{Bor}
use Rattle.seat_journal.specs.declared.entry.Entry.{Entry}
use Rattle.desk_telling.specs.Telling.{line_numbered}

pub at_place : {X : Type 0} (xs ys : List X) (i j : ℕ) (x : X) → xs ≡ ys → i ≡ j → i < length xs → x ≡ get_or xs i x
    → slice_get ys j ≡ Some x
at_place {X} xs ys i j x list place within here =
    sym (ap (λ (l : List X). slice_get l j) list) ∙ (sym (ap (λ (k : ℕ). slice_get xs k) place) ∙ slice_get_read xs (length xs) i x refl within here)

pub past_place : {X : Type 0} (xs ys : List X) (i j : ℕ) → xs ≡ ys → i ≡ j → length xs ≤ i → slice_get ys j ≡ None
past_place {X} xs ys i j list place past =
    sym (ap (λ (l : List X). slice_get l j) list) ∙ (sym (ap (λ (k : ℕ). slice_get xs k) place) ∙ slice_get_past xs i past)

-- the line of a number stands at the place ahead of it
pub line_there : (journal : List Entry) (number : ℕ) (line : Option (Bor Entry)) → (number ≡ 0 → ⊥)
    → IsItemAt journal (number - 1) line → IfSome line (λ l. line_numbered journal number ≡ Some l.now)
line_there journal zero line some is = absurd (some refl)
line_there journal (suc n) (Some l) some is = at_place journal journal (suc n - 1) n l.now refl (omega arith) is.3.0 is.1
line_there journal (suc n) None some is = tt

pub line_past : (journal : List Entry) (number : ℕ) (line : Option (Bor Entry)) → (number ≡ 0 → ⊥)
    → IsItemAt journal (number - 1) line → IfNone line (line_numbered journal number ≡ None)
line_past journal zero line some is = absurd (some refl)
line_past journal (suc n) (Some l) some is = tt
line_past journal (suc n) None some is = past_place journal journal (suc n - 1) n refl (omega arith) is.3
