-- Cells behind cells.
use Rattle.std.proofs.Common.{Bool, true, false, ◌≡◌, ℕ, ◌+◌, ◌-◌, ◌<◌, ◌≤◌, ◌==◌, List, [], ◌∷◌, ◌++◌, length, drop, get_or, Option, Some, None, refl, sym, ap, ◌∙◌, append_assoc, if◌then◌else◌, codes}
use Rattle.std.specs.Prelude.{decimal}
use Rattle.std.proofs.Math.ListN.{drop_of_length-le}
use Rattle.std.proofs.lemmas.List.{append-nil}
use Rattle.load_pages.specs.Rows.{behind_text, cell_text, gap_text, designator_text, goes_on, load_text, name_text, next_text, opening_text, rows_text}
use Rattle.load_pages.specs.Marks.{mark_text}
use Rattle.load_pages.specs.declared.marks.Mark.TheVariants.{Row, Gap, Close}
use Rattle.load_pages.specs.declared.load.LegLoad.{LegLoad}
use Rattle.load_pages.proofs.Walking.{drop_step}

-- one cell more
pub cell_more : (first : ℕ) (last : Option LegLoad) (loads : List LegLoad) (i : ℕ) (load : LegLoad) (mid new whole : List ℕ)
    → mid ++ rows_text first last (drop i loads) ≡ whole → i < length loads → load ≡ get_or loads i load
    → new ≡ mid ++ cell_text first last load → new ++ rows_text first (Some load) (drop (i + 1) loads) ≡ whole
cell_more first last loads i load mid new whole so_far inside is put =
    let rest : drop i loads ≡ load ∷ drop (i + 1) loads = drop_step loads i load inside is in
    ap (λ (l : List ℕ). l ++ rows_text first (Some load) (drop (i + 1) loads)) put
    ∙ append_assoc mid (cell_text first last load) (rows_text first (Some load) (drop (i + 1) loads))
    ∙ ap (λ (l : List LegLoad). mid ++ rows_text first last l) (sym rest)
    ∙ so_far

pub rows_whole : (first : ℕ) (last : Option LegLoad) (loads : List LegLoad) (i : ℕ) (text whole : List ℕ)
    → text ++ rows_text first last (drop i loads) ≡ whole → length loads ≤ i → text ≡ whole
rows_whole first last loads i text whole so_far over =
    sym (append-nil text) ∙ ap (λ (l : List LegLoad). text ++ rows_text first last l) (sym (drop_of_length-le loads over)) ∙ so_far

assoc_four : (o a b c d : List ℕ) → (((o ++ a) ++ b) ++ c) ++ d ≡ o ++ (a ++ b ++ c ++ d)
assoc_four o a b c d = simp append_assoc

assoc_three : (o a b c : List ℕ) → ((o ++ a) ++ b) ++ c ≡ o ++ (a ++ b ++ c)
assoc_three o a b c = simp append_assoc

assoc_five : (o a b c d e : List ℕ) → ((((o ++ a) ++ b) ++ c) ++ d) ++ e ≡ o ++ (a ++ b ++ c ++ d ++ e)
assoc_five o a b c d e = simp append_assoc

pub name_put : (load : LegLoad) (board off old a b c d new : List ℕ) → board ≡ load.board → off ≡ load.off
    → a ≡ old ++ designator_text load → b ≡ a ++ codes " " → c ≡ b ++ board → d ≡ c ++ codes " " → new ≡ d ++ off
    → new ≡ old ++ name_text load
name_put load board off old a b c d new is_board is_off is_a is_b is_c is_d is_new =
    let to : List ℕ → List ℕ → List ℕ = λ x y. y ++ x in
    is_new ∙ ap (λ (l : List ℕ). d ++ l) is_off
    ∙ ap (to load.off) (is_d ∙ ap (to (codes " ")) (is_c ∙ ap (λ (l : List ℕ). b ++ l) is_board ∙ ap (to load.board) (is_b ∙ ap (to (codes " ")) is_a)))
    ∙ assoc_five old (designator_text load) (codes " ") load.board (codes " ") load.off

pub no_gap : (days : ℕ) (text : List ℕ) → (days == 0) ≡ true → text ≡ text ++ gap_text days
no_gap days text e =
    sym (append-nil text)
    ∙ ap (λ (b : Bool). text ++ (if b then [] else mark_text Gap ++ decimal days ++ mark_text Close)) (sym e)

pub gap_put : (days : ℕ) (old a b new : List ℕ) → (days == 0) ≡ false → a ≡ old ++ mark_text Gap → b ≡ a ++ decimal days
    → new ≡ b ++ mark_text Close → new ≡ old ++ gap_text days
gap_put days old a b new e is_a is_b is_new =
    let to : List ℕ → List ℕ → List ℕ = λ x y. y ++ x in
    is_new ∙ ap (to (mark_text Close)) (is_b ∙ ap (to (decimal days)) is_a)
    ∙ assoc_three old (mark_text Gap) (decimal days) (mark_text Close)
    ∙ ap (λ (t : Bool). old ++ (if t then [] else mark_text Gap ++ decimal days ++ mark_text Close)) (sym e)

-- the first of a row
pub first_put : (first : ℕ) (load : LegLoad) (day from days : ℕ) (old a b c new : List ℕ) → days ≡ day - from → day ≡ load.day → from ≡ first
    → a ≡ old ++ mark_text Row → b ≡ a ++ name_text load → c ≡ b ++ gap_text days → new ≡ c ++ load_text load
    → new ≡ old ++ opening_text first load
first_put first load day from days old a b c new so_many is_day is_first is_a is_b is_c is_new =
    let same : days ≡ load.day - first = so_many ∙ ap (λ (n : ℕ). n - from) is_day ∙ ap (λ (n : ℕ). load.day - n) is_first in
    is_new
    ∙ ap (λ (l : List ℕ). l ++ load_text load)
    (is_c ∙ ap (λ (n : ℕ). b ++ gap_text n) same ∙ ap (λ (l : List ℕ). l ++ gap_text (load.day - first)) (is_b ∙ ap (λ (l : List ℕ). l ++ name_text load) is_a))
    ∙ assoc_four old (mark_text Row) (name_text load) (gap_text (load.day - first)) (load_text load)

-- in the row of the one ahead of it
pub next_put : (last load : LegLoad) (day from days : ℕ) (old mid new : List ℕ) → days ≡ day - (from + 1) → day ≡ load.day
    → from ≡ last.day → mid ≡ old ++ gap_text days → new ≡ mid ++ load_text load → new ≡ old ++ next_text last load
next_put last load day from days old mid new so_many is_day is_last is_mid is_new =
    let same : days ≡ load.day - (last.day + 1) =
    so_many ∙ ap (λ (n : ℕ). n - (from + 1)) is_day ∙ ap (λ (n : ℕ). load.day - (n + 1)) is_last in
    is_new ∙ ap (λ (l : List ℕ). l ++ load_text load) (is_mid ∙ ap (λ (n : ℕ). old ++ gap_text n) same)
    ∙ append_assoc old (gap_text (load.day - (last.day + 1))) (load_text load)

pub same_row : (first : ℕ) (last load : LegLoad) (old new : List ℕ) → goes_on last load ≡ true → new ≡ old ++ next_text last load
    → new ≡ old ++ behind_text first last load
same_row first last load old new e is_new =
    is_new ∙ ap (λ (b : Bool). old ++ (if b then next_text last load else opening_text first load)) (sym e)

-- in one of its own
pub own_row : (first : ℕ) (last load : LegLoad) (old new : List ℕ) → goes_on last load ≡ false → new ≡ old ++ opening_text first load
    → new ≡ old ++ behind_text first last load
own_row first last load old new e is_new =
    is_new ∙ ap (λ (b : Bool). old ++ (if b then next_text last load else opening_text first load)) (sym e)
