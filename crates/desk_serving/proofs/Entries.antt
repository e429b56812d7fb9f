-- The lines of entries that a look at a journal's text finds.
use Rattle.std.proofs.Common.{◌≡◌, ℕ, suc, ◌+◌, ◌-◌, ◌<◌, ◌≤◌, ◌==◌, Bool, true, false, List, ◌∷◌, length, drop, get_or, refl, ap, sym, ◌∙◌, arith}
use Rattle.std.specs.Prelude.{nat_lt, if◌then◌else◌}
use Rattle.std.proofs.lemmas.Bool.Decides.{nat_tests}
use Rattle.std.proofs.lemmas.List.{drop_all, drop_more}
use Rattle.desk_serving.specs.Opening.{entries_in, is_entry, left_behind, one_if}
use Rattle.desk_serving.specs.declared.feed_opening.Looking.{Looking}

-- two tests that hold alike are the same
same_test : (x y : Bool) → (x ≡ true → y ≡ true) → (x ≡ false → y ≡ false) → x ≡ y
same_test true y holds fails = sym (holds refl)
same_test false y holds fails = sym (fails refl)

-- one fewer is looked for behind one that was found
one_fewer : (n left : ℕ) → 0 < left → nat_lt n (left - 1) ≡ nat_lt (suc n) left
one_fewer n left some =
    same_test (nat_lt n (left - 1)) (nat_lt (suc n) left) (λ h. grind (arith, nat_tests, some, h)) (λ h. grind (arith, nat_tests, some, h))

pub ended_entry : (left : ℕ) (opens : Bool) → opens ≡ true → 0 < left → (rest : List ℕ)
    → nat_lt (entries_in true false rest) (left - 1) ≡ nat_lt (one_if opens (entries_in true false rest)) left
ended_entry left opens is some rest =
    one_fewer (entries_in true false rest) left some
    ∙ ap (λ (o : Bool). nat_lt (one_if o (entries_in true false rest)) left) (sym is)

pub ended_other : (left : ℕ) (opens : Bool) → opens ≡ false → (rest : List ℕ)
    → nat_lt (entries_in true false rest) left ≡ nat_lt (one_if opens (entries_in true false rest)) left
ended_other left opens is rest = ap (λ (o : Bool). nat_lt (one_if o (entries_in true false rest)) left) (sym is)

abbrev Looked : Looking → ℕ → Bool → List ℕ → Bool
Looked looking byte opens rest =
    nat_lt (if byte == 10 then one_if opens (entries_in true false rest) else entries_in false opens rest) looking.left

by_entry : (looking : Looking) (byte : ℕ) (opens : Bool) (rest : List ℕ) → opens ≡ is_entry looking.begins looking.opens byte
    → Looked looking byte opens rest ≡ left_behind looking (byte ∷ rest)
by_entry looking byte opens rest is = ap (λ (o : Bool). Looked looking byte o rest) is

-- a byte that ends a line
pub looked_end : (looking result : Looking) (byte : ℕ) (opens : Bool) → opens ≡ is_entry looking.begins looking.opens byte → byte ≡ 10
    → ((rest : List ℕ) → left_behind result rest ≡ nat_lt (one_if opens (entries_in true false rest)) looking.left)
    → (rest : List ℕ) → left_behind result rest ≡ left_behind looking (byte ∷ rest)
looked_end looking result byte opens is end counts rest =
    let test : (byte == 10) ≡ true = grind (arith, nat_tests, end) in
    counts rest
    ∙ ap (λ (b : Bool). nat_lt (if b then one_if opens (entries_in true false rest) else entries_in false opens rest) looking.left) (sym test)
    ∙ by_entry looking byte opens rest is

-- one within it
pub looked_within : (looking result : Looking) (byte : ℕ) (opens : Bool) → opens ≡ is_entry looking.begins looking.opens byte → (byte ≡ 10 → ⊥)
    → result ≡ record { left = looking.left; begins = false; opens = opens }
    → (rest : List ℕ) → left_behind result rest ≡ left_behind looking (byte ∷ rest)
looked_within looking result byte opens is other made rest =
    let test : (byte == 10) ≡ false = grind (arith, nat_tests, other) in
    ap (λ (l : Looking). left_behind l rest) made
    ∙ ap (λ (b : Bool). nat_lt (if b then one_if opens (entries_in true false rest) else entries_in false opens rest) looking.left) (sym test)
    ∙ by_entry looking byte opens rest is

-- ---- the text, byte by byte

-- as many as are looked for were found
pub looks_none : (text rest : List ℕ) (lines : ℕ) (looking : Looking) → nat_lt (entries_in false false text) lines ≡ left_behind looking rest
    → looking.left ≡ 0 → false ≡ nat_lt (entries_in false false text) lines
looks_none text rest lines looking so_far none =
    let over : nat_lt (entries_in looking.begins looking.opens rest) looking.left ≡ false = grind (arith, nat_tests, none) in
    sym (so_far ∙ over)

-- the text is over
pub looks_over : (text : List ℕ) (lines i : ℕ) (looking : Looking)
    → nat_lt (entries_in false false text) lines ≡ left_behind looking (drop i text) → length text ≤ i
    → nat_lt 0 looking.left ≡ nat_lt (entries_in false false text) lines
looks_over text lines i looking so_far over =
    sym (so_far ∙ ap (λ (l : List ℕ). left_behind looking l) (drop_all i text over))

-- one byte more
pub looks_on : (text : List ℕ) (lines i byte : ℕ) (old new : Looking)
    → nat_lt (entries_in false false text) lines ≡ left_behind old (drop i text) → i < length text → byte ≡ get_or text i 0
    → ((rest : List ℕ) → left_behind new rest ≡ left_behind old (byte ∷ rest))
    → nat_lt (entries_in false false text) lines ≡ left_behind new (drop (i + 1) text)
looks_on text lines i byte old new so_far in_range here step =
    so_far ∙ ap (λ (l : List ℕ). left_behind old l) (drop_more text i 0 in_range ∙ ap (λ (b : ℕ). b ∷ drop (i + 1) text) (sym here))
    ∙ sym (step (drop (i + 1) text))
