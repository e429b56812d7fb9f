-- The first line and the rest are the lines of a text.
use Rattle.std.proofs.Common.{◌≡◌, ℕ, ◌+◌, ◌<◌, ◌≤◌, Bool, true, false, not, cond, nat_lt, eqb, List, [], ◌∷◌, length, take, drop, Option, Some, None, refl, sym, ap, ◌∙◌, arith, length-drop}
use Rattle.std.specs.List.{slice_split, onto_first, position, position_or_len, before_first, after_first}
use Rattle.std.specs.Str.Lines.{lines, lines_of_parts, strip_carriage_return}
use Rattle.std.proofs.lemmas.Bool.Decides.{nat_tests}
use Rattle.std.proofs.lemmas.Bool.{ltb-true, ltb-false}
use Rattle.std.proofs.lemmas.List.{drop_all}
use Rattle.std.proofs.lemmas.List.Splits.{slice_split_first}
use Rattle.airline_base.specs.Lines.{is_line_feed, line_at}

-- ---- parts

-- there is a first part
abbrev pub IsSplit : {X : Type 0} → List (List X) → Type 0
IsSplit [] = ⊥
IsSplit (part ∷ parts) = Unit {0}

onto_split : {X : Type 0} (x : X) (parts : List (List X)) → IsSplit (onto_first x parts)
onto_split x [] = tt
onto_split x (part ∷ parts) = tt

split_step : {X : Type 0} (b : Bool) (x : X) (parts : List (List X))
    → IsSplit (cond b ([] ∷ parts) (onto_first x parts))
split_step true x parts = tt
split_step false x parts = onto_split x parts

pub is_split : {X : Type 0} (p : X → Bool) (xs : List X) → IsSplit (slice_split p xs)
is_split p [] = tt
is_split p (x ∷ xs) = split_step (p x) x (slice_split p xs)

-- ---- lines

front_line : (x : List ℕ) (parts : List (List ℕ)) → IsSplit parts
    → lines_of_parts (x ∷ parts) ≡ strip_carriage_return x ∷ lines_of_parts parts
front_line x [] h = absurd h
front_line x (part ∷ parts) h = refl

no_feed_step : {X : Type 0} (p : X → Bool) (x : X) (xs : List X) (b : Bool)
    → length (x ∷ xs) ≤ cond (not b) (1 + position_or_len p xs) 0 → slice_split p xs ≡ xs ∷ []
    → cond b ([] ∷ slice_split p xs) (onto_first x (slice_split p xs)) ≡ (x ∷ xs) ∷ []
no_feed_step p x xs true h e = absurd (omega arith)
no_feed_step p x xs false h e = rw e refl

no_feed : {X : Type 0} (p : X → Bool) (xs : List X) → length xs ≤ position_or_len p xs → slice_split p xs ≡ xs ∷ []
no_feed p [] h = refl
no_feed p (x ∷ xs) h = no_feed_step p x xs (p x) h (no_feed p xs (more (p x) h))
  where
    more : (b : Bool) → length (x ∷ xs) ≤ cond (not b) (1 + position_or_len p xs) 0 → length xs ≤ position_or_len p xs
    more true le = absurd (omega arith)
    more false le = omega arith

last_line : (xs : List ℕ) → 0 < length xs → lines_of_parts (xs ∷ []) ≡ xs ∷ []
last_line [] h = absurd (omega arith)
last_line (x ∷ xs) h = let some : eqb (length (x ∷ xs)) 0 ≡ false = grind (arith, nat_tests) in rw some refl

nothing_left : (n : ℕ) (xs : List ℕ) → length xs ≤ n → drop (n + 1) xs ≡ []
nothing_left n xs h = drop_all (n + 1) xs (omega arith)

lines_by : (bytes : List ℕ) (b : Bool) → nat_lt (position_or_len is_line_feed bytes) (length bytes) ≡ b
    → 0 < length bytes
    → lines bytes ≡ cond b (strip_carriage_return (before_first is_line_feed bytes)) bytes
    ∷ lines (after_first is_line_feed bytes)
lines_by bytes true e some =
    ap lines_of_parts (slice_split_first is_line_feed bytes 0 (ltb-true _ _ e))
    ∙ front_line (before_first is_line_feed bytes) (slice_split is_line_feed (after_first is_line_feed bytes)) (is_split is_line_feed (after_first is_line_feed bytes))
lines_by bytes false e some =
    let all : length bytes ≤ position_or_len is_line_feed bytes = ltb-false _ _ e in
    ap lines_of_parts (no_feed is_line_feed bytes all) ∙ last_line bytes some ∙ ap (λ (rest : List ℕ). bytes ∷ lines rest) (sym (nothing_left (position_or_len is_line_feed bytes) bytes all))

pub lines_are : (bytes : List ℕ) → 0 < length bytes → lines bytes ≡ (line_at bytes).0 ∷ lines (line_at bytes).1
unfolding line_at
lines_are bytes some = lines_by bytes (nat_lt (position_or_len is_line_feed bytes) (length bytes)) refl some

pub rest_shorter : (bytes : List ℕ) → 0 < length bytes → length (line_at bytes).1 < length bytes
unfolding line_at
rest_shorter bytes some = omega (arith, length-drop (position_or_len is_line_feed bytes + 1) bytes)

-- ---- the first line as it is cut

abbrev found : Option ℕ → Option ℕ
found o = o

pub cut_at : (bytes : List ℕ) (end : ℕ) (text : List ℕ) → found (Some end) ≡ position is_line_feed bytes
    → text ≡ strip_carriage_return (take end bytes)
    → ◌≡◌ {A = List ℕ × List ℕ} (text, drop (end + 1) bytes) (line_at bytes)
unfolding line_at
cut_at bytes end text e t = of (nat_lt (position_or_len is_line_feed bytes) (length bytes)) e
  where
    of : (b : Bool) → found (Some end) ≡ cond b (Some (position_or_len is_line_feed bytes)) None
        → ◌≡◌ {A = List ℕ × List ℕ} (text, drop (end + 1) bytes)
        (cond b (strip_carriage_return (before_first is_line_feed bytes)) bytes, after_first is_line_feed bytes)
    of true h = let same : end ≡ position_or_len is_line_feed bytes = cc in rw (t, same) refl
    of false h = absurd cc

pub cut_none : (bytes : List ℕ) → found None ≡ position is_line_feed bytes
    → ◌≡◌ {A = List ℕ × List ℕ} (bytes, []) (line_at bytes)
unfolding line_at
cut_none bytes e = of (nat_lt (position_or_len is_line_feed bytes) (length bytes)) refl e
  where
    of : (b : Bool) → nat_lt (position_or_len is_line_feed bytes) (length bytes) ≡ b
        → found None ≡ cond b (Some (position_or_len is_line_feed bytes)) None
        → ◌≡◌ {A = List ℕ × List ℕ} (bytes, [])
        (cond b (strip_carriage_return (before_first is_line_feed bytes)) bytes, after_first is_line_feed bytes)
    of true is h = absurd cc
    of false is h = rw (nothing_left (position_or_len is_line_feed bytes) bytes (ltb-false _ _ is)) refl

-- ---- what was cut off is the first line

abbrev pub Cut : List ℕ → List ℕ → List ℕ → Type 0
Cut text after bytes = ◌≡◌ {A = List ℕ × List ℕ} (text, after) (line_at bytes)

pub cut_lines : (bytes text after : List ℕ) → Cut text after bytes → 0 < length bytes → lines bytes ≡ text ∷ lines after
cut_lines bytes text after cut some =
    lines_are bytes some ∙ sym (ap (λ (p : List ℕ × List ℕ). p.0 ∷ lines p.1) cut)

pub cut_shorter : (bytes text after : List ℕ) → Cut text after bytes → 0 < length bytes → length after < length bytes
cut_shorter bytes text after cut some = omega (arith, ap (λ (p : List ℕ × List ℕ). length p.1) cut, rest_shorter bytes some)
