-- Limit rows by flight and city pair.
use Rattle.std.proofs.Common.{◌≡◌, ◌≢◌, ◌==◌, nat_eq, ℕ, zero, suc, ◌+◌, ◌-◌, ◌<◌, ◌≤◌, Bool, true, false, ◌&&◌, cond, List, [], ◌∷◌, length, take, get_or, fold, Option, Some, None, refl, sym, ap, subst, ◌∙◌, arith}
use Rattle.std.specs.List.{slice_get}
use Rattle.std.specs.Option.{option_eq}
use Rattle.std.specs.HashMap.{get}
use Rattle.std.specs.Cmp.Lexicographic.{pointwise}
use Rattle.std.proofs.lemmas.Bool.{eqb-true, eqb-false, eq-eqb, and_parts}
use Rattle.std.proofs.lemmas.List.{take_more}
use Rattle.std.proofs.lemmas.List.Sums.{fold_push}
use Rattle.std.proofs.lemmas.Option.{slice_get-get_or, slice_get_within, get_or_from_slice_get, same_Some}
use Rattle.seat_nesting.specs.Nesting.{Steps}
use Rattle.seat_limits.specs.Authorised.{row_pair, same_pair, holds_day, after_row, LastRows, is_of, last_below, PutsRow, HasLastRows, IsRun}
use Rattle.seat_limits.specs.RowStretches.{number_noted, Knows}
use Rattle.seat_limits.specs.declared.row_index.Numbered.{Numbered}
use Rattle.seat_limits.specs.declared.limit_row.LimitRow.{LimitRow}
use Rattle.seat_limits.specs.declared.row_index.Pair.{Pair}

-- ---- pairs that are equal

same_text : (a b : List ℕ) → pointwise nat_eq a b ≡ true → a ≡ b
same_text [] [] h = refl
same_text [] (y ∷ ys) h = absurd cc
same_text (x ∷ xs) [] h = absurd cc
same_text (x ∷ xs) (y ∷ ys) h =
    let p = and_parts (nat_eq x y) (pointwise nat_eq xs ys) h in
    let first : x ≡ y = eqb-true x y p.0 in
    let rest : xs ≡ ys = same_text xs ys p.1 in
    rw (first, rest) refl

pub same_letter : (a b : Option ℕ) → option_eq nat_eq a b ≡ true → a ≡ b
same_letter None None h = refl
same_letter None (Some y) h = absurd cc
same_letter (Some x) None h = absurd cc
same_letter (Some x) (Some y) h = ap (λ (n : ℕ). Some n) (eqb-true x y h)

abbrev pair : List ℕ → ℕ → Option ℕ → List ℕ → List ℕ → Pair
pair airline number suffix board off = record { airline = airline; number = number; suffix = suffix; board = board; off = off }

pub pair_is : (a b : Pair) → same_pair a b ≡ true → a ≡ b
pair_is a b h =
    let p = and_parts (pointwise nat_eq a.airline b.airline) ((a.number == b.number) && (option_eq nat_eq a.suffix b.suffix && (pointwise nat_eq a.board b.board && pointwise nat_eq a.off b.off))) h in
    let q = and_parts (a.number == b.number) (option_eq nat_eq a.suffix b.suffix && (pointwise nat_eq a.board b.board && pointwise nat_eq a.off b.off)) p.1 in
    let r = and_parts (option_eq nat_eq a.suffix b.suffix) (pointwise nat_eq a.board b.board && pointwise nat_eq a.off b.off) q.1 in
    let s = and_parts (pointwise nat_eq a.board b.board) (pointwise nat_eq a.off b.off) r.1 in
    ap (λ (x : List ℕ). pair x a.number a.suffix a.board a.off) (same_text a.airline b.airline p.0)
    ∙ ap (λ (x : ℕ). pair b.airline x a.suffix a.board a.off) (eqb-true a.number b.number q.0)
    ∙ ap (λ (x : Option ℕ). pair b.airline b.number x a.board a.off) (same_letter a.suffix b.suffix r.0)
    ∙ ap (λ (x : List ℕ). pair b.airline b.number b.suffix x a.off) (same_text a.board b.board s.0)
    ∙ ap (λ (x : List ℕ). pair b.airline b.number b.suffix b.board x) (same_text a.off b.off s.1)

text_same : (a : List ℕ) → pointwise nat_eq a a ≡ true
text_same [] = refl
text_same (x ∷ xs) = ap (λ (b : Bool). b && pointwise nat_eq xs xs) (eq-eqb x x refl) ∙ text_same xs

pub letter_same : (a : Option ℕ) → option_eq nat_eq a a ≡ true
letter_same None = refl
letter_same (Some x) = eq-eqb x x refl

pub pair_same : (a : Pair) → same_pair a a ≡ true
pair_same a = rw (text_same a.airline, eq-eqb a.number a.number refl, letter_same a.suffix, text_same a.board, text_same a.off) refl

-- ---- one row more

pub row_here : (rows : List LimitRow) (i : ℕ) (row : LimitRow) → i < length rows → row ≡ get_or rows i row
    → slice_get rows i ≡ Some row
row_here rows i row lt is = slice_get-get_or rows i row lt ∙ ap (λ (x : LimitRow). Some x) (sym is)

-- ---- a run of rows of one pair

-- a row of the pair is of no other
not_another : (pair p : Pair) (o : Option LimitRow) → same_pair pair p ≡ false → is_of pair o ≡ true → is_of p o ≡ false
not_another pair p None e h = absurd cc
not_another pair p (Some row) e h = ap (λ (r : Pair). same_pair r p) (pair_is (row_pair row) pair h) ∙ e

passed_over : (pair p : Pair) (rows : List LimitRow) (i j d : ℕ) → same_pair pair p ≡ false → IsRun rows pair i j
    → i + d ≤ j → last_below p rows i ≡ last_below p rows (i + d)
passed_over pair p rows i j zero e run le = let same : i ≡ i + 0 = omega arith in ap (last_below p rows) same
passed_over pair p rows i j (suc d) e run le =
    let before = passed_over pair p rows i j d e run (omega (arith, le)) in
    let next : i + suc d ≡ suc (i + d) = omega arith in
    let other = not_another pair p (slice_get rows (i + d)) e (run.each (i + d) (omega arith) (omega (arith, le))) in
    before
    ∙ (sym (ap (λ (b : Bool). cond b (Some (i + d)) (last_below p rows (i + d))) other) ∙ ap (last_below p rows) (sym next))

pub last_run : (old new : LastRows) (rows : List LimitRow) (i j m : ℕ) (pair : Pair) → HasLastRows old rows i
    → IsRun rows pair i j → i < j → j ≡ m + 1 → PutsRow old new pair m → HasLastRows new rows j
last_run old new rows i j m pair h run lt is puts = record { last_is = λ p. puts.at p ∙ of p (same_pair pair p) refl } where
  next : j ≡ suc m
  next = omega (arith, is)

  of : (p : Pair) (b : Bool) → same_pair pair p ≡ b
      → cond (same_pair pair p) (Some m) (get same_pair old p) ≡ last_below p rows j
  of p true e =
      let there : is_of pair (slice_get rows m) ≡ true = run.each m (omega (arith, is, lt)) (omega (arith, is)) in
      let here : is_of p (slice_get rows m) ≡ true = subst (λ (q : Pair). is_of q (slice_get rows m) ≡ true) (pair_is pair p e) there in
      ap (λ (b : Bool). cond b (Some m) (get same_pair old p)) e
      ∙ (sym (ap (λ (b : Bool). cond b (Some m) (last_below p rows m)) here) ∙ ap (last_below p rows) (sym next))
  of p false e =
      let far : i + (j - i) ≡ j = omega (arith, lt) in
      ap (λ (b : Bool). cond b (Some m) (get same_pair old p)) e
      ∙ (h.last_is p ∙ (passed_over pair p rows i j (j - i) e run (omega (arith, lt)) ∙ ap (last_below p rows) far))

-- it begins with its first row, and goes on with the next of the pair
pub run_first : (rows : List LimitRow) (i j : ℕ) (row : LimitRow) → i < length rows → row ≡ get_or rows i row → j ≡ i + 1
    → IsRun rows (row_pair row) i j
run_first rows i j row lt is next = record { each = λ k le less. of k (omega (arith, le, less, next)) } where
  of : (k : ℕ) → i ≡ k → is_of (row_pair row) (slice_get rows k) ≡ true
  of k same =
      ap (λ (n : ℕ). is_of (row_pair row) (slice_get rows n)) (sym same)
      ∙ (ap (is_of (row_pair row)) (row_here rows i row lt is) ∙ pair_same (row_pair row))

pub run_more : (rows : List LimitRow) (pair : Pair) (from i j : ℕ) (row : LimitRow) → IsRun rows pair from i
    → i < length rows → row ≡ get_or rows i row → same_pair (row_pair row) pair ≡ true → j ≡ i + 1 → IsRun rows pair from j
run_more rows pair from i j row run lt is of_pair next = record { each = λ k le less. of k le less (k == i) refl } where
  here : is_of pair (slice_get rows i) ≡ true
  here = ap (is_of pair) (row_here rows i row lt is) ∙ of_pair

  of : (k : ℕ) → from ≤ k → k < j → (b : Bool) → (k == i) ≡ b → is_of pair (slice_get rows k) ≡ true
  of k le less true e = ap (λ (n : ℕ). is_of pair (slice_get rows n)) (eqb-true k i e) ∙ here
  of k le less false e = run.each k le (let other : k ≢ i = eqb-false k i e in omega (arith, less, next, other))

-- a pair that is the one that is noted has its number
pub number_known : (last : LastRows) (known : Option Numbered) (p : Pair) (number : ℕ) → Knows last known
    → number_noted known p ≡ Some number → get same_pair last p ≡ Some number
number_known last None p number knows is = absurd cc
number_known last (Some known) p number knows is = of (same_pair known.pair p) refl is
  where
    of : (b : Bool) → same_pair known.pair p ≡ b → cond b (Some known.number) None ≡ Some number
        → get same_pair last p ≡ Some number
    of true same is = ap (get same_pair last) (sym (pair_is known.pair p same)) ∙ knows ∙ is
    of false same is = absurd cc

-- ---- the rows so far

pub none_within : (xs : List LimitRow) (k : ℕ) → k < length xs → slice_get xs k ≡ None → ⊥
none_within [] k l e = absurd (omega arith)
none_within (x ∷ xs) zero l e = cc
none_within (x ∷ xs) (suc k) l e = none_within xs k (omega arith) e

abbrev pub so_far : Pair → ℕ → List LimitRow → ℕ → Steps
so_far p day rows n = fold (after_row p day) [] (take n rows)

pub so_far_more : (p : Pair) (day : ℕ) (rows : List LimitRow) (n : ℕ) (row : LimitRow) → slice_get rows n ≡ Some row
    → so_far p day rows (suc n) ≡ after_row p day (so_far p day rows n) row
so_far_more p day rows n row at =
    let lt = slice_get_within rows n row at in
    let one : suc n ≡ n + 1 = omega arith in
    ap (λ (k : ℕ). fold (after_row p day) [] (take k rows)) one
    ∙ ap (fold (after_row p day) []) (take_more rows n row lt)
    ∙ fold_push (after_row p day) [] (take n rows) (get_or rows n row)
    ∙ ap (after_row p day (so_far p day rows n)) (get_or_from_slice_get rows n row row at)

not_of : (p : Pair) (day : ℕ) (rows : List LimitRow) (n : ℕ) (o : Option LimitRow) → slice_get rows n ≡ o
    → n < length rows → is_of p o ≡ false → so_far p day rows (suc n) ≡ so_far p day rows n
not_of p day rows n None at lt h = absurd (none_within rows n lt at)
not_of p day rows n (Some row) at lt h =
    so_far_more p day rows n row at ∙ ap (λ (b : Bool). cond (b && holds_day row day) row.ladder (so_far p day rows n)) h

-- no row of the pair: nothing so far
pub nothing_of : (p : Pair) (day : ℕ) (rows : List LimitRow) (m : ℕ) → m ≤ length rows → last_below p rows m ≡ None
    → so_far p day rows m ≡ []
nothing_of p day rows zero le e = refl
nothing_of p day rows (suc m) le e = of (is_of p (slice_get rows m)) refl e (λ (h : last_below p rows m ≡ None). nothing_of p day rows m (omega arith) h)
  where
    of : (b : Bool) → is_of p (slice_get rows m) ≡ b → cond b (Some m) (last_below p rows m) ≡ None
        → (last_below p rows m ≡ None → so_far p day rows m ≡ []) → so_far p day rows (suc m) ≡ []
    of true is h below = absurd cc
    of false is h below = not_of p day rows m (slice_get rows m) refl (omega arith) is ∙ below h

pub record LastRow (p : Pair) (day : ℕ) (rows : List LimitRow) (m i : ℕ) : Type 0 where
  pub inside : i < m
  pub row : LimitRow
  pub at : slice_get rows i ≡ Some row
  pub of_pair : same_pair (row_pair row) p ≡ true
  pub same : so_far p day rows m ≡ so_far p day rows (suc i)

there : (p : Pair) (day : ℕ) (rows : List LimitRow) (i : ℕ) (o : Option LimitRow) → slice_get rows i ≡ o
    → is_of p o ≡ true → LastRow p day rows (suc i) i
there p day rows i None e h = absurd cc
there p day rows i (Some row) e h = record { inside = omega arith; row = row; at = e; of_pair = h; same = refl }

pub last_row : (p : Pair) (day : ℕ) (rows : List LimitRow) (m i : ℕ) → m ≤ length rows → last_below p rows m ≡ Some i
    → LastRow p day rows m i
last_row p day rows zero i le e = absurd cc
last_row p day rows (suc m) i le e = of (is_of p (slice_get rows m)) refl e (λ (h : last_below p rows m ≡ Some i). last_row p day rows m i (omega arith) h)
  where
    of : (b : Bool) → is_of p (slice_get rows m) ≡ b → cond b (Some m) (last_below p rows m) ≡ Some i
        → (last_below p rows m ≡ Some i → LastRow p day rows m i) → LastRow p day rows (suc m) i
    of true is h below =
        let same : m ≡ i = same_Some m i h in
        subst (LastRow p day rows (suc m)) same (there p day rows m (slice_get rows m) refl is)
    of false is h below =
        let l = below h in
        record { inside = omega (arith, l.inside); row = l.row; at = l.at; of_pair = l.of_pair; same = not_of p day rows m (slice_get rows m) refl (omega arith) is ∙ l.same }
