-- Pairs of limit rows by their numbers.
use Rattle.std.proofs.Common.{◌≡◌, ◌==◌, ℕ, ◌+◌, ◌<◌, ◌≤◌, Bool, true, false, cond, List, length, get_or, Option, Some, None, refl, sym, ap, subst, ◌∙◌, arith}
use Rattle.seat_questions.proofs.Common.{LimitRow}
use Rattle.std.specs.List.{slice_get}
use Rattle.std.specs.Option.{unwrap_or}
use Rattle.std.specs.HashMap.{get}
use Rattle.std.proofs.lemmas.Bool.{eqb-true, eq-eqb}
use Rattle.std.proofs.lemmas.Bool.Decides.{nat_tests}
use Rattle.std.proofs.lemmas.Option.{slice_get_within, same_Some}
use Rattle.seat_limits.specs.Authorised.{row_pair, same_pair, PutsRow}
use Rattle.seat_limits.specs.declared.row_index.Pair.{Pair}
use Rattle.seat_limits.proofs.RowIndexing.{pair_is, row_here, letter_same}
use Rattle.seat_questions.specs.PairNumbers.{AreNumbered, HasNumber, IsRowOf, Numbers, number_of}
use Rattle.seat_rules.proofs.Step.Apart.{letters_same}

-- a pair is that of itself

pub pair_itself : (a : Pair) → same_pair a a ≡ true
pair_itself a = let number : (a.number == a.number) ≡ true = eq-eqb a.number a.number refl in
    rw (letters_same a.airline, number, letter_same a.suffix, letters_same a.board, letters_same a.off) refl

-- ---- one row more

pub numbered_more : (old new : Numbers) (rows : List LimitRow) (i : ℕ) (row : LimitRow) → AreNumbered old rows i
    → i < length rows → row ≡ get_or rows i row
    → PutsRow old new (row_pair row) i → AreNumbered new rows (i + 1)
numbered_more old new rows i row h lt is puts = record {
  each = λ k r less at. each k r (same_pair (row_pair row) (row_pair r)) (k == i) refl refl (omega (arith, less)) at;
  own = λ p n found. own p n (same_pair (row_pair row) p) refl (sym (puts.at p) ∙ found);
} where
  here : slice_get rows i ≡ Some row
  here = row_here rows i row lt is

  each : (k : ℕ) (r : LimitRow) (b t : Bool) → same_pair (row_pair row) (row_pair r) ≡ b → (k == i) ≡ t → k ≤ i
      → slice_get rows k ≡ Some r → HasNumber new (row_pair r)
  each k r true t e f le at = record { number = i; is = puts.at (row_pair r) ∙ ap (λ (b : Bool). cond b (Some i) (get same_pair old (row_pair r))) e }
  each k r false true e f le at =
      let same : k ≡ i = eqb-true k i f in
      let same_row : row ≡ r = same_Some row r (sym here ∙ ap (slice_get rows) (sym same) ∙ at) in
      let itself : true ≡ false = sym (pair_itself (row_pair row)) ∙ ap (λ (x : LimitRow). same_pair (row_pair row) (row_pair x)) same_row ∙ e in
      absurd cc
  each k r false false e f le at =
      let less : k < i = grind (arith, nat_tests) in
      let before = h.each k r less at in
      record { number = before.number; is = puts.at (row_pair r) ∙ ap (λ (b : Bool). cond b (Some i) (get same_pair old (row_pair r))) e ∙ before.is }

  own : (p : Pair) (n : ℕ) (b : Bool) → same_pair (row_pair row) p ≡ b
      → cond (same_pair (row_pair row) p) (Some i) (get same_pair old p) ≡ Some n → IsRowOf rows (i + 1) n p
  own p n true e found =
      let same : i ≡ n = same_Some i n (ap (λ (b : Bool). cond b (Some i) (get same_pair old p)) (sym e) ∙ found) in
      record { row = row; within = omega (arith, same); at = ap (slice_get rows) (sym same) ∙ here; of_pair = e }
  own p n false e found =
      let before = h.own p n (ap (λ (b : Bool). cond b (Some i) (get same_pair old p)) (sym e) ∙ found) in
      record { row = before.row; within = omega (arith, before.within); at = before.at; of_pair = before.of_pair }

-- ---- rows and other pairs

-- a pair with the number of a row is that of the row
pub pair_of_number : (last : Numbers) (rows : List LimitRow) (k : ℕ) (row : LimitRow) (p : Pair)
    → AreNumbered last rows (length rows) → slice_get rows k ≡ Some row
    → number_of last (length rows) (row_pair row) ≡ number_of last (length rows) p → same_pair (row_pair row) p ≡ true
pair_of_number last rows k row p h at e = of (get same_pair last p) refl
  where
    mine : HasNumber last (row_pair row)
    mine = h.each k row (slice_get_within rows k row at) at

    its : IsRowOf rows (length rows) mine.number (row_pair row)
    its = h.own (row_pair row) mine.number mine.is

    number_is : mine.number ≡ number_of last (length rows) p
    number_is = sym (ap (λ (o : Option ℕ). unwrap_or o (length rows)) mine.is) ∙ e

    of : (o : Option ℕ) → get same_pair last p ≡ o → same_pair (row_pair row) p ≡ true
    of None is =
        let none : mine.number ≡ length rows = number_is ∙ ap (λ (o : Option ℕ). unwrap_or o (length rows)) is in
        absurd (omega (arith, none, its.within))
    of (Some n) is =
        let same : mine.number ≡ n = number_is ∙ ap (λ (o : Option ℕ). unwrap_or o (length rows)) is in
        let other : IsRowOf rows (length rows) n p = h.own p n is in
        let same_row : other.row ≡ its.row = same_Some other.row its.row (sym other.at ∙ ap (slice_get rows) (sym same) ∙ its.at) in
        let same_pairs : row_pair its.row ≡ row_pair row = pair_is (row_pair its.row) (row_pair row) its.of_pair in
        subst (λ (q : Pair). same_pair q p ≡ true) (ap row_pair same_row ∙ same_pairs) other.of_pair
