-- Rows that give legs their ladders: as they are marked, and as the definition has them.
use Rattle.std.proofs.Common.{◌≡◌, ◌≢◌, ◌==◌, ℕ, zero, suc, ◌+◌, ◌-◌, ◌<◌, ◌≤◌, ◌⊎◌, Bool, true, false, ◌&&◌, ◌||◌, cond, List, [], ◌∷◌, length, take, drop, set, replicate, get_or, Option, Some, None, refl, sym, ap, subst, ◌∙◌, arith, inl, inr}
use Rattle.seat_questions.proofs.Common.{DatedLeg, Flight, LimitRow}
use Rattle.std.specs.Prelude.{not, slice_get}
use Rattle.std.specs.List.{list_any}
use Rattle.std.proofs.lemmas.Bool.{cases_lt, eqb-true}
use Rattle.std.proofs.lemmas.Bool.Decides.{nat_tests}
use Rattle.std.proofs.lemmas.List.{length-set, length-replicate, get_or-replicate, get_or-set_same, get_or-set_other, take_all, take_more}
use Rattle.std.proofs.lemmas.List.Folds.{list_any-append}
use Rattle.std.proofs.lemmas.Option.{same_Some, slice_get_within}
use Rattle.seat_limits.specs.Authorised.{is_for, is_of, last_below, leg_pair, row_pair, same_pair, holds_day}
use Rattle.seat_limits.specs.RowStretches.{last_where, passes}
use Rattle.seat_limits.specs.declared.row_index.Pair.{Pair}
use Rattle.seat_questions.specs.Cover.{effect_among, gives, gives_on, has_effect}
use Rattle.seat_questions.specs.Winning.{AreWinners, Marks, is_marked, is_that, last_row, wins, wins_on}
use Rattle.seat_questions.proofs.Coverages.{any_same}
use Rattle.seat_questions.proofs.Covers.{there, here}

-- ---- the last row, with one more in front

abbrev shifted : Bool → Option ℕ → Option ℕ
shifted b None = cond b (Some 0) None
shifted b (Some k) = Some (suc k)

front : (f : LimitRow → Bool) (x : LimitRow) (xs : List LimitRow) (n : ℕ)
    → last_where f (x ∷ xs) (suc n) ≡ shifted (f x) (last_where f xs n)
front f x xs zero = refl
front f x xs (suc n) = cases (passes f (slice_get xs n)) (front f x xs n)
  where
    cases : (b : Bool) → last_where f (x ∷ xs) (suc n) ≡ shifted (f x) (last_where f xs n)
        → cond b (Some (suc n)) (last_where f (x ∷ xs) (suc n)) ≡ shifted (f x) (cond b (Some n) (last_where f xs n))
    cases true e = refl
    cases false e = e

abbrev has : Option ℕ → Bool
has None = false
has (Some k) = true

has_shifted : (b : Bool) (o : Option ℕ) → has (shifted b o) ≡ (b || has o)
has_shifted true None = refl
has_shifted false None = refl
has_shifted true (Some k) = refl
has_shifted false (Some k) = refl

any_last : (f : LimitRow → Bool) (xs : List LimitRow) → has (last_where f xs (length xs)) ≡ list_any f xs
any_last f [] = refl
any_last f (x ∷ xs) =
    ap has (front f x xs (length xs)) ∙ has_shifted (f x) (last_where f xs (length xs)) ∙ ap (λ (b : Bool). f x || b) (any_last f xs)

not_zero : (k : ℕ) → (suc k == 0) ≡ false
not_zero k = grind (arith, nat_tests)

not_suc : (k : ℕ) → (0 == suc k) ≡ false
not_suc k = grind (arith, nat_tests)

both_suc : (k i : ℕ) → (suc k == suc i) ≡ (k == i)
both_suc k i = cases (k == i) refl
  where
    cases : (t : Bool) → (k == i) ≡ t → (suc k == suc i) ≡ t
    cases true e = let same : k ≡ i = eqb-true k i e in grind (arith, nat_tests)
    cases false e = grind (arith, nat_tests)

first_that : (b : Bool) (o : Option ℕ) → is_that 0 (shifted b o) ≡ (b && not (has o))
first_that true None = refl
first_that false None = refl
first_that true (Some k) = not_zero k
first_that false (Some k) = not_zero k

later_that : (i : ℕ) (b : Bool) (o : Option ℕ) → is_that (suc i) (shifted b o) ≡ is_that i o
later_that i true None = not_suc i
later_that i false None = refl
later_that i true (Some k) = both_suc k i
later_that i false (Some k) = both_suc k i

-- a row is the last that passes where it does and none behind it
that_is : (f : LimitRow → Bool) (rows : List LimitRow) (i : ℕ) (row : LimitRow) → slice_get rows i ≡ Some row
    → is_that i (last_where f rows (length rows)) ≡ (f row && not (list_any f (drop (suc i) rows)))
that_is f [] i row at = absurd cc
that_is f (x ∷ xs) zero row at =
    let same : x ≡ row = same_Some x row at in
    ap (is_that 0) (front f x xs (length xs)) ∙ first_that (f x) (last_where f xs (length xs))
    ∙ ap (λ (b : Bool). f x && not b) (any_last f xs) ∙ ap (λ (r : LimitRow). f r && not (list_any f xs)) same
that_is f (x ∷ xs) (suc i) row at =
    ap (is_that (suc i)) (front f x xs (length xs)) ∙ later_that i (f x) (last_where f xs (length xs)) ∙ that_is f xs i row at

wins_is : (rows : List LimitRow) (flights : List Flight) (i : ℕ) (row : LimitRow) → slice_get rows i ≡ Some row
    → wins rows flights i ≡ has_effect flights (drop (suc i) rows) row
wins_is rows flights i row at =
    any_same (λ (flight : Flight). wins_on rows i flight) (λ (flight : Flight). gives_on (drop (suc i) rows) row flight) flights
    (λ k flight _.
    any_same (λ (leg : DatedLeg). is_that i (last_row rows flight leg)) (λ (leg : DatedLeg). gives (drop (suc i) rows) row flight leg) flight.legs
    (λ j leg _. that_is (is_for (leg_pair flight leg) leg.day) rows i row at))

-- the marks say what the definition does
pub marked_right : (rows : List LimitRow) (flights : List Flight) (marks : List Bool) → AreWinners rows flights marks
    → (k : ℕ) (row : LimitRow) → slice_get rows k ≡ Some row
    → is_marked marks (1 + k) row ≡ effect_among rows flights (1 + k) row
marked_right rows flights marks are k row at =
    let less : (1 + k) - 1 ≡ k = omega arith in
    let more : suc k ≡ 1 + k = omega arith in
    ap (λ (n : ℕ). get_or marks n false) less
    ∙ are.each k (slice_get_within rows k row at)
    ∙ wins_is rows flights k row at
    ∙ ap (λ (n : ℕ). has_effect flights (drop n rows) row) more

-- ---- the last row by the index

-- a pair without rows has none on any day
pub no_where : (p : Pair) (day : ℕ) (rows : List LimitRow) (n : ℕ) → last_below p rows n ≡ None
    → last_where (is_for p day) rows n ≡ None
no_where p day rows zero e = refl
no_where p day rows (suc n) e = of (slice_get rows n) (is_of p (slice_get rows n)) refl refl e (λ (h : last_below p rows n ≡ None). no_where p day rows n h)
  where
    of : (o : Option LimitRow) (b : Bool) → slice_get rows n ≡ o → is_of p (slice_get rows n) ≡ b
        → cond b (Some n) (last_below p rows n) ≡ None
        → (last_below p rows n ≡ None → last_where (is_for p day) rows n ≡ None)
        → cond (passes (is_for p day) (slice_get rows n)) (Some n) (last_where (is_for p day) rows n) ≡ None
    of o true at is h below = absurd cc
    of None false at is h below =
        ap (λ (x : Option LimitRow). cond (passes (is_for p day) x) (Some n) (last_where (is_for p day) rows n)) at ∙ below h
    of (Some row) false at is h below =
        let apart : same_pair (row_pair row) p ≡ false = sym (ap (is_of p) at) ∙ is in
        ap (λ (x : Option LimitRow). cond (passes (is_for p day) x) (Some n) (last_where (is_for p day) rows n)) at
        ∙ ap (λ (b : Bool). cond (b && holds_day row day) (Some n) (last_where (is_for p day) rows n)) apart
        ∙ below h

-- ---- marks

or_false : (b : Bool) → b ≡ (b || false)
or_false true = refl
or_false false = refl

or_true : (b : Bool) → true ≡ (b || true)
or_true true = refl
or_true false = refl

or_assoc : (a b c : Bool) → ((a || b) || c) ≡ (a || (b || c))
or_assoc true b c = refl
or_assoc false b c = refl

same_or : (s t : ℕ) → (s ≡ t) ⊎ (s ≢ t)
same_or s t = of (cases_lt s t) (cases_lt t s)
  where
    of : (s < t) ⊎ (t ≤ s) → (t < s) ⊎ (s ≤ t) → (s ≡ t) ⊎ (s ≢ t)
    of (inl less) k = inr (λ e. omega (arith, less, e))
    of (inr more) (inl less) = inr (λ e. omega (arith, less, e))
    of (inr more) (inr most) = inl (omega (arith, more, most))

-- no row, no mark
pub none_more : (marks : List Bool) (row : Option ℕ) → row ≡ None → Marks (λ i. is_that i row) marks marks
none_more marks row e = record {
  counted = refl;
  each = λ i lt. or_false (get_or marks i false) ∙ ap (λ (o : Option ℕ). get_or marks i false || is_that i o) (sym e);
}

pub row_marked : (old new : List Bool) (row : Option ℕ) (k : ℕ) → row ≡ Some k → k < length old → new ≡ set old k true
    → Marks (λ i. is_that i row) old new
row_marked old new row k e lt put = record {
  counted = ap (λ (l : List Bool). length l) put ∙ length-set old k true;
  each = λ i inside. of i (same_or i k) ∙ ap (λ (o : Option ℕ). get_or old i false || is_that i o) (sym e);
}
  where
    of : (i : ℕ) → (i ≡ k) ⊎ (i ≢ k) → get_or new i false ≡ (get_or old i false || is_that i (Some k))
    of i (inl same) =
        let that : (k == i) ≡ true = grind (arith, nat_tests) in
        ap (λ (l : List Bool). get_or l i false) put ∙ ap (λ (n : ℕ). get_or (set old k true) n false) same
        ∙ get_or-set_same old k true false lt ∙ or_true (get_or old i false) ∙ ap (λ (b : Bool). get_or old i false || b) (sym that)
    of i (inr other) =
        let apart : (k == i) ≡ false = grind (arith, nat_tests) in
        ap (λ (l : List Bool). get_or l i false) put ∙ get_or-set_other old k i true false other
        ∙ or_false (get_or old i false) ∙ ap (λ (b : Bool). get_or old i false || b) (sym apart)

-- some element of one more
any_more : {X : Type 0} (p : X → Bool) (xs : List X) (j : ℕ) (x : X) → j < length xs → x ≡ get_or xs j x
    → list_any p (take (j + 1) xs) ≡ (list_any p (take j xs) || p x)
any_more {X} p xs j x lt is =
    ap (list_any p) (take_more xs j x lt) ∙ list_any-append p (take j xs) (get_or xs j x ∷ [])
    ∙ ap (λ (y : X). list_any p (take j xs) || (p y || false)) (sym is)
    ∙ ap (λ (b : Bool). list_any p (take j xs) || b) (sym (or_false (p x)))

-- the marks of two tests, one behind the other
marks_on : (f g h : ℕ → Bool) (old mid new : List Bool) → Marks f old mid → Marks g mid new
    → ((i : ℕ) → h i ≡ (f i || g i)) → Marks h old new
marks_on f g h old mid new a b both = record {
  counted = b.counted ∙ a.counted;
  each = λ i lt.
      b.each i (omega (arith, lt, a.counted))
      ∙ ap (λ (x : Bool). x || g i) (a.each i lt)
      ∙ or_assoc (get_or old i false) (f i) (g i)
      ∙ ap (λ (x : Bool). get_or old i false || x) (sym (both i));
}

abbrev pub leg_test : List LimitRow → Flight → List DatedLeg → ℕ → Bool
leg_test rows flight legs i = list_any (λ (leg : DatedLeg). is_that i (last_row rows flight leg)) legs

pub same_marks : (rows : List LimitRow) (flight : Flight) (legs : List DatedLeg) (marks : List Bool)
    → Marks (leg_test rows flight (take 0 legs)) marks marks
same_marks rows flight legs marks = record { counted = refl; each = λ i lt. or_false (get_or marks i false) }

pub leg_marked : (rows : List LimitRow) (flight : Flight) (legs : List DatedLeg) (j : ℕ) (leg : DatedLeg)
    (row : Option ℕ) (old mid new : List Bool) → Marks (leg_test rows flight (take j legs)) old mid
    → j < length legs → leg ≡ get_or legs j leg → row ≡ last_row rows flight leg → Marks (λ i. is_that i row) mid new
    → Marks (leg_test rows flight (take (j + 1) legs)) old new
leg_marked rows flight legs j leg row old mid new so_far lt is last more =
    marks_on (leg_test rows flight (take j legs)) (λ i. is_that i row) (leg_test rows flight (take (j + 1) legs)) old mid new so_far more
    (λ i. any_more (λ (l : DatedLeg). is_that i (last_row rows flight l)) legs j leg lt is
    ∙ ap (λ (o : Option ℕ). leg_test rows flight (take j legs) i || is_that i o) (sym last))

pub legs_marked : (rows : List LimitRow) (flight : Flight) (legs : List DatedLeg) (j : ℕ) (old new : List Bool)
    → Marks (leg_test rows flight (take j legs)) old new → length legs ≤ j → legs ≡ flight.legs
    → Marks (λ i. wins_on rows i flight) old new
legs_marked rows flight legs j old new so_far over same =
    subst (λ (l : List DatedLeg). Marks (leg_test rows flight l) old new) (take_all j legs over ∙ same) so_far

-- by the flights so far
pub record AreMarked (rows : List LimitRow) (flights : List Flight) (marks : List Bool) : Type 0 where
  pub counted : length marks ≡ length rows
  pub each : (i : ℕ) → i < length rows → get_or marks i false ≡ wins rows flights i

pub none_marked : (rows : List LimitRow) (flights : List Flight) (marks : List Bool)
    → marks ≡ replicate (length rows) false → AreMarked rows (take 0 flights) marks
none_marked rows flights marks e = record {
  counted = ap (λ (l : List Bool). length l) e ∙ length-replicate (length rows) false;
  each = λ i lt. ap (λ (l : List Bool). get_or l i false) e ∙ get_or-replicate (length rows) i false false lt;
}

pub flight_marked : (rows : List LimitRow) (flights : List Flight) (i : ℕ) (flight : Flight) (old new : List Bool)
    → AreMarked rows (take i flights) old → slice_get flights i ≡ Some flight
    → Marks (λ k. wins_on rows k flight) old new → AreMarked rows (take (i + 1) flights) new
flight_marked rows flights i flight old new so_far at more = record {
  counted = more.counted ∙ so_far.counted;
  each = λ k lt.
      more.each k (omega (arith, lt, so_far.counted))
      ∙ ap (λ (b : Bool). b || wins_on rows k flight) (so_far.each k lt)
      ∙ sym (any_more (λ (f : Flight). wins_on rows k f) flights i flight (there flights i flight at) (here flights i flight at));
}

pub all_marked : (rows : List LimitRow) (flights : List Flight) (i : ℕ) (marks : List Bool)
    → AreMarked rows (take i flights) marks → length flights ≤ i → AreWinners rows flights marks
all_marked rows flights i marks so_far over =
    subst (λ (l : List Flight). AreWinners rows l marks) (take_all i flights over) (record { counted = so_far.counted; each = so_far.each })
