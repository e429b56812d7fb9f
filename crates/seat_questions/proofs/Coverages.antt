-- Rows and legs find each other by counts.
use Rattle.std.proofs.Common.{◌≡◌, ◌==◌, ℕ, zero, suc, ◌+◌, ◌-◌, ◌<◌, ◌≤◌, Bool, true, false, ◌&&◌, ◌||◌, cond, nat_lt, nat_le, max, List, [], ◌∷◌, ◌++◌, length, map, take, get_or, Some, refl, sym, ap, subst, ◌∙◌, append_assoc, arith, zero-add}
use Rattle.seat_questions.proofs.Common.{DatedLeg, Flight, LimitRow, IsPut}
use Rattle.std.specs.Prelude.{count_by, slice_get}
use Rattle.std.specs.List.{All, AllWithin, flat_map, list_any, sum_by}
use Rattle.std.specs.List.Sorted.{IsPartitionPoint, IsPermutation, IsSorted}
use Rattle.std.specs.Ordering.{nat_cmp}
use Rattle.std.proofs.Math.Nat.{le-max_right}
use Rattle.std.proofs.lemmas.Bool.{eqb-true}
use Rattle.std.proofs.lemmas.Bool.Decides.{nat_tests}
use Rattle.std.proofs.lemmas.List.{map_more, take_all}
use Rattle.std.proofs.lemmas.List.Elements.{All-more}
use Rattle.std.proofs.lemmas.List.Sums.{sum_by-append, sum_by-cons}
use Rattle.std.proofs.lemmas.List.Sorted.{IsNonDecreasingBy-from_sort, list_any-IsPermutation, sum_by-IsPermutation}
use Rattle.std.proofs.lemmas.List.Folds.{list_any-append}
use Rattle.std.proofs.lemmas.Option.{get_or_from_slice_get, slice_get_within}
use Rattle.airline_base.specs.Days.{IsDay}
use Rattle.seat_limits.specs.Authorised.{holds_day, leg_pair, row_pair, same_pair}
use Rattle.seat_limits.proofs.RowIndexing.{pair_is}
use Rattle.seat_questions.specs.Cover.{IsCoverText, IsFlightPartBy, IsRowPartBy, covered_by, effect_among, has_leg, has_row, is_on, is_row_of, leg_count, legs_for, row_text, sums_text}
use Rattle.seat_desk.specs.FlightsDesk.{IsText}
use Rattle.seat_desk.proofs.Texts.{each_more}
use Rattle.seat_questions.specs.Coverage.{IsCoverage, IsDatedRow, IsRanking, begin_of, below, day_of, days_of, end_of, finds_leg, finds_row, found_legs, point, row_number}
use Rattle.seat_questions.specs.PairNumbers.{number_of}
use Rattle.seat_questions.specs.declared.coverage.Coverage.{Coverage}
use Rattle.seat_questions.specs.declared.pair_numbers.PairNumbers.{PairNumbers}
use Rattle.seat_questions.proofs.Covers.{cover_text, here, there}
use Rattle.seat_questions.proofs.Numbering.{pair_of_number}

-- ---- counts

-- the point is between the two, and not the second
abbrev pub within : ℕ → ℕ → ℕ → Bool
within b e k = nat_le b k && nat_lt k e

abbrev one : Bool → ℕ
one t = cond t 1 0

-- what begins up to a point has ended or holds it
spans_one : (b e k : ℕ) → b ≤ e → one (nat_lt b (k + 1)) ≡ one (nat_lt e (k + 1)) + one (within b e k)
spans_one b e k le = cases (nat_le b k) (nat_lt k e) refl refl where
  cases : (t u : Bool) → nat_le b k ≡ t → nat_lt k e ≡ u
      → one (nat_lt b (k + 1)) ≡ one (nat_lt e (k + 1)) + one (t && u)
  cases true true f g =
      let x : nat_lt b (k + 1) ≡ true = grind (arith, nat_tests) in
      let y : nat_lt e (k + 1) ≡ false = grind (arith, nat_tests) in rw (x, y) refl
  cases true false f g =
      let x : nat_lt b (k + 1) ≡ true = grind (arith, nat_tests) in
      let y : nat_lt e (k + 1) ≡ true = grind (arith, nat_tests) in rw (x, y) refl
  cases false true f g =
      let x : nat_lt b (k + 1) ≡ false = grind (arith, nat_tests) in
      let y : nat_lt e (k + 1) ≡ false = grind (arith, nat_tests) in rw (x, y) refl
  cases false false f g =
      let x : nat_lt b (k + 1) ≡ false = grind (arith, nat_tests) in
      let y : nat_lt e (k + 1) ≡ false = grind (arith, nat_tests) in rw (x, y) refl

-- what is below the end is below the beginning or between them
within_one : (b e k : ℕ) → b ≤ e → one (nat_lt k e) ≡ one (nat_lt k b) + one (within b e k)
within_one b e k le = cases (nat_le b k) (nat_lt k e) refl refl where
  cases : (t u : Bool) → nat_le b k ≡ t → nat_lt k e ≡ u → one u ≡ one (nat_lt k b) + one (t && u)
  cases true u f g = let x : nat_lt k b ≡ false = grind (arith, nat_tests) in rw x (sym (zero-add (one u)))
  cases false true f g = let x : nat_lt k b ≡ true = grind (arith, nat_tests) in rw x refl
  cases false false f g = let no : ⊥ = grind (arith, nat_tests) in absurd no

both : (a b c l m n : ℕ) → a ≡ b + c → l ≡ m + n → a + l ≡ (b + m) + (c + n)
both a b c l m n e f = omega (arith, e, f)

-- counts add up as each of them does
counts_add : {X : Type 0} (p q r : X → Bool) → ((x : X) → one (p x) ≡ one (q x) + one (r x)) → (xs : List X)
    → count_by p xs ≡ count_by q xs + count_by r xs
counts_add p q r add [] = refl
counts_add p q r add (x ∷ xs) =
    sum_by-cons (λ y. one (p y)) x xs
    ∙ both (one (p x)) (one (q x)) (one (r x)) (count_by p xs) (count_by q xs) (count_by r xs) (add x) (counts_add p q r add xs)
    ∙ ap (λ (n : ℕ). n + (one (r x) + count_by r xs)) (sym (sum_by-cons (λ y. one (q y)) x xs))
    ∙ ap (λ (n : ℕ). count_by q (x ∷ xs) + n) (sym (sum_by-cons (λ y. one (r y)) x xs))

count_map : {X : Type 0} (p : ℕ → Bool) (f : X → ℕ) (xs : List X) → count_by p (map f xs) ≡ count_by (λ x. p (f x)) xs
count_map p f [] = refl
count_map p f (x ∷ xs) =
    sum_by-cons (λ y. one (p y)) (f x) (map f xs) ∙ ap (λ (n : ℕ). one (p (f x)) + n) (count_map p f xs) ∙ sym (sum_by-cons (λ y. one (p (f y))) x xs)

any_or : (b : Bool) (n : ℕ) (rest : Bool) → nat_lt 0 n ≡ rest → nat_lt 0 (one b + n) ≡ (b || rest)
any_or true n rest e = grind (arith, nat_tests)
any_or false n rest e = ap (nat_lt 0) (zero-add n) ∙ e

-- some element passes where the count is not 0
any_counted : {X : Type 0} (p : X → Bool) (xs : List X) → nat_lt 0 (count_by p xs) ≡ list_any p xs
any_counted p [] = refl
any_counted p (x ∷ xs) = ap (nat_lt 0) (sum_by-cons (λ y. one (p y)) x xs) ∙ any_or (p x) (count_by p xs) (list_any p xs) (any_counted p xs)

more_than : (a b c : ℕ) → b ≡ a + c → nat_lt a b ≡ nat_lt 0 c
more_than a b zero e = grind (arith, nat_tests)
more_than a b (suc c) e = grind (arith, nat_tests)

any_spans : {X : Type 0} (b e : X → ℕ) (k : ℕ) → ((x : X) → b x ≤ e x) → (xs : List X)
    → nat_lt (below (k + 1) (map e xs)) (below (k + 1) (map b xs)) ≡ list_any (λ x. within (b x) (e x) k) xs
any_spans {X} b e k le xs =
    let sum : below (k + 1) (map b xs) ≡ below (k + 1) (map e xs) + count_by (λ x. within (b x) (e x) k) xs =
    count_map (λ n. nat_lt n (k + 1)) b xs
    ∙ counts_add (λ (x : X). nat_lt (b x) (k + 1)) (λ (x : X). nat_lt (e x) (k + 1)) (λ (x : X). within (b x) (e x) k) (λ x. spans_one (b x) (e x) k (le x)) xs
    ∙ ap (λ (n : ℕ). n + count_by (λ x. within (b x) (e x) k) xs) (sym (count_map (λ n. nat_lt n (k + 1)) e xs)) in
    more_than (below (k + 1) (map e xs)) (below (k + 1) (map b xs)) (count_by (λ x. within (b x) (e x) k) xs) sum
    ∙ any_counted (λ (x : X). within (b x) (e x) k) xs

any_within : (b e : ℕ) → b ≤ e → (ns : List ℕ) → nat_lt (below b ns) (below e ns) ≡ list_any (within b e) ns
any_within b e le ns =
    more_than (below b ns) (below e ns) (count_by (within b e) ns) (counts_add (λ n. nat_lt n e) (λ n. nat_lt n b) (within b e) (λ n. within_one b e n le) ns)
    ∙ any_counted (within b e) ns

-- ---- rows and legs

pub any_same : {X : Type 0} (p q : X → Bool) (xs : List X) → ((k : ℕ) (x : X) → slice_get xs k ≡ Some x → p x ≡ q x)
    → list_any p xs ≡ list_any q xs
any_same p q [] same = refl
any_same p q (x ∷ xs) same = let here : p x ≡ q x = same 0 x refl in let rest = any_same p q xs (λ k y at. same (suc k) y at) in rw (here, rest) refl

any_map : {X : Type 0} (p : ℕ → Bool) (f : X → ℕ) (xs : List X) → list_any p (map f xs) ≡ list_any (λ x. p (f x)) xs
any_map p f [] = refl
any_map p f (x ∷ xs) = ap (λ (b : Bool). p (f x) || b) (any_map p f xs)

any_flat : {X : Type 0} (p : ℕ → Bool) (f : X → List ℕ) (xs : List X)
    → list_any p (flat_map f xs) ≡ list_any (λ x. list_any p (f x)) xs
any_flat p f [] = refl
any_flat p f (x ∷ xs) = list_any-append p (f x) (flat_map f xs) ∙ ap (λ (b : Bool). list_any p (f x) || b) (any_flat p f xs)

is_within : (b e k : ℕ) → b ≤ k → k < e → within b e k ≡ true
is_within b e k x y = let s : nat_le b k ≡ true = grind (arith, nat_tests) in let t : nat_lt k e ≡ true = grind (arith, nat_tests) in rw (s, t) refl

is_before : (b e k : ℕ) → k < b → within b e k ≡ false
is_before b e k x = let s : nat_le b k ≡ false = grind (arith, nat_tests) in rw s refl

and_false : (t u : Bool) → u ≡ false → (t && u) ≡ false
and_false true u e = e
and_false false u e = refl

is_behind : (b e k : ℕ) → e ≤ k → within b e k ≡ false
is_behind b e k x = let s : nat_lt k e ≡ false = grind (arith, nat_tests) in and_false (nat_le b k) (nat_lt k e) s

-- the point of a day is within a row of the same number where the row's period holds the day
on_line : (n m from to day : ℕ) → n ≡ m → IsDay from → IsDay to
    → within (point n from) (max (point n to + 1) (point n from)) (point m day) ≡ (nat_le from day && nat_le day to)
on_line n m from to day e f g = cases (nat_le from day) (nat_le day to) refl refl where
  cases : (t u : Bool) → nat_le from day ≡ t → nat_le day to ≡ u
      → within (point n from) (max (point n to + 1) (point n from)) (point m day) ≡ (t && u)
  cases true true x y =
      let a : from ≤ day = grind (arith, nat_tests) in
      let b : day ≤ to = grind (arith, nat_tests) in
      let k : point n from ≤ point m day = omega (arith, e, f.0, f.1, g.0, g.1, a, b) in
      let l : point m day < max (point n to + 1) (point n from) = omega (arith, e, f.0, f.1, g.0, g.1, a, b) in
      is_within (point n from) (max (point n to + 1) (point n from)) (point m day) k l
  cases false u x y =
      let a : day < from = grind (arith, nat_tests) in
      let k : point m day < point n from = omega (arith, e, f.0, f.1, g.0, g.1, a) in
      is_before (point n from) (max (point n to + 1) (point n from)) (point m day) k
  cases true false x y =
      let a : from ≤ day = grind (arith, nat_tests) in
      let b : to < day = grind (arith, nat_tests) in
      let l : max (point n to + 1) (point n from) ≤ point m day = omega (arith, e, f.0, f.1, g.0, g.1, a, b) in
      is_behind (point n from) (max (point n to + 1) (point n from)) (point m day) l

-- nor of another one
off_line : (n m from to day : ℕ) → (n ≡ m → ⊥) → IsDay from → IsDay to
    → within (point n from) (max (point n to + 1) (point n from)) (point m day) ≡ false
off_line n m from to day e f g = cases (nat_lt n m) (n == m) refl refl where
  cases : (t u : Bool) → nat_lt n m ≡ t → (n == m) ≡ u
      → within (point n from) (max (point n to + 1) (point n from)) (point m day) ≡ false
  cases true u x y =
      let a : n < m = grind (arith, nat_tests) in
      let l : max (point n to + 1) (point n from) ≤ point m day = omega (arith, f.0, f.1, g.0, g.1, a) in
      is_behind (point n from) (max (point n to + 1) (point n from)) (point m day) l
  cases false true x y = absurd (e (eqb-true n m y))
  cases false false x y =
      let a : m < n = grind (arith, nat_tests) in
      let k : point m day < point n from = omega (arith, f.0, f.1, g.0, g.1, a) in
      is_before (point n from) (max (point n to + 1) (point n from)) (point m day) k

true_is_no_false : true ≡ false → ⊥
true_is_no_false e = cc

-- the same, of a row of the rows and a leg
found : (c : Coverage) (flights : List Flight) (rows : List LimitRow) → IsCoverage c flights rows
    → (k : ℕ) (row : LimitRow) → slice_get rows k ≡ Some row
    → (flight : Flight) (leg : DatedLeg)
    → within (begin_of c.numbers row) (end_of c.numbers row) (day_of c.numbers flight leg) ≡ is_row_of row flight leg
found c flights rows h k row at flight leg = cases (same_pair (row_pair row) (leg_pair flight leg)) refl where
  dated : IsDatedRow row
  dated = subst IsDatedRow (get_or_from_slice_get rows k row row at) (h.spans.dated k row (slice_get_within rows k row at))

  n : ℕ
  n = row_number c.numbers row

  m : ℕ
  m = number_of c.numbers.last c.numbers.count (leg_pair flight leg)

  alike : n ≡ m → same_pair (row_pair row) (leg_pair flight leg) ≡ true
  alike e = pair_of_number c.numbers.last rows k row (leg_pair flight leg) h.numbered at
      (subst (λ (l : ℕ). number_of c.numbers.last l (row_pair row) ≡ number_of c.numbers.last l (leg_pair flight leg)) h.counted e)

  cases : (b : Bool) → same_pair (row_pair row) (leg_pair flight leg) ≡ b
      → within (begin_of c.numbers row) (end_of c.numbers row) (day_of c.numbers flight leg)
      ≡ (same_pair (row_pair row) (leg_pair flight leg) && holds_day row leg.day)
  cases true e =
      let same : n ≡ m = ap (number_of c.numbers.last c.numbers.count) (pair_is (row_pair row) (leg_pair flight leg) e) in
      on_line n m row.from row.to leg.day same dated.from dated.to ∙ ap (λ (b : Bool). b && holds_day row leg.day) (sym e)
  cases false e =
      off_line n m row.from row.to leg.day (λ same. true_is_no_false (sym (alike same) ∙ e)) dated.from dated.to
      ∙ ap (λ (b : Bool). b && holds_day row leg.day) (sym e)

begin_before : (numbers : PairNumbers) (row : LimitRow) → begin_of numbers row ≤ end_of numbers row
begin_before numbers row = le-max_right (point (row_number numbers row) row.to + 1) (begin_of numbers row)

ranked : (t : ℕ) (numbers ascending : List ℕ) → IsRanking numbers ascending → below t ascending ≡ below t numbers
ranked t numbers ascending r = sum_by-IsPermutation (λ n. one (nat_lt n t)) numbers ascending r.same

-- the search finds what the definition does

pub row_found : (c : Coverage) (flights : List Flight) (rows : List LimitRow) → IsCoverage c flights rows
    → (flight : Flight) (leg : DatedLeg)
    → finds_row c flight leg ≡ has_row rows flight leg
row_found c flights rows h flight leg =
    let k : ℕ = day_of c.numbers flight leg in
    ap (λ (n : ℕ). nat_lt n (below (k + 1) c.spans.begins.items)) (ranked (k + 1) (map (end_of c.numbers) rows) c.spans.ends.items h.spans.are_ends)
    ∙ ap (λ (n : ℕ). nat_lt (below (k + 1) (map (end_of c.numbers) rows)) n) (ranked (k + 1) (map (begin_of c.numbers) rows) c.spans.begins.items h.spans.are_begins)
    ∙ any_spans (begin_of c.numbers) (end_of c.numbers) k (begin_before c.numbers) rows
    ∙ any_same (λ (row : LimitRow). within (begin_of c.numbers row) (end_of c.numbers row) k) (λ (row : LimitRow). is_row_of row flight leg) rows (λ i row at. found c flights rows h i row at flight leg)

pub leg_found : (c : Coverage) (flights : List Flight) (rows : List LimitRow) → IsCoverage c flights rows
    → (k : ℕ) (row : LimitRow) → slice_get rows k ≡ Some row
    → finds_leg c row ≡ has_leg flights row
leg_found c flights rows h k row at =
    any_within (begin_of c.numbers row) (end_of c.numbers row) (begin_before c.numbers row) c.days.items
    ∙ sym (list_any-IsPermutation test (flat_map (days_of c.numbers) flights) c.days.items h.days.same)
    ∙ any_flat test (days_of c.numbers) flights
    ∙ any_same (λ (flight : Flight). list_any test (days_of c.numbers flight)) (λ (flight : Flight). is_on row flight) flights
    (λ i flight _. any_map test (day_of c.numbers flight) flight.legs
    ∙ any_same (λ (leg : DatedLeg). test (day_of c.numbers flight leg)) (λ (leg : DatedLeg). is_row_of row flight leg) flight.legs (λ j leg _. found c flights rows h k row at flight leg))
  where
    test : ℕ → Bool
    test = within (begin_of c.numbers row) (end_of c.numbers row)

count_flat : {X : Type 0} (p : ℕ → Bool) (f : X → List ℕ) (xs : List X)
    → count_by p (flat_map f xs) ≡ sum_by (λ x. count_by p (f x)) xs
count_flat p f [] = refl
count_flat p f (x ∷ xs) =
    sum_by-append (λ n. one (p n)) (f x) (flat_map f xs)
    ∙ ap (λ (n : ℕ). count_by p (f x) + n) (count_flat p f xs) ∙ sym (sum_by-cons (λ y. count_by p (f y)) x xs)

left_over : (a b c : ℕ) → b ≡ a + c → b - a ≡ c
left_over a b c e = omega (arith, e)

-- the difference is how many legs the row is for
pub legs_counted : (c : Coverage) (flights : List Flight) (rows : List LimitRow) → IsCoverage c flights rows
    → (k : ℕ) (row : LimitRow) → slice_get rows k ≡ Some row
    → found_legs c row ≡ legs_for flights row
legs_counted c flights rows h k row at =
    left_over (below (begin_of c.numbers row) c.days.items) (below (end_of c.numbers row) c.days.items) (count_by test c.days.items)
    (counts_add (λ n. nat_lt n (end_of c.numbers row)) (λ n. nat_lt n (begin_of c.numbers row)) test
    (λ n. within_one (begin_of c.numbers row) (end_of c.numbers row) n (begin_before c.numbers row)) c.days.items)
    ∙ sum_by-IsPermutation (λ n. one (test n)) (flat_map (days_of c.numbers) flights) c.days.items h.days.same
    ∙ count_flat test (days_of c.numbers) flights
    ∙ ap (λ (f : Flight → ℕ). sum_by f flights) (λ i flight. count_map test (day_of c.numbers flight) flight.legs i)
    ∙ ap (λ (p : Flight → DatedLeg → Bool). sum_by (λ flight. count_by (p flight) flight.legs) flights)
    (λ i flight leg. found c flights rows h k row at flight leg i)
  where
    test : ℕ → Bool
    test = within (begin_of c.numbers row) (end_of c.numbers row)

-- ---- the text

rows_text : (p q : LimitRow → Bool) (r s : ℕ → LimitRow → Bool) (n : ℕ) (rows : List LimitRow) (text : List ℕ)
    → ((k : ℕ) (row : LimitRow) → slice_get rows k ≡ Some row → p row ≡ q row)
    → ((k : ℕ) (row : LimitRow) → slice_get rows k ≡ Some row → r (n + k) row ≡ s (n + k) row)
    → IsText (IsRowPartBy p r) n rows text → IsText (IsRowPartBy q s) n rows text
rows_text p q r s n [] text same alike is = is
rows_text p q r s n (row ∷ rows) text same alike is =
    let first : n + 0 ≡ n = omega arith in
    let here : r n row ≡ s n row = subst (λ (m : ℕ). r m row ≡ s m row) first (alike 0 row refl) in (
      is.0,
      is.1,
      is.2 ∙ ap (λ (b : Bool). row_text n b (r n row)) (same 0 row refl) ∙ ap (row_text n (q row)) here,
      is.3,
      rows_text p q r s (n + 1) rows is.1 (λ k x at. same (suc k) x at) (λ k x at. later k x (alike (suc k) x at)) is.4,
    )
  where
    later : (k : ℕ) (x : LimitRow) → r (n + suc k) x ≡ s (n + suc k) x → r ((n + 1) + k) x ≡ s ((n + 1) + k) x
    later k x e = let next : n + suc k ≡ (n + 1) + k = omega arith in subst (λ (m : ℕ). r m x ≡ s m x) next e

rows_counted : (p q : LimitRow → Bool) (rows : List LimitRow)
    → ((k : ℕ) (row : LimitRow) → slice_get rows k ≡ Some row → p row ≡ q row) → count_by p rows ≡ count_by q rows
rows_counted p q [] same = refl
rows_counted p q (row ∷ rows) same =
    sum_by-cons (λ r. one (p r)) row rows
    ∙ ap (λ (b : Bool). one b + count_by p rows) (same 0 row refl)
    ∙ ap (λ (n : ℕ). one (q row) + n) (rows_counted p q rows (λ k r at. same (suc k) r at))
    ∙ sym (sum_by-cons (λ r. one (q r)) row rows)

pub found_text : (c : Coverage) (rows : List LimitRow) (flights : List Flight) (effect : ℕ → LimitRow → Bool)
    (start mid legs new : List ℕ) (covered count found : ℕ) → IsCoverage c flights rows
    → ((k : ℕ) (row : LimitRow) → slice_get rows k ≡ Some row
    → effect (1 + k) row ≡ effect_among rows flights (1 + k) row) → start ≡ []
    → IsPut (IsRowPartBy (finds_leg c) effect) 1 rows start mid → IsPut (IsFlightPartBy (finds_row c)) 0 flights mid legs
    → new ≡ legs ++ sums_text covered count found (length rows)
    → covered ≡ sum_by (covered_by (finds_row c)) flights → count ≡ sum_by leg_count flights
    → found ≡ count_by (finds_leg c) rows
    → IsCoverText rows flights new
found_text c rows flights effect start mid legs new covered count found h alike empty of_rows of_legs written is_covered is_count is_found =
    cover_text rows flights start mid legs new covered count found empty
    (record { part = of_rows.part; is_text = rows_text (finds_leg c) (has_leg flights) effect (effect_among rows flights) 1 rows of_rows.part (leg_found c flights rows h) alike of_rows.is_text; written = of_rows.written })
    (subst (λ (test : Flight → DatedLeg → Bool). IsPut (IsFlightPartBy test) 0 flights mid legs) same of_legs)
    written
    (is_covered ∙ ap (λ (test : Flight → DatedLeg → Bool). sum_by (covered_by test) flights) same)
    is_count
    (is_found ∙ rows_counted (finds_leg c) (has_leg flights) rows (leg_found c flights rows h))
  where
    same : finds_row c ≡ has_row rows
    same = λ i flight leg. row_found c flights rows h flight leg i

-- ---- the index as it is made

none_counted : {X : Type 0} (p : X → Bool) (xs : List X) → AllWithin (λ y. p y ≡ false) xs 0 (length xs)
    → count_by p xs ≡ 0
none_counted p [] none = refl
none_counted p (x ∷ xs) none =
    let here : p x ≡ false = none 0 x (omega arith) (omega arith) in
    sum_by-cons (λ y. one (p y)) x xs ∙ ap (λ (b : Bool). one b + count_by p xs) here ∙ zero-add (count_by p xs) ∙ none_counted p xs (λ k d low high. none (suc k) d (omega arith) (omega (arith, high)))

-- as many pass as stand before the point up to which they do
pub parted : {X : Type 0} (p : X → Bool) (xs : List X) (i : ℕ)
    → IsPartitionPoint (λ y. p y ≡ true) (λ y. p y ≡ false) xs i → i ≤ length xs → i ≡ count_by p xs
parted p [] i h le = let e : i ≡ 0 = omega (arith, le) in e
parted p (x ∷ xs) zero h le = sym (none_counted p (x ∷ xs) h.1)
parted p (x ∷ xs) (suc i) h le =
    let here : p x ≡ true = h.0 0 x (omega arith) (omega arith) in
    let rest : i ≡ count_by p xs = parted p xs i (λ k d low high. h.0 (suc k) d (omega arith) (omega (arith, high)), λ k d low high. h.1 (suc k) d (omega (arith, low)) (omega (arith, high))) (omega (arith, le)) in
    let more : suc i ≡ 1 + count_by p xs = omega (arith, rest) in
    more ∙ ap (λ (b : Bool). one b + count_by p xs) (sym here) ∙ sym (sum_by-cons (λ y. one (p y)) x xs)

row_added : {X : Type 0} (f : X → ℕ) (xs : List X) (i : ℕ) (x : X) (n : ℕ) → i < length xs → x ≡ get_or xs i x → n ≡ f x
    → map f (take i xs) ++ n ∷ [] ≡ map f (take (i + 1) xs)
row_added f xs i x n lt is value = ap (λ (k : ℕ). map f (take i xs) ++ k ∷ []) (value ∙ ap f is) ∙ sym (map_more f xs i x lt)

pub row_more : {X : Type 0} (f : X → ℕ) (xs : List X) (i : ℕ) (x : X) (now : List ℕ) (n : ℕ) → now ≡ map f (take i xs)
    → i < length xs → x ≡ get_or xs i x → n ≡ f x
    → now ++ n ∷ [] ≡ map f (take (i + 1) xs)
row_more f xs i x now n so_far lt is value = ap (λ (l : List ℕ). l ++ n ∷ []) so_far ∙ row_added f xs i x n lt is value

pub leg_more : {X : Type 0} (f : X → ℕ) (xs : List X) (i : ℕ) (x : X) (old now : List ℕ) (n : ℕ)
    → now ≡ old ++ map f (take i xs) → i < length xs → x ≡ get_or xs i x → n ≡ f x
    → now ++ n ∷ [] ≡ old ++ map f (take (i + 1) xs)
leg_more f xs i x old now n so_far lt is value =
    ap (λ (l : List ℕ). l ++ n ∷ []) so_far ∙ append_assoc old (map f (take i xs)) (n ∷ []) ∙ ap (λ (l : List ℕ). old ++ l) (row_added f xs i x n lt is value)

pub flight_more : (f : Flight → List ℕ) (flights : List Flight) (i : ℕ) (flight : Flight) (now new : List ℕ)
    → now ≡ flat_map f (take i flights)
    → slice_get flights i ≡ Some flight → new ≡ now ++ f flight → new ≡ flat_map f (take (i + 1) flights)
flight_more f flights i flight now new so_far found put =
    each_more f i flights flight [] now new so_far (there flights i flight found) (here flights i flight found) put

ranking : (numbers now new : List ℕ) → now ≡ numbers → IsPermutation now new → IsSorted nat_cmp new
    → IsRanking numbers new
ranking numbers now new is moved sorted = record {
  up = IsNonDecreasingBy-from_sort (λ n. n) new sorted;
  same = subst (λ (l : List ℕ). IsPermutation l new) is moved;
}

pub rows_ranked : {X : Type 0} (f : X → ℕ) (xs : List X) (i : ℕ) (now new : List ℕ) → now ≡ map f (take i xs)
    → length xs ≤ i → IsPermutation now new → IsSorted nat_cmp new
    → IsRanking (map f xs) new
rows_ranked {X} f xs i now new so_far over = ranking (map f xs) now new (so_far ∙ ap (λ (l : List X). map f l) (take_all i xs over))

pub days_ranked : (f : Flight → List ℕ) (flights : List Flight) (i : ℕ) (now new : List ℕ)
    → now ≡ flat_map f (take i flights) → length flights ≤ i → IsPermutation now new → IsSorted nat_cmp new
    → IsRanking (flat_map f flights) new
days_ranked f flights i now new so_far over = ranking (flat_map f flights) now new (so_far ∙ ap (λ (l : List Flight). flat_map f l) (take_all i flights over))

pub rows_dated : (rows : List LimitRow) (i : ℕ) (row : LimitRow) → All IsDatedRow (take i rows) → i < length rows
    → row ≡ get_or rows i row → IsDay row.from → IsDay row.to
    → All IsDatedRow (take (i + 1) rows)
rows_dated rows i row so_far lt is from to = All-more IsDatedRow rows i row lt so_far (subst IsDatedRow is (record { from = from; to = to }))

pub all_dated : (rows : List LimitRow) (i : ℕ) → All IsDatedRow (take i rows) → length rows ≤ i → All IsDatedRow rows
all_dated rows i so_far over = subst (λ (l : List LimitRow). All IsDatedRow l) (take_all i rows over) so_far
