-- Bookings that are passed over by their number.
use Rattle.std.proofs.Common.{◌≡◌, ℕ, zero, suc, ◌+◌, ◌-◌, ◌<◌, ◌≤◌, Bool, true, false, max, nat_le, nat_lt, List, [], ◌∷◌, length, get_or, drop, position, Option, Some, None, cond, arith, refl, ap, sym, ◌∙◌}
use Rattle.seat_bookings.proofs.Common.{AllByRecursion, Booking}
use Rattle.std.specs.List.{position_or_len, prefix_len}
use Rattle.std.specs.List.Sorted.{IsPartitionPoint}
use Rattle.std.proofs.lemmas.Bool.Decides.{nat_tests}
use Rattle.std.proofs.lemmas.List.Elements.{All-from_recursion}
use Rattle.std.proofs.lemmas.List.Sums.{prefix_len_is, prefix_len_passes, prefix_len-le-length}

-- an index that is told from further on
abbrev pub further : ℕ → Option ℕ → Option ℕ
further n None = None
further n (Some k) = Some (n + k)

further_none : (n : ℕ) (o : Option ℕ) → n ≡ 0 → further n o ≡ o
further_none n None e = refl
further_none n (Some k) e = ap Some (omega (arith, e))

further_twice : (m n p : ℕ) (o : Option ℕ) → p ≡ m + n → further m (further n o) ≡ further p o
further_twice m n p None e = refl
further_twice m n p (Some k) e = ap Some (omega (arith, e))

-- ---- the first that passes a test
one_further : (k l m : ℕ) → m ≡ 1 + l
    → cond (nat_lt (1 + k) m) (Some (1 + k)) None ≡ further 1 (cond (nat_lt k l) (Some k) None)
one_further k l m is = cases (nat_lt k l) refl where
  cases : (t : Bool) → nat_lt k l ≡ t
      → cond (nat_lt (1 + k) m) (Some (1 + k)) None ≡ further 1 (cond (nat_lt k l) (Some k) None)
  cases true e = let more : nat_lt (1 + k) m ≡ true = grind (arith, nat_tests) in rw (e, more) refl
  cases false e = let more : nat_lt (1 + k) m ≡ false = grind (arith, nat_tests) in rw (e, more) refl

passed_one : (test : Booking → Bool) (x : Booking) (xs : List Booking) → test x ≡ false
    → position test (x ∷ xs) ≡ further 1 (position test xs)
passed_one test x xs e =
    let next : position_or_len test (x ∷ xs) ≡ 1 + position_or_len test xs = rw e refl in
    ap (λ (k : ℕ). cond (nat_lt k (length (x ∷ xs))) (Some k) None) next
    ∙ one_further (position_or_len test xs) (length xs) (length (x ∷ xs)) (omega arith)

passed : (test : Booking → Bool) (xs : List Booking) (from end : ℕ) → from ≤ end → end ≤ length xs
    → ((k : ℕ) (d : Booking) → k < end → test (get_or xs k d) ≡ false)
    → position test (drop from xs) ≡ further (end - from) (position test (drop end xs))
passed test xs zero zero le within over = sym (further_none (0 - 0) (position test xs) (omega arith))
passed test xs (suc from) zero le within over = absurd (omega (arith, le))
passed test [] from (suc end) le within over = absurd (omega (arith, within))
passed test (x ∷ xs) zero (suc end) le within over =
    let next : suc end - 0 ≡ 1 + (end - 0) = omega arith in
    passed_one test x xs (over zero x (omega arith))
    ∙ (ap (further 1) (passed test xs zero end (omega arith) (omega (arith, within)) (λ k d lt. over (suc k) d (omega (arith, lt))))
    ∙ further_twice 1 (end - 0) (suc end - 0) (position test (drop end xs)) next)
passed test (x ∷ xs) (suc from) (suc end) le within over =
    let same : end - from ≡ suc end - suc from = omega arith in
    passed test xs from end (omega (arith, le)) (omega (arith, within)) (λ k d lt. over (suc k) d (omega (arith, lt)))
    ∙ ap (λ (n : ℕ). further n (position test (drop end xs))) same

-- where the numbers reach one, and nothing before it passes
pub reach_further : (low test : Booking → Bool) (xs : List Booking) (from reached start : ℕ) → from ≤ length xs
    → reached ≡ prefix_len low xs → start ≡ max from reached → AllByRecursion (λ b. low b ≡ true → test b ≡ false) xs
    → position test (drop from xs) ≡ further (start - from) (position test (drop start xs))
reach_further low test xs from reached start within is at over = cases (nat_le reached from) refl where
  cases : (t : Bool) → nat_le reached from ≡ t
      → position test (drop from xs) ≡ further (start - from) (position test (drop start xs))
  cases true e =
      let behind : reached ≤ from = grind (arith, nat_tests) in
      let same : from ≡ start = omega (arith, at, behind) in
      ap (λ (n : ℕ). position test (drop n xs)) same
      ∙ sym (further_none (start - from) (position test (drop start xs)) (omega (arith, same)))
  cases false e =
      let before : from < reached = grind (arith, nat_tests) in
      let same : start ≡ reached = omega (arith, at, before) in
      passed test xs from start (omega (arith, same, before)) (omega (arith, same, is, prefix_len-le-length low xs))
      (λ k d lt. All-from_recursion (λ (b : Booking). low b ≡ true → test b ≡ false) xs over k d (omega (arith, same, is, lt, prefix_len-le-length low xs))
      (prefix_len_passes low xs k d (omega (arith, same, is, lt))))

pub reach_inside : (low : Booking → Bool) (xs : List Booking) (reached : ℕ) → reached ≡ prefix_len low xs
    → reached ≤ length xs
reach_inside low xs reached is = omega (arith, is, prefix_len-le-length low xs)

pub reach_within : (low : Booking → Bool) (xs : List Booking) (from reached start : ℕ) → from ≤ length xs
    → reached ≡ prefix_len low xs → start ≡ max from reached → start ≤ length xs
reach_within low xs from reached start within is at = omega (arith, within, is, at, prefix_len-le-length low xs)

-- where the numbers reach n
pub reach_at : (xs : List Booking) (n i : ℕ) → i ≤ length xs
    → IsPartitionPoint (λ (y : Booking). nat_lt y.number n ≡ true) (λ (y : Booking). nat_lt y.number n ≡ false) xs i
    → i ≡ prefix_len (λ (y : Booking). nat_lt y.number n) xs
reach_at [] n i le point = omega (arith, le, prefix_len-le-length (λ (y : Booking). nat_lt y.number n) [])
reach_at (x ∷ xs) n i le point =
    sym (prefix_len_is (λ (y : Booking). nat_lt y.number n) (x ∷ xs) i x le (λ k lt. point.0 k x (omega arith) lt) (λ lt. point.1 i x (omega arith) lt))
