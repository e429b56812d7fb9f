-- Bookings in order of number, and where a number stands among them.
use Rattle.std.proofs.Common.{◌≡◌, ◌≢◌, ◌==◌, ℕ, zero, suc, ◌<◌, ◌≤◌, Bool, true, false, nat_lt, List, [], ◌∷◌, length, get_or, cond, position, Some, None, arith, refl, ap, ◌∙◌}
use Rattle.seat_bookings.proofs.Common.{AllByRecursion, Booking}
use Rattle.std.specs.List.{position_or_len}
use Rattle.std.specs.List.Sorted.{IsPartitionedBy, IsPartitionPoint}
use Rattle.std.proofs.lemmas.Bool.Decides.{nat_tests}
use Rattle.std.proofs.lemmas.List.Elements.{All-from_recursion}
use Rattle.std.proofs.lemmas.List.Sums.{position_or_len_is}
use Rattle.seat_rules.specs.Applying.{IsOrdered}

rises : (xs : List Booking) → IsOrdered xs → (i j : ℕ) (d : Booking) → i < j → j < length xs
    → (get_or xs i d).number < (get_or xs j d).number
rises [] o i j d lt le = absurd (omega arith)
rises (x ∷ xs) o i zero d lt le = absurd (omega arith)
rises (x ∷ xs) o zero (suc j) d lt le = All-from_recursion (λ (y : Booking). x.number < y.number) xs o.0 j d (omega arith)
rises (x ∷ xs) o (suc i) (suc j) d lt le = rises xs o.1 i j d (omega arith) (omega arith)

pub parted : (xs : List Booking) (n : ℕ) → IsOrdered xs → IsPartitionedBy (λ (b : Booking). nat_lt b.number n) xs
parted xs n o i j d le lt below = cases (i == j) refl where
  cases : (t : Bool) → (i == j) ≡ t → nat_lt (get_or xs i d).number n ≡ true
  cases true e = let same : i ≡ j = grind (arith, nat_tests) in rw same below
  cases false e =
      let less : i < j = grind (arith, nat_tests) in
      let up : (get_or xs i d).number < (get_or xs j d).number = rises xs o i j d less lt in
      let low : (get_or xs j d).number < n = grind (arith, nat_tests) in
      grind (arith, nat_tests)

at_first : (test : Booking → Bool) (xs : List Booking) (i : ℕ) (d : Booking) → i < length xs
    → ((k : ℕ) → k < i → test (get_or xs k d) ≡ false) → test (get_or xs i d) ≡ true → position test xs ≡ Some i
at_first test xs i d lt before here =
    let at : position_or_len test xs ≡ i = position_or_len_is test xs i d (omega arith) before (λ h. here) in
    let inside : nat_lt i (length xs) ≡ true = grind (arith, nat_tests) in
    ap (λ (k : ℕ). cond (nat_lt k (length xs)) (Some k) None) at ∙ ap (λ (t : Bool). cond t (Some i) None) inside

nowhere : (test : Booking → Bool) (xs : List Booking) (d : Booking)
    → ((k : ℕ) → k < length xs → test (get_or xs k d) ≡ false) → position test xs ≡ None
nowhere test xs d none =
    let at : position_or_len test xs ≡ length xs = position_or_len_is test xs (length xs) d (omega arith) none (λ h. absurd (omega (arith, h))) in
    let outside : nat_lt (length xs) (length xs) ≡ false = grind (arith, nat_tests) in
    ap (λ (k : ℕ). cond (nat_lt k (length xs)) (Some k) None) at ∙ ap (λ (t : Bool). cond t (Some (length xs)) None) outside

pub absent_nowhere : (test : Booking → Bool) (xs : List Booking) → AllByRecursion (λ x. test x ≡ false) xs
    → position test xs ≡ None
absent_nowhere test [] a = refl
absent_nowhere test (x ∷ xs) a = nowhere test (x ∷ xs) x (λ k lt. All-from_recursion (λ y. test y ≡ false) (x ∷ xs) a k x lt)

-- where the numbers reach n
below_other : (x n : ℕ) → nat_lt x n ≡ true → (x == n) ≡ false
below_other x n h = let lt : x < n = grind (arith, nat_tests) in grind (arith, nat_tests)

pub number_at : (xs : List Booking) (n i : ℕ) (b : Booking)
    → IsPartitionPoint (λ (y : Booking). nat_lt y.number n ≡ true) (λ (y : Booking). nat_lt y.number n ≡ false) xs i
    → i < length xs → (get_or xs i b).number ≡ n
    → position (λ (y : Booking). y.number == n) xs ≡ Some i
number_at xs n i b point lt there =
    let here : ((get_or xs i b).number == n) ≡ true = grind (arith, nat_tests) in
    at_first (λ (y : Booking). y.number == n) xs i b lt (λ k h. below_other (get_or xs k b).number n (point.0 k b (omega arith) h)) here

pub number_not_at : (xs : List Booking) (n i : ℕ) (b : Booking) → IsOrdered xs
    → IsPartitionPoint (λ (y : Booking). nat_lt y.number n ≡ true) (λ (y : Booking). nat_lt y.number n ≡ false) xs i
    → i < length xs → (get_or xs i b).number ≢ n
    → position (λ (y : Booking). y.number == n) xs ≡ None
number_not_at xs n i b o point lt there = nowhere (λ (y : Booking). y.number == n) xs b (λ k within. cases k within (nat_lt k i) (k == i) refl refl) where
  cases : (k : ℕ) → k < length xs → (t u : Bool) → nat_lt k i ≡ t → (k == i) ≡ u → ((get_or xs k b).number == n) ≡ false
  cases k within true u e f = let less : k < i = grind (arith, nat_tests) in below_other (get_or xs k b).number n (point.0 k b (omega arith) less)
  cases k within false true e f =
      let same : k ≡ i = grind (arith, nat_tests) in
      let here : ((get_or xs i b).number == n) ≡ false = differ (get_or xs i b).number there ((get_or xs i b).number == n) refl in
      rw same here
    where
      differ : (x : ℕ) → x ≢ n → (t : Bool) → (x == n) ≡ t → (x == n) ≡ false
      differ x h true g = let same : x ≡ n = grind (arith, nat_tests) in absurd (h same)
      differ x h false g = g
  cases k within false false e f =
      let more : i < k = grind (arith, nat_tests) in
      let not_below : nat_lt (get_or xs i b).number n ≡ false = point.1 i b (omega arith) lt in
      let up : (get_or xs i b).number < (get_or xs k b).number = rises xs o i k b more within in
      let reached : n ≤ (get_or xs i b).number = grind (arith, nat_tests) in
      let above : n < (get_or xs k b).number = omega arith in
      grind (arith, nat_tests)

pub number_past : (xs : List Booking) (n i : ℕ)
    → IsPartitionPoint (λ (y : Booking). nat_lt y.number n ≡ true) (λ (y : Booking). nat_lt y.number n ≡ false) xs i
    → length xs ≤ i
    → position (λ (y : Booking). y.number == n) xs ≡ None
number_past [] n i point le = refl
number_past (x ∷ xs) n i point le = nowhere (λ (y : Booking). y.number == n) (x ∷ xs) x (λ k within. below_other (get_or (x ∷ xs) k x).number n (point.0 k x (omega arith) (omega arith)))
