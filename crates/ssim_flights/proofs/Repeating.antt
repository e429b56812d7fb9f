-- Days that pass a test which comes again: how many there are, and which is the i-th.
use Rattle.std.proofs.Common.{◌≡◌, ℕ, zero, suc, ◌+◌, ◌-◌, ◌*◌, ◌<◌, ◌≤◌, nat_lt, Bool, true, false, not, cond, List, [], ◌∷◌, ◌++◌, filter, map, length, get_or, min, All, refl, sym, ap, ◌∙◌, ⊎_elim, arith, add-zero, append-nil}
use Rattle.ssim_flights.proofs.Common.{range_with_len, AreBefore}
use Rattle.std.proofs.Math.Nat.{suc-mul}
use Rattle.std.proofs.Math.ListN.{get_or-append}
use Rattle.std.proofs.Math.Nat as nats
use Rattle.std.proofs.lemmas.Bool.{cases_lt, lt-ltb, le-ltb}
use Rattle.std.proofs.lemmas.List.{length-append, length-map, get_or-map, get_or-append_right}
use Rattle.std.proofs.lemmas.List.Elements.{All-filter, All-weaker, All-get_or, All-head, All-tail, filter-append}
use Rattle.std.proofs.lemmas.List.FromFn.{length-range_with_len}
use Rattle.std.proofs.lemmas.List.Filters.{length-filter_both}
use Rattle.ssim_flights.proofs.OperatingDays.{range_within}

-- ---- a range in two parts

pub range_parts : (a m n t b : ℕ) → t ≡ m + n → b ≡ a + m
    → range_with_len a t ≡ range_with_len a m ++ range_with_len b n
range_parts a zero n t b e f =
    let et : t ≡ n = omega arith in
    let eb : b ≡ a = omega arith in
    rw (et, eb)
range_parts a (suc m) n t b e f =
    let et : t ≡ suc (m + n) = omega arith in
    rw et (ap (λ r. a ∷ r) (range_parts (a + 1) m n (m + n) b refl (omega arith)))

pub keep_all : (q : ℕ → Bool) (xs : List ℕ) → All (λ x. q x ≡ true) xs → filter q xs ≡ xs
keep_all q [] all = refl
keep_all q (x ∷ xs) all = rw (All-head (λ x. q x ≡ true) x xs all) (ap (λ r. x ∷ r) (keep_all q xs (All-tail (λ x. q x ≡ true) x xs all)))

pub keep_none : (q : ℕ → Bool) (xs : List ℕ) → All (λ x. q x ≡ false) xs → filter q xs ≡ []
keep_none q [] all = refl
keep_none q (x ∷ xs) all = rw (All-head (λ x. q x ≡ false) x xs all) (keep_none q xs (All-tail (λ x. q x ≡ false) x xs all))

-- ---- the days from a on that pass a test

module _ (p : ℕ → Bool) (a : ℕ) where
  parts : (m n t b : ℕ) → t ≡ m + n → b ≡ a + m
      → filter p (range_with_len a t) ≡ filter p (range_with_len a m) ++ filter p (range_with_len b n)
  parts m n t b e f = ap (filter p) (range_parts a m n t b e f) ∙ filter-append p (range_with_len a m) (range_with_len b n)

  pub few : (n : ℕ) → length (filter p (range_with_len a n)) ≤ n
  few n = omega (arith, length-filter_both p (λ x. not (p x)) (λ x. refl) (range_with_len a n), length-range_with_len a n)

  low : (b n : ℕ) → All (λ d. d < b + n) (filter p (range_with_len b n))
  low b n = All-filter p (λ d. d < b + n) (range_with_len b n) (All-weaker (λ d. (b ≤ d) × (d < b + n)) (λ d. d < b + n) (λ d h. h.1) (range_with_len b n) (range_within b n))

  high : (b n : ℕ) → All (λ d. b ≤ d) (filter p (range_with_len b n))
  high b n = All-filter p (λ d. b ≤ d) (range_with_len b n) (All-weaker (λ d. (b ≤ d) × (d < b + n)) (λ d. b ≤ d) (λ d h. h.0) (range_with_len b n) (range_within b n))

  -- of the days of a longer range, those below a + m are those of the first m
  pub below : (m n b : ℕ) → m ≤ n → b ≡ a + m
      → filter (λ d. nat_lt d b) (filter p (range_with_len a n)) ≡ filter p (range_with_len a m)
  below m n b h e =
      let first = filter p (range_with_len a m) in
      let rest = filter p (range_with_len b (n - m)) in
      ap (filter (λ d. nat_lt d b)) (parts m (n - m) n b (omega arith) e) ∙ filter-append (λ d. nat_lt d b) first rest
      ∙ ap (λ xs. xs ++ filter (λ d. nat_lt d b) rest)
      (keep_all (λ d. nat_lt d b) first (All-weaker (λ d. d < a + m) (λ d. nat_lt d b ≡ true) (λ d l. lt-ltb d b (omega arith)) first (low a m)))
      ∙ ap (λ xs. first ++ xs) (keep_none (λ d. nat_lt d b) rest (All-weaker (λ d. b ≤ d) (λ d. nat_lt d b ≡ false) (λ d l. le-ltb d b l) rest (high b (n - m))))
      ∙ append-nil first

  -- the first days of a range are those of a shorter one
  at_front : (m n i : ℕ) → m ≤ n → i < length (filter p (range_with_len a m))
      → get_or (filter p (range_with_len a n)) i 0 ≡ get_or (filter p (range_with_len a m)) i 0
  at_front m n i h inside =
      ap (λ xs. get_or xs i 0) (parts m (n - m) n (a + m) (omega arith) refl) ∙ get_or-append (filter p (range_with_len a m)) (filter p (range_with_len (a + m) (n - m))) 0 i inside

  pub shorter : (m n : ℕ) → m ≤ n → length (filter p (range_with_len a m)) ≤ length (filter p (range_with_len a n))
  shorter m n h =
      let e = ap length (parts m (n - m) n (a + m) (omega arith) refl) in
      let l = length-append (filter p (range_with_len a m)) (filter p (range_with_len (a + m) (n - m))) in
      omega arith

  -- how many of them lie before the day d
  pub before : (n k d count : ℕ) → k ≡ d - a
      → count ≡ min (length (filter p (range_with_len a k))) (length (filter p (range_with_len a n)))
      → AreBefore (filter p (range_with_len a n)) d count
  before n k d count e f = ⊎_elim (λ h. longer h) (λ h. within h) (cases_lt n k)
    where
      first : List ℕ
      first = filter p (range_with_len a k)

      all : List ℕ
      all = filter p (range_with_len a n)

      longer : n < k → AreBefore all d count
      longer h =
          let l : length all ≤ length first = shorter n k (omega arith) in
          record {
            some = omega arith;
            before = λ i h'. let x : get_or all i 0 < a + n = All-get_or (λ x. x < a + n) all i 0 (omega arith) (low a n) in omega arith;
            behind = λ i h' h''. absurd (omega arith);
          }

      within : k ≤ n → AreBefore all d count
      within h =
          let l : length first ≤ length all = shorter k n h in
          let split : all ≡ first ++ filter p (range_with_len (a + k) (n - k)) = parts k (n - k) n (a + k) (omega arith) refl in
          let m : length all ≡ length first + length (filter p (range_with_len (a + k) (n - k))) = ap length split ∙ length-append first (filter p (range_with_len (a + k) (n - k))) in
          let z = few k in
          record {
            some = omega arith;
            before = λ i h'.
                let x : get_or first i 0 < a + k = All-get_or (λ x. x < a + k) first i 0 (omega arith) (low a k) in
                let y : get_or all i 0 ≡ get_or first i 0 = at_front k n i h (omega arith) in
                omega arith;
            behind = λ i h' h''.
                let y : get_or all i 0 ≡ get_or (filter p (range_with_len (a + k) (n - k))) (i - length first) 0 = ap (λ xs. get_or xs i 0) split ∙ get_or-append_right first (filter p (range_with_len (a + k) (n - k))) (length first) i 0 refl (omega arith) in
                let x : a + k ≤ get_or (filter p (range_with_len (a + k) (n - k))) (i - length first) 0 = All-get_or (λ x. a + k ≤ x) (filter p (range_with_len (a + k) (n - k))) (i - length first) 0 (omega arith) (high (a + k) (n - k)) in
                omega arith;
          }

-- ---- the days of a test that comes again after c days

module _ (p : ℕ → Bool) (a c : ℕ) (again : (d : ℕ) → a ≤ d → p (d + c) ≡ p d) where
  moved : (t : Bool) (x b : ℕ) (xs ys : List ℕ) → b ≡ x + c → ys ≡ map (λ d. d + c) xs
      → cond t (b ∷ ys) ys ≡ map (λ d. d + c) (cond t (x ∷ xs) xs)
  moved true x b xs ys e f = rw (e, f)
  moved false x b xs ys e f = f

  later : (n x b : ℕ) → a ≤ x → b ≡ x + c
      → filter p (range_with_len b n) ≡ map (λ d. d + c) (filter p (range_with_len x n))
  later zero x b h e = refl
  later (suc n) x b h e =
      let same : p b ≡ p x = ap p e ∙ again x h in
      let rest = later n (x + 1) (b + 1) (omega arith) (omega arith) in
      rw same (moved (p x) x b (filter p (range_with_len (x + 1) n)) (filter p (range_with_len (b + 1) n)) e rest)

  -- one round more
  round_more : (n t : ℕ) → t ≡ c + n
      → filter p (range_with_len a t) ≡ filter p (range_with_len a c)
      ++ map (λ d. d + c) (filter p (range_with_len a n))
  round_more n t e =
      parts p a c n t (a + c) e refl ∙ ap (λ xs. filter p (range_with_len a c) ++ xs) (later n a (a + c) (omega arith) refl)

  counted_more : (n t : ℕ) → t ≡ c + n
      → length (filter p (range_with_len a t)) ≡ length (filter p (range_with_len a c))
      + length (filter p (range_with_len a n))
  counted_more n t e =
      ap length (round_more n t e) ∙ length-append (filter p (range_with_len a c)) (map (λ d. d + c) (filter p (range_with_len a n)))
      ∙ ap (λ k. length (filter p (range_with_len a c)) + k) (length-map (filter p (range_with_len a n)) (λ d. d + c))

  -- in k rounds and r days
  pub counted : (k r t : ℕ) → t ≡ k * c + r
      → length (filter p (range_with_len a t)) ≡ k * length (filter p (range_with_len a c))
      + length (filter p (range_with_len a r))
  counted zero r t e =
      let same : t ≡ r = omega (arith, nats.zero-mul c) in
      rw (same, nats.zero-mul) (omega arith)
  counted (suc k) r t e =
      let product = suc-mul k c in
      let rest = counted k r (k * c + r) refl in
      let more = counted_more (k * c + r) t (omega arith) in
      let lengths = suc-mul k (length (filter p (range_with_len a c))) in
      omega arith

  -- the j-th day of the round after k others
  pub found : (k j n : ℕ) → j < length (filter p (range_with_len a c))
      → k * length (filter p (range_with_len a c)) + j < length (filter p (range_with_len a n))
      → get_or (filter p (range_with_len a n)) (k * length (filter p (range_with_len a c)) + j) 0
      ≡ get_or (filter p (range_with_len a c)) j 0 + k * c
  found zero j n inside h =
      let z : zero * length (filter p (range_with_len a c)) + j ≡ j = omega (arith, nats.zero-mul (length (filter p (range_with_len a c)))) in
      let y : zero * c ≡ 0 = nats.zero-mul c in
      rw (z, y) (⊎_elim (λ l. sym (at_front p a n c j (omega arith) (omega arith))) (λ l. at_front p a c n j l inside) (cases_lt n c) ∙ sym (add-zero (get_or (filter p (range_with_len a c)) j 0)))
  found (suc k) j n inside h = ⊎_elim (λ l. absurd (short l)) (λ l. long l (λ inside'. found k j (n - c) inside inside')) (cases_lt n c)
    where
      first : List ℕ
      first = filter p (range_with_len a c)

      short : n < c → ⊥
      short l =
          let s = shorter p a n c (omega arith) in
          let m = suc-mul k (length first) in
          omega arith

      long : c ≤ n
          → (k * length first + j < length (filter p (range_with_len a (n - c)))
          → get_or (filter p (range_with_len a (n - c))) (k * length first + j) 0 ≡ get_or first j 0 + k * c)
          → get_or (filter p (range_with_len a n)) (suc k * length first + j) 0 ≡ get_or first j 0 + suc k * c
      long l before_it =
          let rest = filter p (range_with_len a (n - c)) in
          let m = suc-mul k (length first) in
          let mc = suc-mul k c in
          let count : length (filter p (range_with_len a n)) ≡ length first + length rest = counted_more (n - c) n (omega arith) in
          let inside' : k * length first + j < length rest = omega arith in
          let split : filter p (range_with_len a n) ≡ first ++ map (λ d. d + c) rest = round_more (n - c) n (omega arith) in
          let place : suc k * length first + j - length first ≡ k * length first + j = omega arith in
          let one : get_or (filter p (range_with_len a n)) (suc k * length first + j) 0 ≡ get_or (map (λ d. d + c) rest) (suc k * length first + j - length first) 0 = ap (λ xs. get_or xs (suc k * length first + j) 0) split ∙ get_or-append_right first (map (λ d. d + c) rest) (length first) (suc k * length first + j) 0 refl (omega arith) in
          let two : get_or (map (λ d. d + c) rest) (suc k * length first + j - length first) 0 ≡ get_or rest (k * length first + j) 0 + c = ap (λ i. get_or (map (λ d. d + c) rest) i 0) place ∙ get_or-map (λ d. d + c) rest (k * length first + j) 0 0 inside' in
          let three : get_or rest (k * length first + j) 0 ≡ get_or first j 0 + k * c = before_it inside' in
          omega arith
