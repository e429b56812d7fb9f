-- The days of a period that pass a test: one day more, their order, and which they are.
use Rattle.std.proofs.Common.{◌≡◌, ℕ, zero, suc, ◌+◌, ◌-◌, ◌<◌, ◌≤◌, ◌↔◌, Bool, true, false, cond, List, [], ◌∷◌, ◌++◌, filter, All, Contains, sym, ap, subst, ◌∙◌, ⊎_elim, arith, add-zero, add-one, append-nil}
use Rattle.ssim_flights.proofs.Common.{range_with_len, Leg, operating_days}
use Rattle.std.specs.List.Sorted.{IsStrictlyIncreasing}
use Rattle.std.proofs.lemmas.Bool.{cases_eq, and_parts, and_from, false≢true}
use Rattle.std.proofs.lemmas.List.Elements.{filter-append, filter_passes, All-filter, All-weaker, All-contains, All-from_get_or, Contains-append_right}
use Rattle.std.proofs.lemmas.List.FromFn.{length-range_with_len, get_or-range_with_len}
use Rattle.std.proofs.lemmas.List.Kept.{IsStrictlyIncreasing-filter}
use Rattle.ssim_flights.specs.Operating.{Operates, operates, last_day, is_listed, is_in_week}

range_push : (a n : ℕ) → range_with_len a (suc n) ≡ range_with_len a n ++ (a + n) ∷ []
range_push a zero = ap (λ k. k ∷ []) (sym (add-zero a))
range_push a (suc n) =
    let e : a + 1 + n ≡ a + suc n = omega arith in
    ap (λ r. a ∷ r) (range_push (a + 1) n ∙ ap (λ k. range_with_len (a + 1) n ++ k ∷ []) e)

-- one day more
days_more : (p : ℕ → Bool) (a n m d : ℕ) → m ≡ n + 1 → d ≡ a + n
    → filter p (range_with_len a m) ≡ filter p (range_with_len a n) ++ cond (p d) (d ∷ []) []
days_more p a n m d more at =
    let e : m ≡ suc n = more ∙ add-one n in
    subst (λ (k : ℕ). filter p (range_with_len a k) ≡ filter p (range_with_len a n) ++ cond (p d) (d ∷ []) []) (sym e)
    (subst (λ (k : ℕ). filter p (range_with_len a (suc n)) ≡ filter p (range_with_len a n) ++ cond (p k) (k ∷ []) []) (sym at)
    (ap (filter p) (range_push a n) ∙ filter-append p (range_with_len a n) ((a + n) ∷ [])))

pub days_more_yes : (p : ℕ → Bool) (a n m d : ℕ) → m ≡ n + 1 → d ≡ a + n → p d ≡ true
    → filter p (range_with_len a m) ≡ filter p (range_with_len a n) ++ d ∷ []
days_more_yes p a n m d more at passes = days_more p a n m d more at ∙ rw passes

pub days_more_no : (p : ℕ → Bool) (a n m d : ℕ) → m ≡ n + 1 → d ≡ a + n → p d ≡ false
    → filter p (range_with_len a m) ≡ filter p (range_with_len a n)
days_more_no p a n m d more at fails = days_more p a n m d more at ∙ rw fails (append-nil _)

pub range_increases : (a n : ℕ) → IsStrictlyIncreasing (range_with_len a n)
range_increases a n = λ k h.
    let l = length-range_with_len a n in
    let x = get_or-range_with_len a n k 0 (omega arith) in
    let y = get_or-range_with_len a n (k + 1) 0 (omega arith) in
    omega arith

pub range_within : (a n : ℕ) → All (λ d. (a ≤ d) × (d < a + n)) (range_with_len a n)
range_within a n = All-from_get_or (λ d. (a ≤ d) × (d < a + n)) (range_with_len a n) 0
    (λ i h. let l = length-range_with_len a n in let e = get_or-range_with_len a n i 0 (omega arith) in (omega arith, omega arith))

-- a day of the range that passes is kept
has_day : (p : ℕ → Bool) (a n d : ℕ) → a ≤ d → d < a + n → p d ≡ true → Contains (filter p (range_with_len a n)) d
has_day p a zero d low high passes = absurd (omega arith)
has_day p a (suc n) d low high passes = ⊎_elim here (λ ne. there (has_day p (a + 1) n d (after ne) (omega arith) passes)) (cases_eq a d)
  where
    after : (a ≡ d → ⊥) → a + 1 ≤ d
    after ne = omega arith

    keeps : (b : Bool) (rest : List ℕ) → Contains rest d → Contains (cond b (a ∷ rest) rest) d
    keeps true rest h = Contains-append_right (a ∷ []) rest d h
    keeps false rest h = h

    begins : (x : ℕ) (b : Bool) (rest : List ℕ) → x ≡ d → b ≡ true → Contains (cond b (x ∷ rest) rest) d
    begins x true rest e passing = (0, omega arith, e)
    begins x false rest e passing = absurd (false≢true passing)

    here : a ≡ d → Contains (filter p (range_with_len a (suc n))) d
    here e = begins a (p a) (filter p (range_with_len (a + 1) n)) e (ap p e ∙ passes)

    there : Contains (filter p (range_with_len (a + 1) n)) d → Contains (filter p (range_with_len a (suc n))) d
    there h = keeps (p a) (filter p (range_with_len (a + 1) n)) h

-- the days of a leg are those on which it operates
pub days_within : (leg : Leg) (end : ℕ) → All (λ d. (leg.from ≤ d) × (d ≤ last_day leg end)) (operating_days leg end)
days_within leg end =
    All-filter (operates leg) (λ d. (leg.from ≤ d) × (d ≤ last_day leg end)) (range_with_len leg.from (last_day leg end + 1 - leg.from))
    (All-weaker (λ d. (leg.from ≤ d) × (d < leg.from + (last_day leg end + 1 - leg.from))) (λ d. (leg.from ≤ d) × (d ≤ last_day leg end)) (λ d h. (h.0, omega arith)) (range_with_len leg.from (last_day leg end + 1 - leg.from))
    (range_within leg.from (last_day leg end + 1 - leg.from)))

pub days_exact : (leg : Leg) (end d : ℕ) → Contains (operating_days leg end) d ↔ Operates leg end d
days_exact leg end d = (found, kept)
  where
    found : Contains (operating_days leg end) d → Operates leg end d
    found h =
        let at = All-contains (λ d. (leg.from ≤ d) × (d ≤ last_day leg end)) (operating_days leg end) d (days_within leg end) h in
        let passes = All-contains (λ d. operates leg d ≡ true) (operating_days leg end) d (filter_passes (operates leg) (range_with_len leg.from (last_day leg end + 1 - leg.from))) h in
        let both = and_parts (is_listed leg d) (is_in_week leg d) passes in
        record { begun = at.0; lasts = at.1; listed = both.0; in_week = both.1 }

    kept : Operates leg end d → Contains (operating_days leg end) d
    kept h =
        let begun = h.begun in
        let lasts = h.lasts in
        has_day (operates leg) leg.from (last_day leg end + 1 - leg.from) d h.begun (omega arith) (and_from (is_listed leg d) (is_in_week leg d) h.listed h.in_week)

pub days_increase : (leg : Leg) (end : ℕ) → IsStrictlyIncreasing (operating_days leg end)
days_increase leg end = IsStrictlyIncreasing-filter (operates leg) (range_with_len leg.from (last_day leg end + 1 - leg.from)) (range_increases leg.from (last_day leg end + 1 - leg.from))
