-- The day that a time of departure falls on.
use Rattle.std.proofs.Common.{◌≡◌, ℕ, ◌+◌, ◌≤◌, ℤ, pos, negsuc, ◌+ℤ◌, ◌≤ℤ◌, ap, sym, subst, ◌∙◌, FitsSigned, unsigned_abs, to_z, of_z, w8, w16, w32, arith}
use Rattle.std.specs.Int.{int_div_euclid}
use Rattle.std.proofs.lemmas.Int.{ints}
use Rattle.jiff_core.proofs.SignedLemmas.{signed_arith, back_small, fits_between}

-- within a day of the day before or after
near_midnight : (z : ℤ) → negsuc 1438 ≤ℤ z → z ≤ℤ pos 2879
    → (negsuc 0 ≤ℤ int_div_euclid z (pos 1440)) × (int_div_euclid z (pos 1440) ≤ℤ pos 1)
near_midnight (pos a) low high = (omega (arith, ints), omega (arith, ints))
near_midnight (negsuc a) low high = (omega (arith, ints), omega (arith, ints))

abs_below : (n : ℕ) (x : ℤ) → negsuc n ≤ℤ x → x ≤ℤ pos n → unsigned_abs x ≤ n + 1
abs_below n (pos k) low high = omega (arith, signed_arith)
abs_below n (negsuc k) low high = omega (arith, signed_arith)

-- a number of days, through 32 bits
pub few_days : (x : ℤ) → negsuc 1 ≤ℤ x → x ≤ℤ pos 8 → to_z w32 (of_z w32 x) ≡ x
few_days x low high = back_small w32 x (omega (arith, abs_below 8 x (omega (arith, signed_arith)) high))

-- the parts of a sum of small numbers, through 32 bits
small_parts : (a b x y : ℤ) → a ≡ x → b ≡ y → negsuc 9999 ≤ℤ x → x ≤ℤ pos 9999 → negsuc 9999 ≤ℤ y → y ≤ℤ pos 9999
    → to_z w32 (of_z w32 a) +ℤ to_z w32 (of_z w32 b) ≡ x +ℤ y
small_parts a b x y ea eb lx hx ly hy =
    let first : to_z w32 (of_z w32 a) ≡ x = ap (λ z. to_z w32 (of_z w32 z)) ea ∙ back_small w32 x (omega (arith, abs_below 9999 x lx hx)) in
    let second : to_z w32 (of_z w32 b) ≡ y = ap (λ z. to_z w32 (of_z w32 z)) eb ∙ back_small w32 y (omega (arith, abs_below 9999 y ly hy)) in
    ap (λ z. z +ℤ to_z w32 (of_z w32 b)) first ∙ ap (λ z. x +ℤ z) second

-- the sum
small_sum : (a b x y : ℤ) → a ≡ x → b ≡ y → negsuc 9999 ≤ℤ x → x ≤ℤ pos 9999 → negsuc 9999 ≤ℤ y → y ≤ℤ pos 9999
    → to_z w32 (of_z w32 (to_z w32 (of_z w32 a) +ℤ to_z w32 (of_z w32 b))) ≡ x +ℤ y
small_sum a b x y ea eb lx hx ly hy =
    ap (λ z. to_z w32 (of_z w32 z)) (small_parts a b x y ea eb lx hx ly hy)
    ∙ back_small w32 (x +ℤ y) (omega (arith, abs_below 19999 (x +ℤ y) (omega (arith, signed_arith)) (omega (arith, signed_arith))))

-- the sum fits
sum_fits : (a b x y : ℤ) → a ≡ x → b ≡ y → negsuc 9999 ≤ℤ x → x ≤ℤ pos 9999 → negsuc 9999 ≤ℤ y → y ≤ℤ pos 9999
    → FitsSigned w32 (to_z w32 (of_z w32 a) +ℤ to_z w32 (of_z w32 b))
sum_fits a b x y ea eb lx hx ly hy =
    subst (λ (z : ℤ). FitsSigned w32 z) (sym (small_parts a b x y ea eb lx hx ly hy))
    (fits_between w32 (x +ℤ y) (omega (arith, signed_arith), omega (arith, signed_arith)))

-- a time of departure and its distance from UTC
pub minutes_fit : (std : ℕ) (offset a b : ℤ) → std ≤ 1440 → negsuc 1438 ≤ℤ offset → offset ≤ℤ pos 1439 → a ≡ pos std
    → b ≡ to_z w16 (of_z w16 offset) → FitsSigned w32 (to_z w32 (of_z w32 a) +ℤ to_z w32 (of_z w32 b))
minutes_fit std offset a b hstd lo ho ea eb =
    sum_fits a b (pos std) offset ea (eb ∙ back_small w16 offset (omega (arith, abs_below 1439 offset (omega (arith, signed_arith)) ho))) (omega (arith, signed_arith)) (omega (arith, signed_arith)) (omega (arith, signed_arith)) (omega (arith, signed_arith))

pub never : ◌≡◌ {A = ℕ} 1440 4294967295 → ⊥
never e = omega (arith, e)

-- a departure date variation and a quotient of minutes
summed : (shift q s : ℤ) → negsuc 0 ≤ℤ shift → shift ≤ℤ pos 7 → negsuc 0 ≤ℤ q → q ≤ℤ pos 1 → s ≡ shift +ℤ q
    → (negsuc 1 ≤ℤ s) × (s ≤ℤ pos 8)
summed shift q s ls hs lq hq e = (omega (arith, signed_arith), omega (arith, signed_arith))

-- what the program computes from a leg's bytes
pub day_shift : (std : ℕ) (offset shift a b d e : ℤ) → std ≤ 1440 → negsuc 1438 ≤ℤ offset → offset ≤ℤ pos 1439
    → negsuc 0 ≤ℤ shift → shift ≤ℤ pos 7 → a ≡ to_z w8 (of_z w8 shift) → b ≡ pos std → d ≡ to_z w16 (of_z w16 offset)
    → e ≡ int_div_euclid (to_z w32 (of_z w32 (to_z w32 (of_z w32 b) +ℤ to_z w32 (of_z w32 d)))) (pos 1440)
    → (to_z w32 (of_z w32 (to_z w32 (of_z w32 a) +ℤ to_z w32 (of_z w32 e)))
    ≡ shift +ℤ int_div_euclid (pos std +ℤ offset) (pos 1440))
    × (negsuc 1 ≤ℤ to_z w32 (of_z w32 (to_z w32 (of_z w32 a) +ℤ to_z w32 (of_z w32 e))))
    × (to_z w32 (of_z w32 (to_z w32 (of_z w32 a) +ℤ to_z w32 (of_z w32 e))) ≤ℤ pos 8)
    × FitsSigned w32 (to_z w32 (of_z w32 a) +ℤ to_z w32 (of_z w32 e))
day_shift std offset shift a b d e hstd lo ho ls hs ea eb ed ee =
    let low : negsuc 9999 ≤ℤ pos std = omega (arith, signed_arith) in
    let high : pos std ≤ℤ pos 9999 = omega (arith, signed_arith) in
    let minutes = small_sum b d (pos std) offset eb (ed ∙ back_small w16 offset (omega (arith, abs_below 1439 offset (omega (arith, signed_arith)) ho))) low high (omega (arith, signed_arith)) (omega (arith, signed_arith)) in
    let near = near_midnight (pos std +ℤ offset) (omega (arith, signed_arith)) (omega (arith, signed_arith)) in
    with_quotient (int_div_euclid (pos std +ℤ offset) (pos 1440)) near.0 near.1 (ee ∙ ap (λ z. int_div_euclid z (pos 1440)) minutes)
  where
    with_quotient : (q : ℤ) → negsuc 0 ≤ℤ q → q ≤ℤ pos 1 → e ≡ q
        → (to_z w32 (of_z w32 (to_z w32 (of_z w32 a) +ℤ to_z w32 (of_z w32 e))) ≡ shift +ℤ q)
        × (negsuc 1 ≤ℤ to_z w32 (of_z w32 (to_z w32 (of_z w32 a) +ℤ to_z w32 (of_z w32 e))))
        × (to_z w32 (of_z w32 (to_z w32 (of_z w32 a) +ℤ to_z w32 (of_z w32 e))) ≤ℤ pos 8)
        × FitsSigned w32 (to_z w32 (of_z w32 a) +ℤ to_z w32 (of_z w32 e))
    with_quotient q lq hq eq =
        let back = ea ∙ back_small w8 shift (omega (arith, abs_below 7 shift (omega (arith, signed_arith)) hs)) in
        let from : negsuc 9999 ≤ℤ shift = omega (arith, signed_arith) in
        let to : shift ≤ℤ pos 9999 = omega (arith, signed_arith) in
        let low : negsuc 9999 ≤ℤ q = omega (arith, signed_arith) in
        let high : q ≤ℤ pos 9999 = omega (arith, signed_arith) in
        let total = small_sum a e shift q back eq from to low high in
        let bounds = summed shift q _ ls hs lq hq total in
        (total, bounds.0, bounds.1, sum_fits a e shift q back eq from to low high)
