-- The shares that are left, and the sessions that have one.
use Rattle.std.proofs.Common.{◌≡◌, ℕ, zero, suc, ◌+◌, ◌-◌, ◌≤◌, List, [], ◌∷◌, ◌++◌, Option, Some, None, length, length-append, refl, ap, sym, ◌∙◌, arith}
use Rattle.std.specs.Prelude.{option_to_list, slice_index, slice_set, IsSome, ◌<◌}
use Rattle.seat_host.specs.Ledgers.{Staked, counted, stakes_left}
use Rattle.seat_rules.proofs.History.Prefixes.{push_same}

-- the last of the shares that are left is that of the next number
pub left_next : (n : ℕ) → n ≤ 8 → stakes_left (9 - n) ≡ stakes_left (9 - (n + 1)) ++ counted n 0 ∷ []
left_next n high =
    let one : 9 - n ≡ suc (9 - (n + 1)) = omega arith in
    let here : 8 - (9 - (n + 1)) ≡ n = omega arith in
    ap stakes_left one ∙ ap (λ (k : ℕ). stakes_left (9 - (n + 1)) ++ counted k 0 ∷ []) here

pub take_last : (n : ℕ) (was rest : List Staked) (s : Staked) → n ≤ 8 → was ≡ stakes_left (9 - n) → was ≡ rest ++ s ∷ []
    → (rest ≡ stakes_left (9 - (n + 1))) × (s ≡ counted n 0)
take_last n was rest s high is split = push_same rest (stakes_left (9 - (n + 1))) s (counted n 0) (sym split ∙ is ∙ left_next n high)

some_left : (n : ℕ) → n ≤ 8 → 0 < length (stakes_left (9 - n))
some_left n high = omega (arith, ap length (left_next n high), length-append (stakes_left (9 - (n + 1))) (counted n 0 ∷ []))

pub popped : (n : ℕ) (was rest : List Staked) (r : Option Staked) → n ≤ 8 → was ≡ stakes_left (9 - n)
    → was ≡ rest ++ option_to_list r → (0 < length was → IsSome r)
    → (rest ≡ stakes_left (9 - (n + 1))) × (r ≡ Some (counted n 0))
popped n was rest None high is split some = absurd (cc (some (omega (arith, ap length is, some_left n high))))
popped n was rest (Some s) high is split some =
    let p = take_last n was rest s high is split in
    (p.0, ap Some p.1)

-- where no line more is counted, all stays
set_same : (xs : List ℕ) (i : ℕ) → slice_set xs i (slice_index xs i) ≡ xs
set_same [] i = refl
set_same (x ∷ xs) zero = refl
set_same (x ∷ xs) (suc i) = ap (λ (l : List ℕ). x ∷ l) (set_same xs i)

pub counts_same : (was now : List ℕ) (i : ℕ) → now ≡ slice_set was i (slice_index was i + 0) → now ≡ was
counts_same was now i is =
    let none : slice_index was i + 0 ≡ slice_index was i = omega arith in
    is ∙ ap (slice_set was i) none ∙ set_same was i

pub stake_same : (was now : Staked) → now ≡ counted was.number (was.amount + 0) → now ≡ was
stake_same was now is =
    let none : was.amount + 0 ≡ was.amount = omega arith in
    is ∙ ap (counted was.number) none
