-- Whether a list takes one more.
use Rattle.std.proofs.Common.{◌≡◌, ℕ, suc, ◌+◌, nat_le, nat_lt, false, arith, sym, ap, ◌∙◌}
use Rattle.std.proofs.lemmas.Bool.Decides.{nat_tests}

none_more : (n : ℕ) → nat_le (n + 1) 0 ≡ false
none_more n = grind (arith, nat_tests)

pub takes_none : (n wait : ℕ) → wait ≡ 0 → false ≡ nat_le (n + 1) wait
takes_none n wait none = sym (none_more n) ∙ ap (λ (w : ℕ). nat_le (n + 1) w) (sym none)

next : (n wait : ℕ) → nat_lt n wait ≡ nat_le (n + 1) wait
next n wait = let e : suc n ≡ n + 1 = omega arith in ap (λ (k : ℕ). nat_le k wait) e

pub takes_one : (n seats wait : ℕ) → seats ≡ n → nat_lt seats wait ≡ nat_le (n + 1) wait
takes_one n seats wait is = next seats wait ∙ ap (λ (k : ℕ). nat_le (k + 1) wait) is
