-- What one look at a text takes.
use Rattle.std.proofs.Common.{◌≡◌, ◌+◌, ◌-◌, ◌≤◌, ℕ, List, ◌++◌, take, drop, sym, ap, ◌∙◌, arith}
use Rattle.std.proofs.Math.Seq.{take-add}

-- what is taken, and the next bytes
pub taken_to : (n m : ℕ) (text : List ℕ) → n ≤ m → take n text ++ take (m - n) (drop n text) ≡ take m text
taken_to n m text le =
    let sum : n + (m - n) ≡ m = omega (arith, le) in
    sym (take-add n (m - n) text) ∙ ap (λ (k : ℕ). take k text) sum
