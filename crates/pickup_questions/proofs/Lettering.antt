-- The class of a letter.
use Rattle.std.proofs.Common.{Bool, true, false, ◌≡◌, ℕ, ◌≤◌, Some, None, arith, if◌then◌else◌}
use Rattle.std.specs.Char.{is_ascii_uppercase}
use Rattle.std.proofs.lemmas.Bool.Decides.{nat_tests}

-- each of these letters is that of a class
pub is_letter : (letter : ℕ) → 65 ≤ letter → letter ≤ 90 → is_ascii_uppercase letter ≡ true
is_letter letter from to = grind (arith, nat_tests, from, to)

pub same_class : (letter class : ℕ) (b : Bool) → b ≡ true → Some class ≡ (if b then Some letter else None) → class ≡ letter
same_class letter class true e is = cc
same_class letter class false e is = absurd cc
