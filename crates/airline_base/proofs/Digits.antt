-- The run of digits or of letters at the front.
use Rattle.std.proofs.Common.{◌≡◌, ℕ, zero, suc, ◌+◌, ◌-◌, ◌*◌, ◌^◌, ◌<◌, ◌≤◌, true, List, [], ◌∷◌, length, take, get_or, refl, arith, add-one}
use Rattle.std.specs.Char.{is_ascii_digit, digit_value}
use Rattle.std.specs.List.{list_all}
use Rattle.airline_base.proofs.Tests.{both_true}
use Rattle.std.specs.Str.Parse.{digits_value}
use Rattle.std.proofs.lemmas.Bool.Decides.{nat_tests}
use Rattle.std.proofs.Math.Nat.{pow-suc, pow-le-pow_right}
use Rattle.std.proofs.lemmas.Int.Digits.{digits_value_more}

-- a digit is its value
pub digit_is : (d : ℕ) → is_ascii_digit d ≡ true → (digit_value d ≡ d - 48) × (d - 48 < 10)
digit_is d h = grind (arith, nat_tests)

-- one more digit
pub value_more : (digits : List ℕ) (i number : ℕ) → i < length digits → is_ascii_digit (get_or digits i 0) ≡ true
    → number ≡ digits_value 10 (take i digits) → number < 10 ^ i
    → (number * 10 + (get_or digits i 0 - 48) ≡ digits_value 10 (take (i + 1) digits))
    × (number * 10 + (get_or digits i 0 - 48) < 10 ^ (i + 1))
value_more digits i number lt is value small =
    let d = digit_is (get_or digits i 0) is in
    let more : 10 ^ (i + 1) ≡ 10 ^ i * 10 = rw add-one (pow-suc 10 i) in
    (rw (digits_value_more 10 digits i lt, d.0, ← value) refl, omega (arith, d.1, more))

-- each digit is one
pub all_at : (digits : List ℕ) (i : ℕ) → list_all is_ascii_digit digits ≡ true → i < length digits
    → is_ascii_digit (get_or digits i 0) ≡ true
all_at [] i h lt = absurd (omega arith)
all_at (d ∷ digits) zero h lt = (both_true (is_ascii_digit d) (list_all is_ascii_digit digits) h).0
all_at (d ∷ digits) (suc i) h lt = all_at digits i (both_true (is_ascii_digit d) (list_all is_ascii_digit digits) h).1 (omega arith)

-- a further digit leaves room in a number of 64 bits
pub more_room : (digits : List ℕ) (i number : ℕ) → length digits ≤ 10 → i < length digits
    → is_ascii_digit (get_or digits i 0) ≡ true → number < 10 ^ i
    → number * 10 + (get_or digits i 0 - 48) < 10_000_000_000
more_room digits i number short lt is small =
    let d = digit_is (get_or digits i 0) is in
    let low : 1 ≤ 10 = omega arith in
    let high : i ≤ 9 = omega arith in
    let most : 10 ^ i ≤ 10 ^ 9 = pow-le-pow_right low high in
    omega (arith, d.1, most)

-- a number of so many digits
pub below_power : (n len most : ℕ) → len ≤ most → n < 10 ^ len → n < 10 ^ most
below_power n len most short small =
    let one : 1 ≤ 10 = omega arith in
    let bound : 10 ^ len ≤ 10 ^ most = pow-le-pow_right one short in
    omega arith
