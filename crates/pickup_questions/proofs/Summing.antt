-- Sums over the numbers below one.
use Rattle.std.proofs.Common.{◌≡◌, ◌==◌, ℕ, zero, suc, ◌+◌, ◌<◌, ◌≤◌, Bool, true, false, List, [], ◌∷◌, refl, sym, ap, ◌∙◌, arith, if◌then◌else◌}
use Rattle.std.specs.List.{AllByRecursion, sum_by}
use Rattle.std.proofs.lemmas.Bool.Decides.{nat_tests}
use Rattle.std.proofs.lemmas.List.Sums.{sum_by-cons}
use Rattle.seat_pickup.specs.declared.classes.Pickup.{Pickup}
use Rattle.pickup_questions.specs.Groups.{counts_in, move_of, sum_in}
use Rattle.pickup_questions.specs.declared.groups.Move.{Move}
use Rattle.pickup_questions.specs.Together.{sum_below}

alike : (f g : ℕ → ℕ) → ((k : ℕ) → f k ≡ g k) → (n : ℕ) → sum_below f n ≡ sum_below g n
alike f g same zero = refl
alike f g same (suc n) =
    let below : sum_below f n ≡ sum_below g n = alike f g same n in
    let last : f n ≡ g n = same n in
    omega (arith, below, last)

apart : (f g : ℕ → ℕ) (n : ℕ) → sum_below (λ (k : ℕ). f k + g k) n ≡ sum_below f n + sum_below g n
apart f g zero = refl
apart f g (suc n) =
    let below : sum_below (λ (k : ℕ). f k + g k) n ≡ sum_below f n + sum_below g n = apart f g n in
    omega (arith, below)

nothing : (n : ℕ) → sum_below (λ (k : ℕ). 0) n ≡ 0
nothing zero = refl
nothing (suc n) =
    let below : sum_below (λ (k : ℕ). 0) n ≡ 0 = nothing n in
    omega (arith, below)

-- ---- a number that counts at one place alone

elsewhere : (b : Bool) (v : ℕ) → b ≡ false → (if b then v else 0) ≡ 0
elsewhere b v e = ap (λ (t : Bool). if t then v else 0) e

there : (b : Bool) (v : ℕ) → b ≡ true → (if b then v else 0) ≡ v
there b v e = ap (λ (t : Bool). if t then v else 0) e

beyond : (x v n : ℕ) → n ≤ x → sum_below (λ (k : ℕ). if k == x then v else 0) n ≡ 0
beyond x v zero le = refl
beyond x v (suc n) le =
    let below : sum_below (λ (k : ℕ). if k == x then v else 0) n ≡ 0 = beyond x v n (omega (arith, le)) in
    let off : (n == x) ≡ false = grind (arith, nat_tests, le) in
    let last : (if n == x then v else 0) ≡ 0 = elsewhere (n == x) v off in
    omega (arith, below, last)

lone : (x v n : ℕ) → x < n → sum_below (λ (k : ℕ). if k == x then v else 0) n ≡ v
lone x v zero lt = absurd (omega (arith, lt))
lone x v (suc n) lt = cases (n == x) refl (lone x v n)
  where
    cases : (b : Bool) → (n == x) ≡ b → (x < n → sum_below (λ (k : ℕ). if k == x then v else 0) n ≡ v)
        → sum_below (λ (k : ℕ). if k == x then v else 0) (suc n) ≡ v
    cases true e rest =
        let le : n ≤ x = grind (arith, nat_tests, e) in
        let below : sum_below (λ (k : ℕ). if k == x then v else 0) n ≡ 0 = beyond x v n le in
        let last : (if n == x then v else 0) ≡ v = there (n == x) v e in
        omega (arith, below, last)
    cases false e rest =
        let less : x < n = grind (arith, nat_tests, e, lt) in
        let below : sum_below (λ (k : ℕ). if k == x then v else 0) n ≡ v = rest less in
        let last : (if n == x then v else 0) ≡ 0 = elsewhere (n == x) v e in
        omega (arith, below, last)

-- ---- rows, each of one group

pub together : (group : Pickup → ℕ) (count : ℕ) (of : Move) (all : List Pickup) → AllByRecursion (λ (p : Pickup). group p < count) all
    → sum_below (λ (k : ℕ). sum_in group k of all) count ≡ sum_by (move_of of) all
together group count of [] within = nothing count
together group count of (p ∷ ps) within =
    let a : sum_below (λ (k : ℕ). sum_in group k of (p ∷ ps)) count ≡ sum_below (λ (k : ℕ). counts_in group k of p + sum_in group k of ps) count =
    alike (λ (k : ℕ). sum_in group k of (p ∷ ps)) (λ (k : ℕ). counts_in group k of p + sum_in group k of ps)
    (λ k. sum_by-cons (counts_in group k of) p ps) count in
    let b : sum_below (λ (k : ℕ). counts_in group k of p + sum_in group k of ps) count
    ≡ sum_below (λ (k : ℕ). counts_in group k of p) count + sum_below (λ (k : ℕ). sum_in group k of ps) count =
    apart (λ (k : ℕ). counts_in group k of p) (λ (k : ℕ). sum_in group k of ps) count in
    let c : sum_below (λ (k : ℕ). counts_in group k of p) count ≡ move_of of p = lone (group p) (move_of of p) count within.0 in
    let d : sum_below (λ (k : ℕ). sum_in group k of ps) count ≡ sum_by (move_of of) ps = together group count of ps within.1 in
    let e : sum_by (move_of of) (p ∷ ps) ≡ move_of of p + sum_by (move_of of) ps = sum_by-cons (move_of of) p ps in
    omega (arith, a, b, c, d, e)
