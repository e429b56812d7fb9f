-- The bytes at the front of which each passes a test.
use Rattle.std.proofs.Common.{◌≡◌, ℕ, suc, ◌+◌, Bool, true, false, cond, List, [], ◌∷◌, ◌++◌, length, take, refl, arith}
use Rattle.std.specs.List.{prefix_len, list_all}
use Rattle.airline_base.proofs.Tests.{both_true}

abbrev pub Stops : (ℕ → Bool) → List ℕ → Type 0
Stops p [] = Unit {0}
Stops p (c ∷ rest) = p c ≡ false

run_step : (p : ℕ → Bool) (x : ℕ) (xs : List ℕ) (b : Bool) → p x ≡ b → list_all p (take (prefix_len p xs) xs) ≡ true
    → list_all p (take (cond b (1 + prefix_len p xs) 0) (x ∷ xs)) ≡ true
run_step p x xs true e h =
    let k : 1 + prefix_len p xs ≡ suc (prefix_len p xs) = omega arith in
    rw (k, e, h) refl
run_step p x xs false e h = refl

pub run_all : (p : ℕ → Bool) (xs : List ℕ) → list_all p (take (prefix_len p xs) xs) ≡ true
run_all p [] = refl
run_all p (x ∷ xs) = run_step p x xs (p x) refl (run_all p xs)

prefix_stops : (p : ℕ → Bool) (rest : List ℕ) → Stops p rest → prefix_len p rest ≡ 0
prefix_stops p [] h = refl
prefix_stops p (c ∷ rest) h = rw h refl

pub prefix_run : (p : ℕ → Bool) (run rest : List ℕ) → list_all p run ≡ true → Stops p rest
    → prefix_len p (run ++ rest) ≡ length run
prefix_run p [] rest all h = prefix_stops p rest h
prefix_run p (x ∷ run) rest all h =
    let b = both_true (p x) (list_all p run) all in
    rw (b.0, prefix_run p run rest b.1 h) (omega arith)
