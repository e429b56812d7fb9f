-- Steps of a reading.
use Rattle.std.proofs.Common.{◌≡◌, ℕ, zero, suc, ◌+◌, ◌-◌, ◌<◌, List, Result, Ok, Err, refl, sym, ap, ◌∙◌, arith}
use Rattle.airline_base.specs.Reach.{reach, onward}

pub reach_one : {S K : Type 0} (f : S → List ℕ → Result (S × List ℕ) K) (s : S) (bytes : List ℕ) (n : ℕ)
    (p : S × List ℕ) → reach f s bytes n ≡ Ok p → reach f s bytes (suc n) ≡ f p.0 p.1
unfolding reach
reach_one f s bytes n p e = rw e refl

stays : {S K : Type 0} (f : S → List ℕ → Result (S × List ℕ) K) (s : S) (bytes : List ℕ) (n k : ℕ) (e : K)
    → reach f s bytes n ≡ Err e → reach f s bytes (k + n) ≡ Err e
unfolding reach
stays f s bytes n zero e h = let z : 0 + n ≡ n = omega arith in rw z h
stays f s bytes n (suc k) e h = let z : suc k + n ≡ suc (k + n) = omega arith in rw (z, stays f s bytes n k e h) refl

abbrev ok_of : {A K : Type 0} → A → Result A K
ok_of q = Ok q

apart : {A K : Type 0} (q : A) (e : K) → ok_of {K = K} q ≡ Err e → ⊥
apart q e h = absurd cc

-- after a fault nothing is reached
pub no_later : {S K : Type 0} (f : S → List ℕ → Result (S × List ℕ) K) (s : S) (bytes : List ℕ) (n m : ℕ)
    (p q : S × List ℕ) (e : K) → reach f s bytes n ≡ Ok p → f p.0 p.1 ≡ Err e → n < m → reach f s bytes m ≡ Ok q → ⊥
no_later f s bytes n m p q e h fault lt other =
    let k : m ≡ (m - suc n) + suc n = omega arith in
    let last : reach f s bytes ((m - suc n) + suc n) ≡ Err e = stays f s bytes (suc n) (m - suc n) e (reach_one f s bytes n p h ∙ fault) in
    apart q e (sym other ∙ ap (reach f s bytes) k ∙ last)

pub ok_is : {A K : Type 0} (x y : A) → ok_of {K = K} x ≡ ok_of y → x ≡ y
ok_is x y e = cc

-- ---- the first step first

abbrev pub then_reach : {S K : Type 0} → (S → List ℕ → Result (S × List ℕ) K) → ℕ → Result (S × List ℕ) K
    → Result (S × List ℕ) K
then_reach f n (Ok p) = reach f p.0 p.1 n
then_reach f n (Err e) = Err e

then_none : {S K : Type 0} (f : S → List ℕ → Result (S × List ℕ) K) (r : Result (S × List ℕ) K)
    → r ≡ then_reach f zero r
unfolding reach
then_none f (Ok p) = refl
then_none f (Err e) = refl

then_more : {S K : Type 0} (f : S → List ℕ → Result (S × List ℕ) K) (n : ℕ) (r : Result (S × List ℕ) K)
    → onward f (then_reach f n r) ≡ then_reach f (suc n) r
unfolding reach
then_more f n (Ok p) = refl
then_more f n (Err e) = refl

pub reach_front : {S K : Type 0} (f : S → List ℕ → Result (S × List ℕ) K) (s : S) (bytes : List ℕ) (n : ℕ)
    → reach f s bytes (suc n) ≡ then_reach f n (f s bytes)
unfolding reach
reach_front f s bytes zero = then_none f (f s bytes)
reach_front f s bytes (suc n) = ap (onward f) (reach_front f s bytes n) ∙ then_more f n (f s bytes)

pub then_takes : {S K : Type 0} (f : S → List ℕ → Result (S × List ℕ) K) (n : ℕ) (r : Result (S × List ℕ) K)
    (q : S × List ℕ) → then_reach f n r ≡ Ok q → (p : S × List ℕ) × (r ≡ Ok p) × (reach f p.0 p.1 n ≡ Ok q)
then_takes f n (Ok p) q h = (p, refl, h)
then_takes f n (Err e) q h = absurd cc
