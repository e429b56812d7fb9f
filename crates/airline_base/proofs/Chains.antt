-- Chains of fields.
use Rattle.std.proofs.Common.{◌≡◌, Bool, true, false, Option, Some, None, Result, Ok, Err, refl, ap}
use Rattle.airline_base.specs.Chains.{◌>>=◌, want, check}

-- ---- a step that was taken, and what follows it

pub with_want : {A B C K : Type 0} (fault : K) (o : Option A) (f : A → Result B K) (y : B) → (want fault o >>= f) ≡ Ok y
    → ((x : A) → o ≡ Some x → f x ≡ Ok y → C) → C
with_want fault None f y e k = absurd cc
with_want fault (Some x) f y e k = k x refl e

pub with_check : {B C K : Type 0} (fault : K) (b : Bool) (f : Unit {0} → Result B K) (y : B)
    → (check fault b >>= f) ≡ Ok y → (b ≡ true → f tt ≡ Ok y → C) → C
with_check fault true f y e k = k refl e
with_check fault false f y e k = absurd cc

pub with_step : {A B C K : Type 0} (r : Result A K) (f : A → Result B K) (y : B) → (r >>= f) ≡ Ok y
    → ((x : A) → r ≡ Ok x → f x ≡ Ok y → C) → C
with_step (Err fault) f y e k = absurd cc
with_step (Ok x) f y e k = k x refl e

-- ---- a fault that no step of a chain has

abbrev pub refusal : {A K : Type 0} → K → Result A K
refusal fault = Err fault

pub fault_is : {A K : Type 0} (a b : K) → refusal {A = A} a ≡ refusal b → a ≡ b
fault_is a b e = cc

pub want_none : {A B K : Type 0} {other : K} (fault : K) (o : Option A) (f : A → Result B K)
    → (want fault o >>= f) ≡ Err other → (fault ≡ other → ⊥) → ((x : A) → f x ≡ Err other → ⊥) → ⊥
want_none {B = B} {other = other} fault None f e apart k = apart (fault_is {A = B} fault other e)
want_none fault (Some x) f e apart k = k x e

pub check_none : {B K : Type 0} {other : K} (fault : K) (b : Bool) (f : Unit {0} → Result B K)
    → (check fault b >>= f) ≡ Err other → (fault ≡ other → ⊥) → (f tt ≡ Err other → ⊥) → ⊥
check_none fault true f e apart k = k e
check_none {B = B} {other = other} fault false f e apart k = apart (fault_is {A = B} fault other e)

pub step_none : {A B K : Type 0} {other : K} (r : Result A K) (f : A → Result B K) → (r >>= f) ≡ Err other
    → (r ≡ Err other → ⊥) → ((x : A) → f x ≡ Err other → ⊥) → ⊥
step_none (Ok x) f e none k = k x e
step_none {A = A} {B = B} {other = other} (Err fault) f e none k = none (ap (refusal {A = A}) (fault_is {A = B} fault other e))
