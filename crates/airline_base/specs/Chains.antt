-- Chains of fields, with the first fault that is met.
use Rattle.std.specs.Prelude.{Bool, true, false, Option, Some, None, Result, Ok, Err}

infixl 10 ◌>>=◌
abbrev pub ◌>>=◌ : {A B K : Type 0} → Result A K → (A → Result B K) → Result B K
(Ok x) >>= f = f x
(Err e) >>= f = Err e

-- the field, or this fault
abbrev pub want : {A K : Type 0} → K → Option A → Result A K
want fault None = Err fault
want fault (Some x) = Ok x

abbrev pub check : {K : Type 0} → K → Bool → Result (Unit {0}) K
check fault true = Ok tt
check fault false = Err fault
