-- Reading in steps: each takes some bytes from the front and goes on to another state, or is a fault.
use Rattle.std.specs.Prelude.{◌≡◌, ℕ, zero, suc, ◌-◌, ◌≤◌, List, [], ◌∷◌, Option, Some, None, Result, Ok, Err}

abbrev pub onward : {S K : Type 0} → (S → List ℕ → Result (S × List ℕ) K) → Result (S × List ℕ) K
    → Result (S × List ℕ) K
onward next (Ok p) = next p.0 p.1
onward next (Err e) = Err e

-- the state and the bytes that n steps leave
unfoldable pub reach : {S K : Type 0} → (S → List ℕ → Result (S × List ℕ) K) → S → List ℕ → ℕ → Result (S × List ℕ) K
reach next s bytes zero = Ok (s, bytes)
reach next s bytes (suc n) = onward next (reach next s bytes n)

abbrev pub fault_of : {S K : Type 0} → Result (S × List ℕ) K → Option K
fault_of (Err kind) = Some kind
fault_of (Ok p) = None

-- the fault of the next step, or of the end of the bytes
abbrev pub fault_at : {S K : Type 0} → (S → List ℕ → Result (S × List ℕ) K) → (S → Option K) → S → List ℕ → Option K
fault_at next at_end s [] = at_end s
fault_at next at_end s (c ∷ rest) = fault_of (next s (c ∷ rest))

-- the steps before the nth have no fault, and this is the first one of the nth
abbrev pub IsFirst : {S K : Type 0} → (S → List ℕ → Result (S × List ℕ) K) → (S → Option K) → S → List ℕ → ℕ → K
    → Type 0
IsFirst {S = S} next at_end first bytes nth kind =
    (s : S) × (rest : List ℕ) × (1 ≤ nth) × (reach next first bytes (nth - 1) ≡ Ok (s, rest))
    × (fault_at next at_end s rest ≡ Some kind)
