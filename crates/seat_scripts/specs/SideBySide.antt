-- What is found place by place, on threads of their own.
use Rattle.std.specs.Prelude.{◌≡◌, ◌<◌, ℕ, List, length, IfOk, Result, Some, slice_get, slice_index_or}

-- as many as are wanted, and each that could be had is the wanted one of its place
pub record AreFound {A E : Type 0} (wanted : List A) (found : List (Result A E)) : Type 0 where
  pub count : length found ≡ length wanted
  pub each : (i : ℕ) (d : Result A E) → i < length wanted → IfOk (slice_index_or found i d) (λ x. slice_get wanted i ≡ Some x)
