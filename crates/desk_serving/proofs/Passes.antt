-- A line that is heard behind those that were answered where they were read.
use Rattle.std.proofs.Common.{◌≡◌, ℕ, ◌==◌, List, arith, refl, sym, ap, subst}
use Rattle.std.proofs.lemmas.Bool.Decides.{nat_tests}
use Rattle.std.specs.Prelude.{Bool, true, false, Result, Ok, Err, IfOk}
use Rattle.desk_hall.specs.Halls.{Hallful, IsHeardBy, IsOrdered, IsPassed}
use Rattle.desk_serving.specs.Going.{IsHeardAs, IsHeardBehind}

pub not_zero : (n : ℕ) → (n ≡ 0 → ⊥) → (n == 0) ≡ false
not_zero n other = grind (arith, nat_tests)

module _ {D : Type 0} (is_earlier : Bool) (old mid new : Hallful D) (session passed : ℕ) (line : List ℕ)
    (ahead : IsPassed old mid session passed) where
  heard : (goes : Bool) → IsHeardAs (session == 0) is_earlier mid new session line goes
      → IsHeardBehind is_earlier old new session passed line goes
  heard goes is = record { mid = mid; is_passed = ahead; is_heard = is }

  -- a line of the manager
  pub ordered_behind : {E : Type 0} (r : Result Bool E) → session ≡ 0 → IfOk r (IsOrdered is_earlier mid new line)
      → IfOk r (IsHeardBehind is_earlier old new session passed line)
  ordered_behind (Ok goes) none is =
      heard goes (subst (λ (b : Bool). IsHeardAs b is_earlier mid new session line goes) (sym (ap (λ (n : ℕ). n == 0) none)) is)
  ordered_behind (Err e) none is = tt

  -- a line of a session's desk
  pub heard_behind : (session ≡ 0 → ⊥) → IsHeardBy mid new session line
      → IsHeardBehind is_earlier old new session passed line true
  heard_behind other is =
      heard true (subst (λ (b : Bool). IsHeardAs b is_earlier mid new session line true) (sym (not_zero session other)) (is, refl))
