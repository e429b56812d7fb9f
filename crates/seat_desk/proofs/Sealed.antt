-- What agrees with the digests of what was read agrees with those of the inputs.
use Rattle.std.proofs.Common.{◌≡◌, ℕ, Bool, List, Option, Some, None, subst, refl}
use Rattle.std.specs.Prelude.{IsTrue, is_some, option_map}
use Rattle.seat_seal.specs.Besides.{IsFaultBeside, IsFaultFrom, IsFaultOfText}
use Rattle.seat_seal.specs.declared.beside.Basis.{Basis}
use Rattle.seat_seal.specs.declared.beside.Beside.{Beside}
use Rattle.seat_seal.specs.declared.comparing.SealFault.{SealFault}
use Rattle.seat_desk.specs.Sealing.{IsBesideFault}
use Rattle.seat_desk.specs.declared.fault.DeskFault.{DeskFault}
use Rattle.seat_desk.specs.declared.fault.DeskFault.TheVariants.{Seal}

module _ {R : Type 0} (now : R → List ℕ) (wanted : Bool) (journal : List ℕ) (fault : Option SealFault) (x y : Basis) where
  from : (text : Option R) → (IsTrue (is_some text) → x ≡ y) → IsFaultFrom wanted (option_map now text) x journal fault
      → IsFaultFrom wanted (option_map now text) y journal fault
  from None same h = h
  from (Some t) same h = subst (λ (b : Basis). IsFaultOfText (now t) b journal fault) (same refl) h

-- digests that were taken where there is a seal are as good
pub based : (beside : Beside) (journal : List ℕ) (fault : Option SealFault) (x y : Basis)
    → (IsTrue (is_some beside.text) → x ≡ y) → IsFaultBeside beside x journal fault
    → IsFaultBeside beside y journal fault
based beside journal fault x y same h = from (λ text. text.now) beside.is_wanted journal fault x y beside.text same h

pub fault_based : (beside : Beside) (journal : List ℕ) (fault : DeskFault) (x y : Basis)
    → (IsTrue (is_some beside.text) → x ≡ y) → IsBesideFault beside x journal fault
    → IsBesideFault beside y journal fault
fault_based beside journal (Seal fault) x y same h = based beside journal (Some fault) x y same h
fault_based beside journal _ x y same h = absurd h
