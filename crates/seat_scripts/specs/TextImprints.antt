-- The imprints of texts, as a seal names them.
use Rattle.std.specs.Prelude.{◌≡◌, ◌++◌, ◌==◌, ℕ, List, length, Option, None, Some, IfSome, if◌then◌else◌}
use Rattle.std.specs.List.{AllZip}
use Rattle.seat_seal.specs.Imprints.{imprint_of}
use Rattle.seat_seal.specs.declared.imprint.Imprint.{Imprint}

-- of a text that has a byte; one without asks for nothing, and is not named
abbrev pub text_imprint : List ℕ → Option Imprint
text_imprint bytes = if length bytes == 0 then None else Some (imprint_of bytes)

-- where the bytes are known
abbrev pub IsImprintOf : Option (List ℕ) → Option Imprint → Type 0
IsImprintOf text imprint = IfSome text (λ bytes. imprint ≡ text_imprint bytes)

-- text by text
abbrev pub AreImprints : List (Option (List ℕ)) → List (Option Imprint) → Type 0
AreImprints texts imprints = AllZip IsImprintOf texts imprints

-- such imprints are taken behind those before
pub record AreTakenOn (texts : List (Option (List ℕ))) (old new : List (Option Imprint)) : Type 0 where
  pub added : List (Option Imprint)
  pub are_imprints : AreImprints texts added
  pub written : new ≡ old ++ added
