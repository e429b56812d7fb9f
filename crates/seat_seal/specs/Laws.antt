-- Laws of the definitions.
use Rattle.std.specs.Prelude.{◌≡◌, ◌<◌, ◌++◌, ℕ, true, List, length}
use Rattle.seat_seal.specs.declared.seal.Seal.{Seal}
use Rattle.seat_seal.specs.Booked.{begins_with}
use Rattle.seat_seal.specs.Imprints.{imprint_of}
use Rattle.seat_seal.specs.Rules.{IsSeal}
use Rattle.seat_seal.specs.Text.{seal_text}

-- two seals with the same text are the same
abbrev pub OneSeal : Type 0
OneSeal = (a b : Seal) → IsSeal a → IsSeal b → seal_text a ≡ seal_text b → a ≡ b

-- a text that was booked is known again, itself and with more behind it
abbrev pub GrownIsKnown : Type 0
GrownIsKnown = (text more : List ℕ) → 0 < length text → begins_with (text ++ more) (imprint_of text) ≡ true
