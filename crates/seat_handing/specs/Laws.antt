-- Laws of the definitions.
use Rattle.std.specs.Prelude.{◌≡◌, ℕ, true, List, Option, Some, option_map}
use Rattle.seat_seal.specs.Eras.{is_carried}
use Rattle.seat_seal.specs.Known.{IsKnown, era_known}
use Rattle.seat_seal.specs.declared.beside.Beside.{Beside}
use Rattle.seat_seal.specs.declared.imprint.Imprint.{Imprint}
use Rattle.seat_seal.specs.declared.seal.Sealed.{Sealed as Belonging}
use Rattle.seat_handing.specs.Marking.{SaysCarried}

-- beside a seal that says so every journal is known as one whose bookings were carried: so no command goes on from it
abbrev pub MarkIsKnown : Type 0
MarkIsKnown =
    (newer : Imprint) (seal : List ℕ) → SaysCarried newer seal → (beside : Beside) → option_map (λ text. text.now) beside.text ≡ Some seal
    → (journal : List ℕ) (known : Option Belonging) → IsKnown beside journal known → is_carried (era_known known) ≡ true
