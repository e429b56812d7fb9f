-- What is done where a journal is carried to another.
use Rattle.std.proofs.Common.{◌≡◌, ℕ, Bool, List, Option, Some, None, IfSome}
use Rattle.std.specs.Prelude.{Result}
use Rattle.airline_base.proofs.Tests.{none_some}
use Rattle.seat_seal.specs.Rules.{IsSeal}
use Rattle.seat_seal.specs.Text.{seal_text}
use Rattle.seat_seal.specs.declared.imprint.Imprint.{Imprint}
use Rattle.seat_seal.specs.declared.seal.Seal.{Seal}
use Rattle.seat_sealing.specs.Older.{IsSealIn}
use Rattle.seat_handing.specs.Deciding.{IsHand, hand_for}
use Rattle.seat_handing.specs.declared.deciding.Hand.{Hand}
use Rattle.seat_handing.specs.declared.deciding.HandRefusal.{HandRefusal}

-- what is read is the seal in the text
pub read_in : (text : List ℕ) (read : Option Seal) → IfSome read (λ seal. IsSeal seal × (text ≡ seal_text seal))
    → ((seal : Seal) → IsSeal seal → text ≡ seal_text seal → read ≡ Some seal) → IsSealIn (Some text) read
read_in text None found only = λ seal is same. none_some seal (only seal is same)
read_in text (Some seal) found only = found

pub hand_is : (carried : Option Imprint) (name whole : List ℕ) (there beside : Option (List ℕ)) (seal : Option Seal) (text : List ℕ) (anew : Bool)
    (answer : Result (Option Hand) HandRefusal) → IsSealIn beside seal → answer ≡ hand_for carried name whole there seal text anew
    → IsHand carried name whole there beside text anew answer
hand_is carried name whole there beside seal text anew answer is_in is = record { seal = seal; is_in = is_in; answer_is = is }
