-- What is known of a journal beside a seal with the mark.
use Rattle.std.proofs.Common.{◌≡◌, ◌⊎◌, inl, inr, ℕ, true, List, Option, Some, None, refl, sym, ap, subst, ◌∙◌}
use Rattle.std.specs.Prelude.{is_some, option_map}
use Rattle.seat_seal.specs.Besides.{entry_of}
use Rattle.seat_seal.specs.Eras.{is_carried}
use Rattle.seat_seal.specs.Known.{IsKnown, IsKnownBy, IsKnownByNone, IsKnownFrom, era_known, known_in}
use Rattle.seat_seal.specs.Reading.{one_entry}
use Rattle.seat_seal.specs.declared.beside.Beside.{Beside}
use Rattle.seat_seal.specs.declared.imprint.Imprint.{Imprint}
use Rattle.seat_seal.specs.declared.seal.Seal.{Seal}
use Rattle.seat_seal.specs.declared.seal.Sealed.{Sealed as Belonging}
use Rattle.seat_seal.specs.declared.seal.SealEntry.TheVariants.{Sealed}
use Rattle.seat_seal.proofs.EntryLaws.{one_seal}
use Rattle.seat_handing.specs.Laws.{MarkIsKnown}
use Rattle.seat_handing.specs.Marking.{SaysCarried}

known_is : (newer : Imprint) (seal : List ℕ) (says : SaysCarried newer seal) (journal : List ℕ) (known : Option Belonging)
    → IsKnownFrom (Some seal) journal known → known ≡ Some says.entry
known_is newer seal says journal known (inl none) = absurd (none.none (one_entry (Sealed says.entry)) says.is_seal says.is_text)
known_is newer seal says journal known (inr k) =
    k.known_is ∙ ap (λ (s : Seal). known_in (entry_of s journal)) (one_seal k.seal (one_entry (Sealed says.entry)) k.is_seal says.is_seal (sym k.is_text ∙ says.is_text))

pub mark_is_known : MarkIsKnown
mark_is_known newer seal says beside stands journal known is =
    let from : IsKnownFrom (Some seal) journal known = subst (λ (t : Option (List ℕ)). IsKnownFrom t journal known) stands is in
    ap (λ (k : Option Belonging). is_carried (era_known k)) (known_is newer seal says journal known from)
    ∙ ap (λ (o : Option Imprint). is_some o) says.carried
