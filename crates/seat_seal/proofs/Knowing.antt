-- What a seal knows of a journal, by the entry that is compared, and that it is one.
use Rattle.std.proofs.Common.{◌≡◌, ◌⊎◌, ⊎_elim, inl, inr, ℕ, List, Option, Some, None, sym, ap, ◌∙◌}
use Rattle.std.specs.Prelude.{option_map}
use Rattle.airline_base.proofs.Tests.{none_some}
use Rattle.seat_seal.specs.Besides.{entry_of}
use Rattle.seat_seal.specs.Rules.{IsSeal}
use Rattle.seat_seal.specs.Text.{seal_text}
use Rattle.seat_seal.specs.declared.seal.Seal.{Seal}
use Rattle.seat_seal.specs.declared.seal.Sealed.{Sealed as Belonging}
use Rattle.seat_seal.specs.Known.{IsKnownBy, IsKnownByNone, IsKnownFrom, OneIsKnown, known_in}
use Rattle.seat_seal.proofs.EntryLaws.{one_seal}

pub known_by : (text journal : List ℕ) (seal : Seal) (known : Option Belonging) → IsSeal seal → text ≡ seal_text seal
    → known ≡ known_in (entry_of seal journal)
    → IsKnownByNone text known ⊎ IsKnownBy text journal known
known_by text journal seal known is same entry =
    inr (record { seal = seal; is_seal = is; is_text = same; known_is = entry })

pub known_by_none : (text journal : List ℕ) (read : Option Seal) (known : Option Belonging) → read ≡ None
    → ((seal : Seal) → IsSeal seal → text ≡ seal_text seal → read ≡ Some seal) → known ≡ None
    → IsKnownByNone text known ⊎ IsKnownBy text journal known
known_by_none text journal read known is only nothing = inl (record {
  none = λ (seal : Seal) (keeps : IsSeal seal) (same : text ≡ seal_text seal). none_some seal (sym is ∙ only seal keeps same);
  nothing = nothing;
})

-- ---- what is known is one

one_from : (text : Option (List ℕ)) (journal : List ℕ) (a b : Option Belonging) → IsKnownFrom text journal a
    → IsKnownFrom text journal b → a ≡ b
one_from None journal a b x y = x ∙ sym y
one_from (Some text) journal a b x y = ⊎_elim
    (λ (n : IsKnownByNone text a). ⊎_elim
    (λ (m : IsKnownByNone text b). n.nothing ∙ sym m.nothing)
    (λ (k : IsKnownBy text journal b). absurd (n.none k.seal k.is_seal k.is_text))
    y)
    (λ (h : IsKnownBy text journal a). ⊎_elim
    (λ (m : IsKnownByNone text b). absurd (m.none h.seal h.is_seal h.is_text))
    (λ (k : IsKnownBy text journal b). h.known_is
    ∙ (ap (λ (s : Seal). known_in (entry_of s journal)) (one_seal h.seal k.seal h.is_seal k.is_seal (sym h.is_text ∙ k.is_text))
    ∙ sym k.known_is))
    y)
    x

pub one_known : OneIsKnown
one_known beside journal a b x y = one_from (option_map (λ text. text.now) beside.text) journal a b x y
