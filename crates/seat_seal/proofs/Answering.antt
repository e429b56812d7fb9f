-- What the reader answers.
use Rattle.std.proofs.Common.{◌≡◌, ℕ, Bool, true, false, List, Option, Some, None, sym, ap, ◌∙◌}
use Rattle.std.proofs.lemmas.Slice.Eq.{bytes_eq-Decides}
use Rattle.airline_base.specs.Bytes.{same_text}
use Rattle.airline_base.proofs.Tests.{some_is, none_some}
use Rattle.seat_seal.specs.declared.seal.Seal.{Seal}
use Rattle.seat_seal.specs.Rules.{is_seal, IsSeal}
use Rattle.seat_seal.specs.Text.{seal_text}
use Rattle.seat_seal.specs.Reading.{seal_at}
use Rattle.seat_seal.proofs.EntryLaws.{seal_again}

-- what is a seal's text is read as that seal
reads : (bytes : List ℕ) (s : Seal) → IsSeal s → bytes ≡ seal_text s → seal_at bytes ≡ Some s
reads bytes s is text = ap seal_at text ∙ seal_again s is

pub not_none : (bytes : List ℕ) (r : Option Seal) (s : Seal) → r ≡ seal_at bytes → r ≡ None → IsSeal s
    → bytes ≡ seal_text s → ⊥
not_none bytes r s e none is text = none_some s (sym none ∙ e ∙ reads bytes s is text)

pub is_that : (bytes : List ℕ) (r : Option Seal) (read s : Seal) → r ≡ seal_at bytes → r ≡ Some read → IsSeal s
    → bytes ≡ seal_text s → read ≡ s
is_that bytes r read s e some is text = some_is read s (sym some ∙ e ∙ reads bytes s is text)

false_true : (b : Bool) → b ≡ false → b ≡ true → ⊥
false_true b h k = let bad : false ≡ true = sym h ∙ k in absurd cc

pub keeps_rules : (read s : Seal) → read ≡ s → IsSeal s → is_seal read ≡ false → ⊥
keeps_rules read s same is other = false_true (is_seal read) other (ap is_seal same ∙ is.rules)

pub text_is : (bytes : List ℕ) (read : Seal) → same_text (seal_text read) bytes ≡ true → bytes ≡ seal_text read
text_is bytes read h = sym ((bytes_eq-Decides (seal_text read) bytes).0 h)

pub has_text : (bytes : List ℕ) (read s : Seal) → read ≡ s → bytes ≡ seal_text s
    → same_text (seal_text read) bytes ≡ false → ⊥
has_text bytes read s same text other =
    false_true (same_text (seal_text read) bytes) other ((bytes_eq-Decides (seal_text read) bytes).1 (ap seal_text same ∙ sym text))
