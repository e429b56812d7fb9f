-- Which journals a sealed one stands for: the journal itself, and where more lines may come each that begins with it.
use Rattle.std.proofs.Common.{◌≡◌, ℕ, true, List, ◌++◌, length, take, refl, ap, ◌∙◌}
use Rattle.std.proofs.lemmas.Bool.{eq-eqb}
use Rattle.std.proofs.lemmas.List.{length-take, take_at, take_min}
use Rattle.std.proofs.lemmas.Slice.Eq.{bytes_eq-Decides}
use Rattle.airline_base.specs.Bytes.{same_text}
use Rattle.airline_base.proofs.Tests.{both_are}
use Rattle.seat_seal.specs.declared.imprint.Imprint.{Imprint}
use Rattle.seat_seal.specs.declared.seal.JournalState.{JournalState}
use Rattle.seat_seal.specs.declared.seal.JournalState.TheVariants.{Open, Closed}
use Rattle.seat_seal.specs.declared.seal.SealedJournal.{SealedJournal}
use Rattle.seat_seal.specs.Comparing.{is_sealed_one, same_imprint}
use Rattle.seat_seal.specs.Fronts.{front_in, front_len, front_of}
use Rattle.seat_seal.specs.Imprints.{imprint_of}

same_digest : (d : List ℕ) → same_text d d ≡ true
same_digest d = (bytes_eq-Decides d d).1 refl

pub itself : (i : Imprint) → same_imprint i i ≡ true
itself i = both_are _ _ (same_digest i.digest) (eq-eqb i.bytes i.bytes refl)

pub same_is : (i j : Imprint) → i ≡ j → same_imprint i j ≡ true
same_is i j same = rw same (itself j)

front_again : (n : ℕ) (xs : List ℕ) → take (length (take n xs)) xs ≡ take n xs
front_again n xs = rw (length-take n xs) (take_min n xs)

-- an open journal of which nothing else was written has its own front
own_front : (state : JournalState) (imprint : Imprint) (journal : List ℕ) → imprint ≡ imprint_of (front_of journal)
    → front_in state imprint.bytes journal ≡ front_of journal
own_front Closed imprint journal same = refl
own_front Open imprint journal same =
    ap (λ (i : Imprint). take i.bytes journal) same ∙ front_again (front_len journal) journal

pub is_itself : (sealed : SealedJournal) (journal : List ℕ) → sealed.imprint ≡ imprint_of (front_of journal)
    → is_sealed_one sealed journal ≡ true
is_itself sealed journal same =
    ap (λ (front : List ℕ). same_imprint sealed.imprint (imprint_of front)) (own_front sealed.state sealed.imprint journal same)
    ∙ same_is sealed.imprint (imprint_of (front_of journal)) same

-- ---- more lines

open_front : (state : JournalState) (imprint : Imprint) (begun more : List ℕ) → state ≡ Open → imprint ≡ imprint_of begun
    → front_in state imprint.bytes (begun ++ more) ≡ begun
open_front state imprint begun more is_open same =
    ap (λ (s : JournalState). front_in s imprint.bytes (begun ++ more)) is_open
    ∙ (ap (λ (i : Imprint). take i.bytes (begun ++ more)) same ∙ take_at begun more (length begun) refl)

pub begins_so : (sealed : SealedJournal) (begun more : List ℕ) → sealed.state ≡ Open → sealed.imprint ≡ imprint_of begun
    → is_sealed_one sealed (begun ++ more) ≡ true
begins_so sealed begun more is_open same =
    ap (λ (front : List ℕ). same_imprint sealed.imprint (imprint_of front)) (open_front sealed.state sealed.imprint begun more is_open same)
    ∙ same_is sealed.imprint (imprint_of begun) same
