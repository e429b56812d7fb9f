-- What a run booked is known by the seal of its journal.
use Rattle.std.specs.Prelude.{◌≡◌, ◌<◌, ◌++◌, ◌∷◌, ℕ, true, List, length, map, Option, None}
use Rattle.seat_seal.specs.Booked.{changes_booked, is_booked, scripts_booked}
use Rattle.seat_seal.specs.declared.beside.Basis.{Basis}
use Rattle.seat_seal.specs.declared.imprint.Imprint.{Imprint}
use Rattle.seat_seal.specs.declared.known.Carried.{Carried}
use Rattle.seat_seal.specs.declared.seal.Sealed.{Sealed as Belonging}
use Rattle.seat_scripts.specs.SealedRun.{IsEntryOfRun}
use Rattle.seat_scripts.specs.TextImprints.{text_imprint}

-- each script that a run had and that has a byte, itself and with more behind it
abbrev pub ScriptsAreKnown : Type 0
ScriptsAreKnown =
    (basis : Basis) (before after : List (List ℕ)) (text more : List ℕ) (changes : Option Imprint) (behind lines today : ℕ)
    (earlier : Carried) (journal : List ℕ) (entry : Belonging) → 0 < length text →
    IsEntryOfRun basis (map text_imprint (before ++ text ∷ after)) changes behind lines today earlier journal entry →
    is_booked (scripts_booked None entry.runs) (text ++ more) ≡ true

-- and its changes
abbrev pub ChangesAreKnown : Type 0
ChangesAreKnown =
    (basis : Basis) (scripts : List (Option Imprint)) (text more : List ℕ) (behind lines today : ℕ) (earlier : Carried)
    (journal : List ℕ) (entry : Belonging) → 0 < length text →
    IsEntryOfRun basis scripts (text_imprint text) behind lines today earlier journal entry →
    is_booked (changes_booked None entry.runs) (text ++ more) ≡ true
