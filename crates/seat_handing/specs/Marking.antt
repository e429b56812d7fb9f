-- The mark: in a journal's own entry, that its bookings were carried to another journal.
use Rattle.std.specs.Prelude.{◌≡◌, ◌⊎◌, ℕ, List, ◌∷◌, ◌++◌, Some}
use Rattle.seat_seal.specs.Eras.{carried_to}
use Rattle.seat_seal.specs.Imprints.{imprint_of}
use Rattle.seat_seal.specs.Reading.{one_entry}
use Rattle.seat_seal.specs.Rules.{IsSeal}
use Rattle.seat_seal.specs.Text.{newline}
use Rattle.seat_seal.specs.declared.imprint.Imprint.{Imprint}
use Rattle.seat_seal.specs.declared.seal.Sealed.{Sealed as Belonging}
use Rattle.seat_seal.specs.declared.seal.SealEntry.TheVariants.{Sealed}
use Rattle.seat_sealing.specs.Steps.{alone_text}

-- what a mark has of the newer journal: the imprint of its name, a line of its own, and its text. So the same text under another name is another journal.
-- Where several newer journals each take a part, the name is one for all of them and the text that of all: so each part has the same mark
abbrev pub mark_of : List ℕ → List ℕ → Imprint
mark_of name text = imprint_of (name ++ newline ∷ text)

-- the same entry, of a journal whose bookings were carried to the one of this mark
abbrev pub marked : Belonging → Imprint → Belonging
marked entry mark = record entry { era = carried_to entry.era mark }

-- the seal of that entry alone
abbrev pub mark_text : Belonging → Imprint → List ℕ
mark_text entry mark = alone_text (marked entry mark)

-- the text is that of a seal which says that the bookings were carried to the journal of this mark
pub record SaysCarried (mark : Imprint) (seal : List ℕ) : Type 0 where
  pub entry : Belonging
  pub is_seal : IsSeal (one_entry (Sealed entry))
  pub is_text : seal ≡ alone_text entry
  pub carried : entry.era.carried ≡ Some mark

-- whatever a crash leaves of both: the newer journal's file is as it might have been left before, or the older one's seal says that its bookings were
-- carried to the newer one. So at no moment may both be sold from
pub record NeverBoth (mark : Imprint) (journals_old journals_new seals_new : List ℕ → Type 0) : Type 0 where
  pub each : (journal seal : List ℕ) → journals_new journal → seals_new seal → journals_old journal ⊎ SaysCarried mark seal
