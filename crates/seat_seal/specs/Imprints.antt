-- Imprints.
use Rattle.std.specs.Prelude.{◌≡◌, ℕ, List, length}
use Rattle.sha2.specs.Sha256.{sha256}
use Rattle.sha2.specs.Hashers.{Holds256}
use Rattle.seat_seal.specs.declared.imprint.Imprint.{Imprint}
use Rattle.seat_seal.specs.declared.imprint.Tally.{Tally}

-- the digest of the bytes, and their count
abbrev pub imprint_of : List ℕ → Imprint
imprint_of bytes = record { digest = sha256 bytes; bytes = length bytes }

-- a tally that has taken these bytes
pub record HasTaken (tally : Tally) (taken : List ℕ) : Type 0 where
  pub digest : Holds256 tally.hasher taken
  pub count : tally.bytes ≡ length taken
