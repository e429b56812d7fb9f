-- One file that is replaced whole, and how far it was where it failed.
use Rattle.std.specs.Prelude.{◌≡◌, ◌⊎◌, ℕ, List, Option}
use Rattle.seat_disk.specs.Leaving.{Only, Within, replaced_by}
use Rattle.seat_sealing.specs.Steps.{Counted}

-- the file has these bytes, and a crash leaves nothing else
pub record IsReplaced {F : Type 0} (failures : F → ℕ) (named : F → Option (List ℕ)) (leaves : F → List ℕ → Type 0) (bytes : List ℕ)
    (old new : F) : Type 0 where
  pub is_named : named new ≡ replaced_by (named old) bytes
  pub kept : Only bytes (leaves new)
  pub same : failures new ≡ failures old

-- it failed, and has what it had, or these bytes
pub record HasFailed {F : Type 0} (failures : F → ℕ) (named : F → Option (List ℕ)) (bytes : List ℕ) (old new : F) : Type 0 where
  pub counted : Counted failures old new
  pub either : (named new ≡ named old) ⊎ (named new ≡ replaced_by (named old) bytes)

-- it failed ahead of its name: that has what it had, and a crash leaves no more of it
pub record HasFailedAhead {F : Type 0} (failures : F → ℕ) (named : F → Option (List ℕ)) (leaves : F → List ℕ → Type 0) (old new : F) : Type 0
  where
    pub counted : Counted failures old new
    pub is_named : named new ≡ named old
    pub no_more : Within (leaves new) (leaves old)
