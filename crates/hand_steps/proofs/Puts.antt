-- One file that is replaced whole.
use Rattle.std.proofs.Common.{◌≡◌, ◌⊎◌, ℕ, List, Option}
use Rattle.seat_disk.specs.Leaving.{Only, Within, replaced_by}
use Rattle.seat_sealing.specs.Steps.{Counted}
use Rattle.hand_steps.specs.Steps.{HasFailed, HasFailedAhead, IsReplaced}

module _ {F : Type 0} (failures : F → ℕ) (named : F → Option (List ℕ)) (leaves : F → List ℕ → Type 0) (bytes : List ℕ) (old new : F) where
  pub replaced : named new ≡ replaced_by (named old) bytes → Only bytes (leaves new) → failures new ≡ failures old
      → IsReplaced failures named leaves bytes old new
  replaced is kept same = record { is_named = is; kept = kept; same = same }

  pub failed : Counted failures old new → (named new ≡ named old) ⊎ (named new ≡ replaced_by (named old) bytes)
      → HasFailed failures named bytes old new
  failed counted either = record { counted = counted; either = either }

pub failed_ahead : {F : Type 0} (failures : F → ℕ) (named : F → Option (List ℕ)) (leaves : F → List ℕ → Type 0) (old new : F) → Counted failures old new
    → named new ≡ named old → Within (leaves new) (leaves old) → HasFailedAhead failures named leaves old new
failed_ahead failures named leaves old new counted is less = record { counted = counted; is_named = is; no_more = less }
