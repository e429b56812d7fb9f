-- Why the bytes of an input are no data set.
use Rattle.std.specs.Prelude.{◌≤◌, ℕ, List, length}
use Rattle.ssim_records.specs.SetFaults.{IsFirstFault}
use Rattle.ssim_records.specs.SetText.{IsDataSet}
use Rattle.ssim_records.specs.declared.set.DataSet.{DataSet}
use Rattle.ssim_records.specs.declared.set_fault.SetFault.{SetFault}
use Rattle.seat_desk.specs.declared.fault.DeskFault.{DeskFault}
use Rattle.seat_desk.specs.declared.fault.DeskFault.TheVariants.{Set}

-- 256 MiB
abbrev pub most_set_bytes : ℕ
most_set_bytes = 268_435_456

-- the most numbered records, as many as six digits count
abbrev pub most_records : ℕ
most_records = 999_999

-- the bytes are not too large, but they are no data set, and the fault is their first
pub record IsNoSet (fault : SetFault) (bytes : List ℕ) : Type 0 where
  pub within : length bytes ≤ most_set_bytes
  pub first : IsFirstFault most_records bytes fault.nth fault.kind
  pub none : (set : DataSet) → IsDataSet most_records bytes set → ⊥

abbrev pub IsRefusedSet : DeskFault → List ℕ → Type 0
IsRefusedSet (Set fault) bytes = IsNoSet fault bytes
IsRefusedSet _ bytes = ⊥
