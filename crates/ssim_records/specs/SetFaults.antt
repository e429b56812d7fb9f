-- What the reading of a data set comes to: its value, its first fault, or want of memory.
use Rattle.std.specs.Prelude.{◌⊎◌, ◌≡◌, ℕ, ◌+◌, ◌-◌, ◌≤◌, List, [], length, Option, Some, None, Result, Ok, Err}
use Rattle.ssim_records.specs.declared.set_fault.SetKind.{SetKind}
use Rattle.ssim_records.specs.declared.set_fault.SetKind.TheVariants as kinds
use Rattle.ssim_records.specs.declared.carrier.Carrier.{Carrier}
use Rattle.ssim_records.specs.declared.set.DataSet.{DataSet}
use Rattle.ssim_records.specs.declared.state.Phase.{Phase}
use Rattle.ssim_records.specs.declared.state.Phase.TheVariants.{Start, Open, Body, Done}
use Rattle.ssim_records.specs.declared.state.Reader.{Reader}
use Rattle.airline_base.specs.Reach.{reach, IsFirst}
use Rattle.ssim_records.specs.SetSteps.{next, fresh}

-- ---- the end

abbrev pub missing : Phase → Option SetKind
missing Start = Some kinds.NoHeader
missing Open = Some kinds.NoTrailer
missing (Body c) = Some kinds.NoTrailer
missing (Done c) = None

-- the bytes end where another record must come
abbrev pub at_end : Reader → Option SetKind
at_end s = missing s.phase

-- ---- the whole

-- the data set that a reader holds behind the trailer
abbrev pub set_of : Carrier → Reader → DataSet
set_of c s = record { carrier = c; legs = s.legs; segments = s.segments }

-- the bytes are read to their end as this data set
abbrev pub ReadsAs : ℕ → List ℕ → DataSet → Type 0
ReadsAs most bytes set =
    (n : ℕ) × (s : Reader) × (c : Carrier) × (reach (next most) fresh bytes n ≡ Ok (s, [])) × (s.phase ≡ Done c)
    × (set_of c s ≡ set)

-- the first fault of the bytes is this one, of the nth record
abbrev pub IsFirstFault : ℕ → List ℕ → ℕ → SetKind → Type 0
IsFirstFault most bytes nth kind = IsFirst (next most) at_end fresh bytes nth kind

-- the next record is a leg's, and has no fault
abbrev pub IsRoomWanted : Reader → Result (Reader × List ℕ) SetKind → Type 0
IsRoomWanted s (Ok p) = length p.0.legs ≡ length s.legs + 1
IsRoomWanted s (Err kind) = ⊥

-- no record has a fault up to the nth, which is a leg's
abbrev pub WantsRoom : ℕ → List ℕ → ℕ → Type 0
WantsRoom most bytes nth =
    (s : Reader) × (rest : List ℕ) × (1 ≤ nth) × (reach (next most) fresh bytes (nth - 1) ≡ Ok (s, rest))
    × IsRoomWanted s (next most s rest)

-- a refusal by this record, of this kind
abbrev pub IsRefusal : ℕ → List ℕ → ℕ → SetKind → Type 0
IsRefusal most bytes nth kind = IsFirstFault most bytes nth kind ⊎ ((kind ≡ kinds.Memory) × WantsRoom most bytes nth)

-- ---- a law

-- no bytes have two first faults
abbrev pub OneFirstFault : Type 0
OneFirstFault = (most : ℕ) (bytes : List ℕ) (n m : ℕ) (a b : SetKind) → IsFirstFault most bytes n a
    → IsFirstFault most bytes m b → (n ≡ m) × (a ≡ b)
