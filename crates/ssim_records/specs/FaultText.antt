-- The printed text of what is refused.
use Rattle.std.specs.Prelude.{ℕ, List, [], ◌++◌, codes}
use Rattle.std.specs.Fmt.{decimal}
use Rattle.ssim_records.specs.declared.set_fault.SetKind.{SetKind}
use Rattle.ssim_records.specs.declared.set_fault.SetKind.TheVariants as kinds
use Rattle.ssim_records.specs.declared.set_fault.SetFault.{SetFault}

abbrev pub code_of : SetKind → List ℕ
code_of kinds.Short = codes "S1"
code_of kinds.BadByte = codes "S2"
code_of kinds.BadEnd = codes "S3"
code_of kinds.NoHeader = codes "S4"
code_of kinds.BadTitle = codes "S5"
code_of kinds.BadOrder = codes "S6"
code_of kinds.BadSerial = codes "S7"
code_of (kinds.BadField byte) = codes "S8"
code_of kinds.OtherAirline = codes "S9"
code_of kinds.BadCheck = codes "S10"
code_of kinds.Continued = codes "S11"
code_of kinds.AfterTrailer = codes "S12"
code_of kinds.NoTrailer = codes "S13"
code_of kinds.TooLarge = codes "S14"
code_of kinds.Memory = codes "S15"

-- the byte of a wrong field
abbrev pub byte_of_fault : SetKind → List ℕ
byte_of_fault (kinds.BadField byte) = codes " " ++ decimal byte
byte_of_fault _ = []

-- the code, the record and the byte of a wrong field, with single blanks between
abbrev pub fault_text : SetFault → List ℕ
fault_text f = code_of f.kind ++ codes " " ++ decimal f.nth ++ byte_of_fault f.kind
