-- The epoch of the journal that a client means, and what its numbered lines mean where that is another journal's.
use Rattle.std.specs.Prelude.{ℕ, ◌==◌, Bool, true, false, if◌then◌else◌, Option, Some, None}
use Rattle.desk_lines.specs.declared.desk.Meaning.{Meaning}
use Rattle.desk_lines.specs.declared.desk.Meaning.TheVariants.{Call, Hello, WrongCall}
use Rattle.desk_lines.specs.declared.desk.Wrong.TheVariants as faults

-- an epoch is named, and it is not the journal's
abbrev pub is_other : Option ℕ → ℕ → Bool
is_other None epoch = false
is_other (Some named) epoch = if named == epoch then false else true

-- a client is a stranger behind a hello that names another epoch, and is none behind any other hello; no other line changes it
abbrev pub stranger_behind : Bool → ℕ → Meaning → Bool
stranger_behind was epoch (Hello name named) = is_other named epoch
stranger_behind was epoch meaning = was

-- each numbered line of a stranger is refused, and so it books nothing
abbrev pub by_epoch : Bool → Meaning → Meaning
by_epoch true (Call call request) = WrongCall call faults.Epoch
by_epoch true (WrongCall call wrong) = WrongCall call faults.Epoch
by_epoch stranger meaning = meaning
