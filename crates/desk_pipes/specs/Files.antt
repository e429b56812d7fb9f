-- Which files may be the pipes of a host's desks.
use Rattle.std.specs.Prelude.{◌≡◌, ℕ, Bool, true, false, ◌==◌, ◌&&◌, bit_and, if◌then◌else◌, List, [], ◌∷◌, ◌++◌, Option, Some, None}
use Rattle.desk_pipes.specs.declared.pipe_file.PipeFault.{PipeFault}
use Rattle.desk_pipes.specs.declared.pipe_file.PipeFault.TheVariants.{NoPipe, OthersWrite, OthersRead, Twice}
use Rattle.desk_pipes.specs.declared.pipe_file.PipeId.{PipeId}
use Rattle.desk_pipes.specs.declared.pipe_file.Role.{Role}
use Rattle.desk_pipes.specs.declared.pipe_file.Role.TheVariants.{Input, Output}

-- a mode (`st_mode`) of a named pipe (`S_IFIFO`)
abbrev pub is_pipe : ℕ → Bool
is_pipe mode = bit_and mode 0o170000 == 0o010000

-- whoever is neither its owner nor of its group may not write to what a desk's lines are read from, and may not read what a desk is told
abbrev pub fault_of_others : Role → ℕ → Option PipeFault
fault_of_others Input mode = if bit_and mode 0o002 == 0 then None else Some OthersWrite
fault_of_others Output mode = if bit_and mode 0o004 == 0 then None else Some OthersRead

-- its group may read it and not write to it, or write to it and not read it
abbrev pub is_to_read : ℕ → Bool
is_to_read mode = bit_and mode 0o060 == 0o040

abbrev pub is_to_write : ℕ → Bool
is_to_write mode = bit_and mode 0o060 == 0o020

-- the modes of a desk's two pipes tell that they are swapped: the one that the host reads is to be read by the desk, and the other to be written to
abbrev pub are_swapped : ℕ → ℕ → Bool
are_swapped input out = is_to_read input && is_to_write out

-- the same device, and the same number there
abbrev pub is_one : PipeId → PipeId → Bool
is_one pipe other = (pipe.device == other.device) && (pipe.number == other.number)

abbrev pub is_among : PipeId → List PipeId → Bool
is_among pipe [] = false
is_among pipe (other ∷ others) = if is_one pipe other then true else is_among pipe others

abbrev pub fault_of_role : Bool → Option PipeFault
fault_of_role true = Some Twice
fault_of_role false = None

abbrev pub first_fault : Option PipeFault → Bool → Option PipeFault
first_fault (Some fault) is_taken = Some fault
first_fault None is_taken = fault_of_role is_taken

-- why a file is not one for a host that has these pipes already: the first that holds
abbrev pub fault_of : Role → ℕ → PipeId → List PipeId → Option PipeFault
fault_of role mode pipe taken =
    if is_pipe mode then first_fault (fault_of_others role mode) (is_among pipe taken) else Some NoPipe

-- a pipe more, which has no other role in the host
pub record IsOneMore (old new : List PipeId) : Type 0 where
  pub pipe : PipeId
  pub is_other : is_among pipe old ≡ false
  pub more : new ≡ old ++ pipe ∷ []
