-- What a command does to its output: it writes a text that answers its inputs, or a beginning of one.
use Rattle.std.specs.Prelude.{◌≡◌, ℕ, List, Option, IfSome}
use Rattle.std.specs.Io.KnownBytes.{Appends}
use Rattle.airline_base.specs.Noting.{noted, TookFront}
use Rattle.seat_desk.specs.declared.fault.DeskFault.{DeskFault}
use Rattle.seat_desk.specs.declared.fault.DeskFault.TheVariants.{TooLarge, Device, Memory}

-- the text answers an input, where the input's bytes are known
abbrev pub OfInput : (List ℕ → List ℕ → Type 0) → Option (List ℕ) → List ℕ → Type 0
OfInput answers input text = IfSome input (λ bytes. answers bytes text)

-- a text that answers is written, whole
pub record IsWritten (answers : List ℕ → Type 0) (old new : Option (List ℕ)) : Type 0 where
  pub text : List ℕ
  pub right : answers text
  pub written : Appends old new text

-- what is wrong is an input itself, and neither its size, nor a device, nor want of memory
abbrev pub IsOfInput : DeskFault → Type 0
IsOfInput TooLarge = ⊥
IsOfInput Device = ⊥
IsOfInput Memory = ⊥
IsOfInput _ = Unit {0}

-- a failure of the device was counted
abbrev pub HasFailed : {D : Type 0} → (D → ℕ) → D → D → Type 0
HasFailed failures old new = failures new ≡ noted (failures old)

-- an input failed, and nothing was written
pub record InputFailed {W : Type 0} (failed : Type 0) (out_old out_new : W) : Type 0 where
  pub counted : failed
  pub untouched : out_new ≡ out_old

-- the output failed, and took a beginning of a text that answers
pub record OutputFailed {W : Type 0} (failures : W → ℕ) (contents : W → Option (List ℕ)) (out_old out_new : W)
    (answers : List ℕ → Type 0) : Type 0 where
  pub counted : HasFailed failures out_old out_new
  pub text : List ℕ
  pub right : answers text
  pub begun : TookFront (contents out_old) (contents out_new) text
