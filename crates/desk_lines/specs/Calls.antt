-- What numbered lines mean.
use Rattle.std.specs.Prelude.{◌≡◌, ℕ, List, Option, Some, None, Result, Ok, Err}
use Rattle.std.specs.Prelude.{option_to_list}
use Rattle.airline_base.specs.Fields.{◌>>=◌, Field, byte_at}
use Rattle.airimp_lines.specs.Steps.{Message, step, AreOwn}
use Rattle.airimp_lines.specs.declared.fault.ScriptKind.{ScriptKind}
use Rattle.airimp_lines.specs.declared.fault.ScriptKind.TheVariants as kinds
use Rattle.airimp_lines.specs.declared.requests.Request.{Request as Asked}
use Rattle.desk_lines.specs.declared.desk.Meaning.{Meaning}
use Rattle.desk_lines.specs.declared.desk.Meaning.TheVariants.{Call, Wrong, WrongCall}
use Rattle.desk_lines.specs.declared.desk.Standing.{Standing}
use Rattle.desk_lines.specs.declared.desk.Standing.TheVariants.{Silent, Between, Within, Refused}
use Rattle.desk_lines.specs.declared.desk.Wrong.TheVariants as faults
use Rattle.desk_lines.specs.Words.{count_at}

-- @, the number of a call and a blank, and the line behind them
unfoldable pub call_at : List ℕ → Field ℕ
call_at text = do
  behind ← byte_at 64 text
  call ← count_at behind
  line ← byte_at 32 call.1
  Some (call.0, line)

-- only a segment line has a number
abbrev pub called : ℕ → Option Asked → Meaning
called call None = WrongCall call faults.Word
called call (Some request) = Call call request

-- the line behind the number, in a message: it has a fault, or is a segment line
abbrev pub MeansSegment : ℕ → List ℕ → ℕ → ℕ → List ℕ → Result Message ScriptKind → Meaning → Type 0
MeansSegment today locator n call line (Ok behind) meaning =
    (own : Option Asked) × AreOwn today (Some locator) (n, line) (option_to_list own) × (meaning ≡ called call own)
MeansSegment today locator n call line (Err kind) meaning = meaning ≡ WrongCall call (faults.Line kind)

-- in the message of this locator
abbrev pub MeansCall : ℕ → List ℕ → ℕ → Option (ℕ × List ℕ) → Meaning → Type 0
MeansCall today locator n None meaning = meaning ≡ Wrong faults.Word
MeansCall today locator n (Some (call, line)) meaning =
    MeansSegment today locator n call line (step (Some locator) line) meaning

-- outside a message, or in one that is passed over, it has the fault of a wrong first line
abbrev pub outside : Option (ℕ × List ℕ) → Meaning
outside None = Wrong faults.Word
outside (Some (call, line)) = WrongCall call (faults.Line kinds.Locator)

abbrev pub MeansNumbered : ℕ → Standing → ℕ → List ℕ → Meaning → Type 0
MeansNumbered today Silent n text meaning = meaning ≡ Wrong faults.NoHello
MeansNumbered today Between n text meaning = meaning ≡ outside (call_at text)
MeansNumbered today Refused n text meaning = meaning ≡ outside (call_at text)
MeansNumbered today (Within locator) n text meaning = MeansCall today locator n (call_at text) meaning
