-- What a line of a message means.
use Rattle.std.proofs.Common.{◌≡◌, ℕ, List, Option, Some, Ok, Err}
use Rattle.std.specs.Prelude.{option_to_list}
use Rattle.airimp_lines.specs.Steps.{Message, step, AreOwn}
use Rattle.airimp_lines.specs.declared.fault.ScriptKind.{ScriptKind}
use Rattle.airimp_lines.specs.declared.requests.Request.{Request}
use Rattle.desk_lines.specs.declared.desk.Meaning.{Meaning}
use Rattle.desk_lines.specs.declared.desk.Meaning.TheVariants.{Wrong, WrongCall}
use Rattle.desk_lines.specs.declared.desk.Standing.{Standing}
use Rattle.desk_lines.specs.declared.desk.Wrong.TheVariants.{Line}
use Rattle.desk_lines.specs.Calls.{called, MeansCall}
use Rattle.desk_lines.specs.Lines.{asked, spoilt, standing_of, MeansLine}

pub right_line : (today : ℕ) (message behind : Message) (n : ℕ) (text : List ℕ) (own : Option Request) (next : Standing)
    (meaning : Meaning) → step message text ≡ Ok behind → AreOwn today message (n, text) (option_to_list own)
    → next ≡ standing_of behind → meaning ≡ asked own → MeansLine today message n text next meaning
right_line today message behind n text own next meaning e is at m = rw e (own, is, m, at)

pub wrong_line : (today : ℕ) (message : Message) (n : ℕ) (text : List ℕ) (kind : ScriptKind) (next : Standing)
    (meaning : Meaning) → step message text ≡ Err kind → next ≡ spoilt (standing_of message) → meaning ≡ Wrong (Line kind)
    → MeansLine today message n text next meaning
wrong_line today message n text kind next meaning e behind m = rw e (m, behind)

pub right_call : (today : ℕ) (locator : List ℕ) (behind : Message) (n call : ℕ) (line : List ℕ) (own : Option Request)
    (meaning : Meaning) → step (Some locator) line ≡ Ok behind
    → AreOwn today (Some locator) (n, line) (option_to_list own) → meaning ≡ called call own
    → MeansCall today locator n (Some (call, line)) meaning
right_call today locator behind n call line own meaning e is m = rw e (own, is, m)

pub wrong_call : (today : ℕ) (locator : List ℕ) (n call : ℕ) (line : List ℕ) (kind : ScriptKind) (meaning : Meaning)
    → step (Some locator) line ≡ Err kind → meaning ≡ WrongCall call (Line kind)
    → MeansCall today locator n (Some (call, line)) meaning
wrong_call today locator n call line kind meaning e m = rw e m
