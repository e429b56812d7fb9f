-- Where the segment lines of a script go: each to the shard of its own flight, behind the first line of its message.
use Rattle.std.specs.Prelude.{ℕ, ◌+◌, if◌then◌else◌, List, [], ◌∷◌, ◌++◌, take, Option, None, Some, Result, Ok, Err, codes, decimal}
use Rattle.std.specs.List.{flat_map}
use Rattle.std.specs.Str.Lines.{lines}
use Rattle.airimp_lines.specs.Messages.{is_passed_over}
use Rattle.airimp_lines.specs.Reading.{undated_at}
use Rattle.airimp_lines.specs.Script.{Line}
use Rattle.airimp_lines.specs.Steps.{Message, step}
use Rattle.airimp_lines.specs.declared.fault.LineFault.{LineFault}
use Rattle.airimp_lines.specs.declared.fault.ScriptKind.{ScriptKind}
use Rattle.airimp_lines.specs.declared.segment.Undated.{Undated}
use Rattle.flight_routes.specs.Shards.{name_text, shard_of}
use Rattle.flight_routes.specs.declared.script_routes.Opening.{Opening}

-- ---- the message that is open

abbrev pub Open : Type 0
Open = Option Opening

abbrev pub message_of : Open → Message
message_of None = None
message_of (Some opening) = Some opening.locator

-- a first line opens its message, by its address and its locator
abbrev pub open_with : Open → List ℕ → Message → Open
open_with now text None = None
open_with None text (Some locator) = Some (record { address = take 5 text; locator = locator })
open_with (Some opening) text (Some locator) = Some (record { address = opening.address; locator = locator })

abbrev pub open_after : Open → List ℕ → Result Message ScriptKind → Open
open_after now text (Ok next) = open_with now text next
open_after now text (Err kind) = None

abbrev pub open_behind : Open → List ℕ → Open
open_behind now text = open_after now text (step (message_of now) text)

-- 1 January 2000: the flight of a line is the same on each day
abbrev pub any_day : ℕ
any_day = 10_957

-- ---- routes

-- a segment line, the first line of its message, and the shard that both go to
pub record Route : Type 0 where
  pub shard : ℕ
  pub line : ℕ
  pub opening : Opening
  pub text : List ℕ

abbrev pub route_of : ℕ → Opening → Line → Undated → Route
route_of shards opening line u = record {
  shard = shard_of shards (name_text u.airline u.number u.suffix);
  line = line.0;
  opening = opening;
  text = line.1;
}

abbrev pub routes_read : ℕ → Opening → Line → Result Undated LineFault → List Route
routes_read shards opening line (Ok u) = route_of shards opening line u ∷ []
routes_read shards opening line (Err fault) = []

-- a segment line of a message has one
abbrev pub own_routes : ℕ → Open → Line → List Route
own_routes shards None line = []
own_routes shards (Some opening) (n, []) = []
own_routes shards (Some opening) (n, c ∷ text) =
    if is_passed_over (c ∷ text) then [] else routes_read shards opening (n, c ∷ text) (undated_at (c ∷ text))

-- the lines count from this number
abbrev pub routes_from : ℕ → Open → ℕ → List (List ℕ) → List Route
routes_from shards now n [] = []
routes_from shards now n (text ∷ texts) =
    own_routes shards now (n, text) ++ routes_from shards (open_behind now text) (n + 1) texts

abbrev pub routes_of : ℕ → List ℕ → List Route
routes_of shards script = routes_from shards None 1 (lines script)

-- ---- their text

-- shard, session, number of the line, address and locator, each with a blank behind it
abbrev pub head_text : ℕ → ℕ → ℕ → Opening → List ℕ
head_text session shard line opening =
    decimal shard ++ codes " " ++ decimal session ++ codes " " ++ decimal line ++ codes " "
    ++ opening.address ++ codes " " ++ opening.locator ++ codes " "

-- and the segment line as it stands in the script
abbrev pub route_text : ℕ → Route → List ℕ
route_text session r = head_text session r.shard r.line r.opening ++ r.text ++ codes "\n"

abbrev pub routes_text : ℕ → List Route → List ℕ
routes_text session routes = flat_map (route_text session) routes
