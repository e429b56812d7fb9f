-- The requests of scripts, and what they ask of the inventory.
use Rattle.std.specs.Prelude.{◌≡◌, ◌≤◌, ◌<◌, ◌+◌, ◌⊎◌, ℕ, List, [], ◌∷◌, ◌++◌, length, map, Option, IfSome, All}
use Rattle.std.specs.List.{AllZip, AllByRecursion}
use Rattle.airline_base.specs.Noting.{noted}
use Rattle.ssim_flights.specs.Places.{place_wanted}
use Rattle.ssim_flights.specs.declared.flight.Flight.{Flight as Flown}
use Rattle.ssim_flights.specs.declared.flight.Wanted.{Wanted}
use Rattle.airimp_lines.specs.Grammar.{IsRightSegment}
use Rattle.airimp_lines.specs.Script.{IsScript}
use Rattle.airimp_lines.specs.Steps.{IsFirstFault}
use Rattle.airimp_lines.specs.declared.fault.ScriptFault.{ScriptFault}
use Rattle.airimp_lines.specs.declared.fault.ScriptKind.{ScriptKind}
use Rattle.airimp_lines.specs.declared.fault.ScriptKind.TheVariants as script_kinds
use Rattle.airimp_lines.specs.declared.requests.Request.{Request}
use Rattle.airimp_lines.specs.declared.segment.Segment.{Segment}
use Rattle.seat_journal.specs.declared.entry.Command.{Command}
use Rattle.seat_desk.specs.declared.fault.DeskFault.{DeskFault}
use Rattle.seat_desk.specs.declared.fault.DeskFault.TheVariants.{Script, Memory}

-- ---- what is asked

-- the flight, the day and the two stations that a segment names
abbrev pub wanted_of : Segment → Wanted
wanted_of s =
    record { airline = s.airline; number = s.number; suffix = s.suffix; day = s.day; board = s.board; off = s.off }

-- a request, on the first place that serves it, where there is one
abbrev pub command_of : List Flown → Request → Command
command_of flights r = record {
  locator = r.locator;
  place = place_wanted flights (wanted_of r.segment);
  class = r.segment.class;
  code = r.segment.code;
  seats = r.segment.seats;
}

abbrev pub commands_of : List Flown → List Request → List Command
commands_of flights requests = map (command_of flights) requests

-- the numbers and suffixes are as they may be
pub record AreRight (requests : List Request) : Type 0 where
  pub each : All (λ (r : Request). IsRightSegment r.segment) requests

-- ---- scripts

-- 16 MiB
abbrev pub most_script_bytes : ℕ
most_script_bytes = 16_777_216

-- the bytes are a script of these requests, and not too many
pub record IsScriptOf (today : ℕ) (requests : List Request) (bytes : List ℕ) : Type 0 where
  pub within : length bytes ≤ most_script_bytes
  pub is_script : IsScript today bytes requests

-- script by script, where the bytes are known
abbrev pub AreScripts : ℕ → List (Option (List ℕ)) → List (List Request) → Type 0
AreScripts today texts scripts = AllZip (λ bytes requests. IfSome bytes (IsScriptOf today requests)) texts scripts

-- such scripts are read behind those before
pub record AreReadOn (today : ℕ) (texts : List (Option (List ℕ))) (old new : List (List Request)) : Type 0 where
  pub added : List (List Request)
  pub are_scripts : AreScripts today texts added
  pub are_right : AllByRecursion AreRight added
  pub written : new ≡ old ++ added

-- the bytes are not too large, but they are no script, and the fault is their first
pub record IsNoScript (today : ℕ) (fault : ScriptFault) (bytes : List ℕ) : Type 0 where
  pub within : length bytes ≤ most_script_bytes
  pub first : IsFirstFault bytes fault.line fault.kind
  pub none : (requests : List Request) → IsScript today bytes requests → ⊥

-- the fault is that of the script of this session
abbrev pub IsRefusedScript : ℕ → ℕ → DeskFault → List ℕ → Type 0
IsRefusedScript today session (Script number fault) bytes = (number ≡ session) × IsNoScript today fault bytes
IsRefusedScript today session _ bytes = ⊥

-- what is wrong is a script
abbrev pub IsOfScript : DeskFault → Type 0
IsOfScript (Script session fault) = Unit {0}
IsOfScript _ = ⊥

-- a script, where the bytes are known
pub record IsReadable (today : ℕ) (text : Option (List ℕ)) : Type 0 where
  pub requests : List Request
  pub is_script : IfSome text (IsScriptOf today requests)

-- the fault is that of the first of these that is no script; the first of them is that of session n
abbrev pub IsRefusedAmong : ℕ → ℕ → List (Option (List ℕ)) → DeskFault → Type 0
IsRefusedAmong today n [] fault = ⊥
IsRefusedAmong today n (text ∷ texts) fault =
    IfSome text (IsRefusedScript today n fault) ⊎ (IsReadable today text × IsRefusedAmong today (n + 1) texts fault)

-- the desk's fault for one of a session's script
abbrev pub script_refusal_of : ScriptKind → ℕ → ScriptFault → DeskFault
script_refusal_of script_kinds.Memory session fault = Memory
script_refusal_of _ session fault = Script session fault

abbrev pub script_refusal : ℕ → ScriptFault → DeskFault
script_refusal session fault = script_refusal_of fault.kind session fault

-- one of the scripts is too large, and those before it are right
abbrev pub IsTooLargeAmong : ℕ → List (Option (List ℕ)) → Type 0
IsTooLargeAmong today [] = ⊥
IsTooLargeAmong today (text ∷ texts) =
    IfSome text (λ bytes. most_script_bytes < length bytes) ⊎ (IsReadable today text × IsTooLargeAmong today texts)

-- one of the counts has risen by a failure, and the scripts before it are right
abbrev pub HasRisenAmong : ℕ → List (Option (List ℕ)) → List ℕ → List ℕ → Type 0
HasRisenAmong today (text ∷ texts) (old ∷ olds) (new ∷ news) =
    (new ≡ noted old) ⊎ (IsReadable today text × HasRisenAmong today texts olds news)
HasRisenAmong today _ _ _ = ⊥

-- one of these devices has failed, and the scripts before it are right
abbrev pub HasFailedAmong : {D : Type 0} → ℕ → List (Option (List ℕ)) → (D → ℕ) → List D → List D → Type 0
HasFailedAmong today texts failures olds news = HasRisenAmong today texts (map failures olds) (map failures news)
