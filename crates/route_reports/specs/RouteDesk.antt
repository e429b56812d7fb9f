-- What `route` writes: where the rows of changes go, and where the segment lines of the scripts, session by session.
use Rattle.std.specs.Prelude.{◌≡◌, ◌≤◌, ◌<◌, ◌⊎◌, ℕ, ◌+◌, List, [], ◌∷◌, ◌++◌, length, map, Option, IfSome}
use Rattle.airline_base.specs.Noting.{noted}
use Rattle.airimp_lines.specs.Steps.{IsFirstFault}
use Rattle.airimp_lines.specs.declared.fault.ScriptFault.{ScriptFault}
use Rattle.script_refusals.specs.Cleaning.{refusals_of}
use Rattle.seat_limits.specs.ChangeRows.{IsChangeText}
use Rattle.seat_limits.specs.declared.change_row.ChangeRow.{ChangeRow}
use Rattle.seat_desk.specs.Desk.{HasFailed}
use Rattle.seat_desk.specs.declared.fault.DeskFault.{DeskFault}
use Rattle.seat_desk.specs.declared.fault.DeskFault.TheVariants.{Script, Change as BadChange}
use Rattle.seat_replies.specs.Changes.{AreNoChanges, most_change_bytes}
use Rattle.seat_replies.specs.Requests.{most_script_bytes}
use Rattle.flight_routes.specs.RowRoutes.{row_routes_of, row_routes_text}
use Rattle.flight_routes.specs.ScriptRoutes.{routes_of, routes_text}

-- ---- what is right

-- the bytes are rows of changes, not too many, and the text says where each goes
pub record AreRowsRouted (shards : ℕ) (text bytes : List ℕ) : Type 0 where
  pub within : length bytes ≤ most_change_bytes
  pub rows : List ChangeRow
  pub spelled : IsChangeText bytes rows
  pub written : text ≡ row_routes_text (row_routes_of shards bytes rows)

-- the bytes are a script without a wrong line, not too large, and the text says where each of its segment lines goes
pub record IsScriptRouted (shards session : ℕ) (text bytes : List ℕ) : Type 0 where
  pub within : length bytes ≤ most_script_bytes
  pub right : refusals_of bytes ≡ []
  pub written : text ≡ routes_text session (routes_of shards bytes)

-- the scripts of the sessions from this one on, one behind the other, where their bytes are known
abbrev pub AreScriptsRouted : ℕ → ℕ → List (Option (List ℕ)) → List ℕ → Type 0
AreScriptsRouted shards session [] text = text ≡ []
AreScriptsRouted shards session (script ∷ scripts) text =
    (own others : List ℕ) × IfSome script (IsScriptRouted shards session own)
    × AreScriptsRouted shards (session + 1) scripts others × (text ≡ own ++ others)

pub record AreRoutedOn (shards session : ℕ) (scripts : List (Option (List ℕ))) (old new : List ℕ) : Type 0 where
  pub added : List ℕ
  pub routed : AreScriptsRouted shards session scripts added
  pub written : new ≡ old ++ added

-- the rows of changes, and behind them the scripts of the sessions from 1 on
pub record IsRouteText (shards : ℕ) (changes : Option (List ℕ)) (scripts : List (Option (List ℕ))) (text : List ℕ) : Type 0 where
  pub rows : List ℕ
  pub lines : List ℕ
  pub rows_are : IfSome changes (AreRowsRouted shards rows)
  pub lines_are : AreScriptsRouted shards 1 scripts lines
  pub written : text ≡ rows ++ lines

-- ---- what is refused

-- the bytes are right rows of changes, where they are known
pub record AreRowsRight (changes : Option (List ℕ)) : Type 0 where
  pub text : List ℕ
  pub shards : ℕ
  pub routed : IfSome changes (AreRowsRouted shards text)

-- the bytes are a right script, where they are known
pub record IsScriptRight (script : Option (List ℕ)) : Type 0 where
  pub text : List ℕ
  pub shards : ℕ
  pub session : ℕ
  pub routed : IfSome script (IsScriptRouted shards session text)

-- the fault is the first of the rows
abbrev pub IsRefusedRows : DeskFault → List ℕ → Type 0
IsRefusedRows (BadChange fault) bytes = AreNoChanges fault bytes
IsRefusedRows _ bytes = ⊥

-- the bytes are not too many, and the fault is the first of their lines
pub record IsFirstOf (fault : ScriptFault) (bytes : List ℕ) : Type 0 where
  pub within : length bytes ≤ most_script_bytes
  pub first : IsFirstFault bytes fault.line fault.kind

-- the fault is the first of the script of this session
abbrev pub IsRefusedScript : ℕ → DeskFault → List ℕ → Type 0
IsRefusedScript session (Script number fault) bytes = (number ≡ session) × IsFirstOf fault bytes
IsRefusedScript session _ bytes = ⊥

-- the fault is that of the first of these scripts that is not right; the first of them is that of this session
abbrev pub IsRefusedAmong : ℕ → List (Option (List ℕ)) → DeskFault → Type 0
IsRefusedAmong session [] fault = ⊥
IsRefusedAmong session (script ∷ scripts) fault =
    IfSome script (IsRefusedScript session fault) ⊎ (IsScriptRight script × IsRefusedAmong (session + 1) scripts fault)

-- the fault is that of the rows, or, where these are right, of the first script that is not
abbrev pub IsRefusedRoute : Option (List ℕ) → List (Option (List ℕ)) → DeskFault → Type 0
IsRefusedRoute changes scripts fault =
    IfSome changes (IsRefusedRows fault) ⊎ (AreRowsRight changes × IsRefusedAmong 1 scripts fault)

-- one of the scripts is too large, and those before it are right
abbrev pub IsTooLargeAmong : List (Option (List ℕ)) → Type 0
IsTooLargeAmong [] = ⊥
IsTooLargeAmong (script ∷ scripts) =
    IfSome script (λ bytes. most_script_bytes < length bytes) ⊎ (IsScriptRight script × IsTooLargeAmong scripts)

abbrev pub IsTooLargeRoute : Option (List ℕ) → List (Option (List ℕ)) → Type 0
IsTooLargeRoute changes scripts =
    IfSome changes (λ bytes. most_change_bytes < length bytes) ⊎ (AreRowsRight changes × IsTooLargeAmong scripts)

-- one of the counts has risen by a failure, and the scripts before it are right
abbrev pub HasRisenAmong : List (Option (List ℕ)) → List ℕ → List ℕ → Type 0
HasRisenAmong (script ∷ scripts) (old ∷ olds) (new ∷ news) =
    (new ≡ noted old) ⊎ (IsScriptRight script × HasRisenAmong scripts olds news)
HasRisenAmong _ _ _ = ⊥

-- the first input that was not read and right has failed
abbrev pub HasFailedRoute : {D C : Type 0} → (D → Option (List ℕ)) → (D → ℕ) → (C → Option (List ℕ)) → (C → ℕ) → D → D → List C → List C
    → Type 0
HasFailedRoute rows of_rows script of_script old new olds news =
    HasFailed of_rows old new
    ⊎ (AreRowsRight (rows old) × HasRisenAmong (map script olds) (map of_script olds) (map of_script news))
