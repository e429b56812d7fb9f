-- What a desk is told of the lines that were heard, its own and those of others.
use Rattle.std.specs.Prelude.{◌≡◌, ◌⊎◌, ℕ, ◌==◌, Bool, true, false, List, [], ◌++◌, codes, decimal, length, Option, Some, None, slice_get}
use Rattle.airimp_lines.specs.declared.requests.Request.{Request as Wish}
use Rattle.desk_answers.specs.FaultLines.{at_line, fault_line, full_line, wrong_call_line}
use Rattle.desk_answers.specs.Saying.{SaysQuiet}
use Rattle.desk_calls.specs.Calls.{call_line}
use Rattle.desk_lines.specs.declared.desk.Desk.{Desk}
use Rattle.desk_lines.specs.declared.desk.Meaning.{Meaning}
use Rattle.desk_lines.specs.declared.desk.Wrong.TheVariants as faults
use Rattle.desk_hall.specs.declared.turn.Turn.{Turn}
use Rattle.desk_answers.specs.Ready.{IsReadyLine}
use Rattle.desk_hall.specs.Orders.{row_text}
use Rattle.desk_hall.specs.declared.orders.RowFault.{RowFault}
use Rattle.desk_hall.specs.declared.turn.Turn.TheVariants.{Line, Full, Repeated, RepeatedRow, Quiet, Refused, RefusedCall, Stands}
use Rattle.seat_rules.specs.Journal.{calls_of}
use Rattle.desk_telling.specs.Telling.{AreTold, Telling, told_of}
use Rattle.ssim_flights.specs.declared.flight.Flight.{Flight as Flown}
use Rattle.seat_journal.specs.Controls.{set_by}
use Rattle.seat_journal.specs.declared.entry.Control.{Control}
use Rattle.seat_journal.specs.declared.entry.Entry.{Entry}
use Rattle.seat_nesting.specs.Nesting.{Ladders}
use Rattle.seat_replies.specs.VeryRequest.{IsVeryRequest}

-- of the line at a place, where there is one
abbrev pub told_if : List Entry → ℕ → Option Entry → List Telling
told_if journal session None = []
told_if journal session (Some e) = told_of journal session e

abbrev pub told_at : List Entry → ℕ → ℕ → List Telling
told_at journal session place = told_if journal session (slice_get journal place)

-- only who asked is told that the journal is full
abbrev pub full_to : Bool → ℕ → ℕ → List ℕ
full_to true asker call = full_line asker call
full_to false asker call = []

-- a call that is there: its line is told of once more where it is this very request, and else the request is refused
abbrev pub IsRepeatOf : List Flown → List Entry → ℕ → ℕ → Entry → Wish → List ℕ → Type 0
IsRepeatOf flights journal asker number line wish text =
    (IsVeryRequest flights wish line.work × AreTold flights asker (told_of journal asker line) text)
    ⊎ ((IsVeryRequest flights wish line.work → ⊥) × (text ≡ wrong_call_line faults.Other asker number))

abbrev pub IsRepeat : Option Entry → List Flown → List Entry → ℕ → ℕ → Wish → List ℕ → Type 0
IsRepeat (Some line) flights journal asker number wish text = IsRepeatOf flights journal asker number line wish text
IsRepeat None flights journal asker number wish text = text ≡ wrong_call_line faults.Beyond asker number

abbrev pub IsRepeatTo : Bool → List Flown → List Entry → ℕ → ℕ → Wish → List ℕ → Type 0
IsRepeatTo true flights journal asker number wish text =
    IsRepeat (call_line asker number journal) flights journal asker number wish text
IsRepeatTo false flights journal asker number wish text = text ≡ []

-- the same of the manager's row
abbrev pub IsRowRepeatOf : List Flown → List Entry → ℕ → Entry → Control → List ℕ → Type 0
IsRowRepeatOf flights journal number line control text =
    ((set_by control ≡ line.work) × AreTold flights 0 (told_of journal 0 line) text)
    ⊎ ((set_by control ≡ line.work → ⊥) × (text ≡ wrong_call_line faults.Other 0 number))

abbrev pub IsRowRepeat : Option Entry → List Flown → List Entry → ℕ → Control → List ℕ → Type 0
IsRowRepeat (Some line) flights journal number control text = IsRowRepeatOf flights journal number line control text
IsRowRepeat None flights journal number control text = text ≡ wrong_call_line faults.Beyond 0 number

abbrev pub IsRowRepeatTo : Bool → List Flown → List Entry → ℕ → Control → List ℕ → Type 0
IsRowRepeatTo true flights journal number control text =
    IsRowRepeat (call_line 0 number journal) flights journal number control text
IsRowRepeatTo false flights journal number control text = text ≡ []

-- what books nothing
abbrev pub IsQuietTo : Bool → List Flown → Ladders → List Entry → ℕ → Desk → Meaning → List ℕ → Type 0
IsQuietTo true flights grid journal asker desk meaning text =
    SaysQuiet flights grid asker desk.today desk.epoch desk.lines journal meaning text
IsQuietTo false flights grid journal asker desk meaning text = text ≡ []

-- only the manager is told of its row's fault: the code, its session and the line
abbrev pub row_fault_line : RowFault → ℕ → ℕ → List ℕ
row_fault_line fault session number = fault_line (row_text fault ++ at_line session number)

abbrev pub refused_to : Bool → RowFault → ℕ → List ℕ
refused_to true fault number = row_fault_line fault 0 number
refused_to false fault number = []

-- of a row that has the number of a call: @ and the number in place of the line
abbrev pub row_call_line : RowFault → ℕ → ℕ → List ℕ
row_call_line fault session call = fault_line (row_text fault ++ codes " " ++ decimal session ++ codes " @" ++ decimal call)

abbrev pub refused_call_to : Bool → RowFault → ℕ → List ℕ
refused_call_to true fault call = row_call_line fault 0 call
refused_call_to false fault call = []

-- and where it stands, on this day and at a journal of this epoch
abbrev pub IsStanding : Bool → List Entry → ℕ → ℕ → List ℕ → Type 0
IsStanding true journal day epoch text = IsReadyLine None 0 (length journal) (calls_of journal 0) day epoch text
IsStanding false journal day epoch text = text ≡ []

-- a session's desk is told of the line that a request made what concerns it, whoever asked, and of any other line what its own is
-- answered
abbrev pub IsTurn : List Flown → Ladders → List Entry → ℕ → Turn → List ℕ → Type 0
IsTurn flights grid journal session (Line place) text = AreTold flights session (told_at journal session place) text
IsTurn flights grid journal session (Full asker call) text = text ≡ full_to (asker == session) asker call
IsTurn flights grid journal session (Repeated asker number wish) text =
    IsRepeatTo (asker == session) flights journal asker number wish text
IsTurn flights grid journal session (RepeatedRow number control) text =
    IsRowRepeatTo (session == 0) flights journal number control text
IsTurn flights grid journal session (Quiet asker desk meaning) text =
    IsQuietTo (asker == session) flights grid journal asker desk meaning text
IsTurn flights grid journal session (Refused fault number) text = text ≡ refused_to (session == 0) fault number
IsTurn flights grid journal session (RefusedCall fault call) text = text ≡ refused_call_to (session == 0) fault call
IsTurn flights grid journal session (Stands day epoch) text = IsStanding (session == 0) journal day epoch text
