-- What a desk is answered, by what its line means.
use Rattle.std.specs.Prelude.{◌≡◌, ◌⊎◌, ℕ, ◌+◌, ◌==◌, Bool, true, false, nat_lt, List, [], ◌∷◌, ◌++◌, length, Option, Some, None}
use Rattle.airimp_lines.specs.declared.requests.Request.{Request as Wish}
use Rattle.desk_lines.specs.Lines.{next_number, Hears}
use Rattle.desk_lines.specs.declared.desk.Desk.{Desk}
use Rattle.desk_lines.specs.declared.desk.Meaning.{Meaning}
use Rattle.desk_lines.specs.declared.desk.Meaning.TheVariants.{Nothing, Request, Call, Look, Again, Hello, Leave, Wrong, WrongCall}
use Rattle.desk_lines.specs.declared.desk.Wrong.TheVariants as faults
use Rattle.desk_calls.specs.Calls.{call_line}
use Rattle.desk_telling.specs.Telling.{AreTold, told_behind}
use Rattle.ssim_flights.specs.declared.flight.Flight.{Flight as Flown}
use Rattle.seat_journal.specs.declared.entry.Entry.{Entry}
use Rattle.seat_journal.specs.declared.entry.Work.TheVariants.{Seats}
use Rattle.seat_nesting.specs.Nesting.{Ladders}
use Rattle.seat_rules.specs.Journal.{calls_of}
use Rattle.seat_serving.specs.Answering.{line_for, with_line}
use Rattle.seat_serving.specs.declared.asked.Asked.{Asked}
use Rattle.seat_replies.specs.Requests.{command_of}
use Rattle.seat_replies.specs.RunDesk.{IsAnswer}
use Rattle.seat_replies.specs.VeryRequest.{IsVeryRequest}
use Rattle.desk_answers.specs.FaultLines.{full_line, wrong_call_line, wrong_line}
use Rattle.desk_answers.specs.Hosts.{Attended}
use Rattle.desk_answers.specs.Looks.{IsLooked}
use Rattle.desk_answers.specs.Ready.{IsReadyLine}
use Rattle.desk_answers.specs.declared.heard.Heard.{Heard}

-- a request of a session, on the first place that serves it
abbrev pub asked_by : List Flown → ℕ → Wish → Asked
asked_by flights session wish = record { session = session; work = Seats (command_of flights wish) }

-- the journal has one line more, that of the request, and the text is its reply and its advices as a run writes them
pub record IsBooked (flights : List Flown) (grid : Ladders) (past journal : List Entry) (asked : Asked) (wish : Wish)
    (text : List ℕ) : Type 0 where
  pub line_is : journal ≡ with_line grid past asked
  pub answer : IsAnswer flights (wish ∷ []) journal 0 (line_for grid past asked) text

-- it is the last of these lines
pub record IsLastOf (journal : List Entry) (line : Entry) : Type 0 where
  pub past : List Entry
  pub is : journal ≡ past ++ line ∷ []

-- it is booked where the journal has room, and else refused
abbrev pub IsAsked : Bool → List Flown → Ladders → ℕ → List Entry → List Entry → Wish → List ℕ → Type 0
IsAsked true flights grid session past journal wish text =
    IsBooked flights grid past journal (asked_by flights session wish) wish text
IsAsked false flights grid session past journal wish text =
    (journal ≡ past) × (text ≡ full_line session (calls_of past session + 1))

-- ---- numbered requests

-- the call of this number has this line: where it is this very request its answer is told once more, and else the line is refused
abbrev pub IsAnsweredAgain : List Flown → List Entry → ℕ → ℕ → Entry → Wish → List ℕ → Type 0
IsAnsweredAgain flights journal session number line wish text =
    (IsVeryRequest flights wish line.work × IsAnswer flights (wish ∷ []) journal 0 line text)
    ⊎ ((IsVeryRequest flights wish line.work → ⊥) × (text ≡ wrong_call_line faults.Other session number))

-- and where no line has it its number is beyond the next
abbrev pub IsAgain : Option Entry → List Flown → List Entry → ℕ → ℕ → Wish → List ℕ → Type 0
IsAgain (Some line) flights journal session number wish text =
    IsAnsweredAgain flights journal session number line wish text
IsAgain None flights journal session number wish text = text ≡ wrong_call_line faults.Beyond session number

-- the session's next call is booked as any request is; any other changes nothing
abbrev pub IsCalled : Bool → List Flown → Ladders → ℕ → ℕ → ℕ → List Entry → List Entry → Wish → List ℕ → Type 0
IsCalled true flights grid cap session number past journal wish text =
    IsAsked (nat_lt (length past) cap) flights grid session past journal wish text
IsCalled false flights grid cap session number past journal wish text =
    (journal ≡ past) × IsAgain (call_line session number past) flights past session number wish text

-- ---- what is said

-- what is said of a line that asks for no seats; of one that does, nothing
abbrev pub SaysQuiet : List Flown → Ladders → ℕ → ℕ → ℕ → ℕ → List Entry → Meaning → List ℕ → Type 0
SaysQuiet flights grid session today epoch number journal Nothing text = text ≡ []
SaysQuiet flights grid session today epoch number journal (Request wish) text = text ≡ []
SaysQuiet flights grid session today epoch number journal (Call call wish) text = text ≡ []
SaysQuiet flights grid session today epoch number journal (Look look) text = IsLooked flights grid journal look text
SaysQuiet flights grid session today epoch number journal (Again behind) text =
    AreTold flights session (told_behind journal session behind) text
SaysQuiet flights grid session today epoch number journal (Hello name named) text =
    IsReadyLine (Some name) session (length journal) (calls_of journal session) today epoch text
SaysQuiet flights grid session today epoch number journal Leave text = text ≡ []
SaysQuiet flights grid session today epoch number journal (Wrong wrong) text = text ≡ wrong_line wrong session number
SaysQuiet flights grid session today epoch number journal (WrongCall call wrong) text = text ≡ wrong_call_line wrong session call

-- the desk stays, unless it said that it goes
abbrev pub stays_behind : Meaning → Bool
stays_behind Leave = false
stays_behind meaning = true

-- the journal is as it was
abbrev pub SaysSame : List Flown → Ladders → ℕ → ℕ → ℕ → ℕ → List Entry → List Entry → Meaning → Bool → List ℕ → Type 0
SaysSame flights grid session today epoch number past journal meaning stays text =
    (stays ≡ stays_behind meaning) × (journal ≡ past) × SaysQuiet flights grid session today epoch number past meaning text

-- what is said of a line by its meaning, what the journal is then, and whether the desk stays
abbrev pub Says : List Flown → Ladders → ℕ → ℕ → ℕ → ℕ → ℕ → List Entry → List Entry → Meaning → Bool → List ℕ → Type 0
Says flights grid cap session today epoch number past journal (Request wish) stays text =
    (stays ≡ true) × IsAsked (nat_lt (length past) cap) flights grid session past journal wish text
Says flights grid cap session today epoch number past journal (Call call wish) stays text =
    (stays ≡ true) × IsCalled (call == calls_of past session + 1) flights grid cap session call past journal wish text
Says flights grid cap session today epoch number past journal meaning stays text =
    SaysSame flights grid session today epoch number past journal meaning stays text

-- the desk has heard this line, which counts, and it means this
pub record HasHeard (old new : Desk) (line : List ℕ) (meaning : Meaning) : Type 0 where
  pub hears : Hears old new line meaning
  pub counted : new.lines ≡ next_number old.lines
  pub same_day : new.today ≡ old.today

-- the host has answered this line
pub record IsAnswered {D : Type 0} (old new : Attended D) (line : List ℕ) (heard : Heard) : Type 0 where
  pub meaning : Meaning
  pub is_heard : HasHeard old.desk new.desk line meaning
  pub says : Says old.flights old.serving.grid old.serving.cap old.session new.desk.today new.desk.epoch new.desk.lines old.serving.journal
      new.serving.journal meaning heard.stays heard.text.items

-- with a number or without
abbrev pub AsksFor : Meaning → Wish → Type 0
AsksFor (Request own) wish = own ≡ wish
AsksFor (Call call own) wish = own ≡ wish
AsksFor meaning wish = ⊥

-- the request that was meant is in the journal, and its answer is not told
pub record IsUntoldOf (flights : List Flown) (grid : Ladders) (session : ℕ) (past journal : List Entry) (meaning : Meaning)
    : Type 0 where
  pub wish : Wish
  pub is : AsksFor meaning wish
  pub line_is : journal ≡ with_line grid past (asked_by flights session wish)

-- the line counts, and the request that it meant is in the journal; nobody is told of it
pub record IsUntold {D : Type 0} (old new : Attended D) (line : List ℕ) : Type 0 where
  pub meaning : Meaning
  pub is_heard : HasHeard old.desk new.desk line meaning
  pub untold : IsUntoldOf old.flights old.serving.grid old.session old.serving.journal new.serving.journal meaning

-- the line counts, whatever it means
pub record IsCounted (old new : Desk) (line : List ℕ) : Type 0 where
  pub meaning : Meaning
  pub is_heard : HasHeard old new line meaning
