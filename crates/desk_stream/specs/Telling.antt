-- What is told of a feed's lines.
use Rattle.std.specs.Prelude.{◌≡◌, ◌≤◌, All, ℕ, ◌+◌, ◌==◌, Bool, true, false, List, [], ◌∷◌, ◌++◌, codes, decimal}
use Rattle.desk_answers.specs.FaultLines.{fault_line}
use Rattle.desk_hall.specs.Telling.{IsTurn}
use Rattle.desk_hall.specs.declared.turn.Turn.{Turn}
use Rattle.desk_stream.specs.declared.telling.FeedTurn.{FeedTurn}
use Rattle.desk_stream.specs.declared.telling.FeedTurn.TheVariants.{Desk, Unknown, Dayless, Foreign}
use Rattle.seat_desk.specs.FlightsDesk.{IsText}
use Rattle.seat_journal.specs.declared.entry.Entry.{Entry}
use Rattle.seat_nesting.specs.Nesting.{Ladders}
use Rattle.seat_replies.specs.RunDesk.{at_any}
use Rattle.ssim_flights.specs.declared.flight.Flight.{Flight as Flown}

-- the digit of the manager or of a session, and a blank
abbrev pub lead : ℕ → List ℕ
lead session = (48 + session) ∷ 32 ∷ []

abbrev pub lead_if : Bool → ℕ → List ℕ
lead_if true session = lead session
lead_if false session = []

-- the lead stands ahead of each byte that begins a line: the first, and one behind an LF
abbrev pub led_from : ℕ → Bool → List ℕ → List ℕ
led_from session begins [] = []
led_from session begins (b ∷ bytes) = lead_if begins session ++ b ∷ led_from session (b == 10) bytes

abbrev pub led : ℕ → List ℕ → List ℕ
led session lines = led_from session true lines

-- the manager and the eight sessions
abbrev pub sessions : List ℕ
sessions = 0 ∷ 1 ∷ 2 ∷ 3 ∷ 4 ∷ 5 ∷ 6 ∷ 7 ∷ 8 ∷ []

-- each of these is one of them
pub record FewSessions (whom : List ℕ) : Type 0 where
  pub each : All (λ (n : ℕ). n ≤ 8) whom

-- what one of them is told of a line, led by its number
pub record IsLedTo (flights : List Flown) (grid : Ladders) (journal : List Entry) (turn : Turn) (session : ℕ) (text : List ℕ)
    : Type 0 where
  pub plain : List ℕ
  pub is_turn : IsTurn flights grid journal session turn plain
  pub led_is : text ≡ led session plain

-- and what each of them is, in their order
abbrev pub IsLedTurn : List Flown → Ladders → List Entry → Turn → List ℕ → Type 0
IsLedTurn flights grid journal turn text = IsText (at_any (IsLedTo flights grid journal turn)) 0 sessions text

-- a fault that is nobody's: its code and the feed's line
abbrev pub unled_line : List ℕ → ℕ → List ℕ
unled_line code number = codes "- " ++ fault_line (code ++ codes " - " ++ decimal number)

-- the fault of a numbered line that is for another journal: the session, @ and the call
abbrev pub foreign_line : ℕ → ℕ → List ℕ
foreign_line session number =
    decimal session ++ codes " " ++ fault_line (codes "H6 " ++ decimal session ++ codes " @" ++ decimal number)

abbrev pub IsFeedTurn : List Flown → Ladders → List Entry → FeedTurn → List ℕ → Type 0
IsFeedTurn flights grid journal (Desk turn) text = IsLedTurn flights grid journal turn text
IsFeedTurn flights grid journal (Unknown number) text = text ≡ unled_line (codes "H2") number
IsFeedTurn flights grid journal (Dayless number) text = text ≡ unled_line (codes "H7") number
IsFeedTurn flights grid journal (Foreign session number) text = text ≡ foreign_line session number
