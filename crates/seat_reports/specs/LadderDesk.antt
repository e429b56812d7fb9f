-- What `ladder` reads and writes: a ladder, commands on its leg and changes of its limits, and the replies and the room that is left.
use Rattle.std.specs.Prelude.{◌≡◌, ◌≤◌, ℕ, ◌+◌, ◌==◌, List, [], ◌∷◌, ◌++◌, length, decimal, codes, Option, Some, None, Result, Ok, Err, if◌then◌else◌}
use Rattle.std.specs.List.{flat_map}
use Rattle.seat_journal.specs.declared.entry.Advice.{Advice}
use Rattle.seat_journal.specs.declared.entry.Entry.{Entry}
use Rattle.seat_journal.specs.declared.entry.Work.{Work}
use Rattle.seat_journal.specs.declared.entry.Work.TheVariants.{Seats, Limit, Sale}
use Rattle.seat_nesting.specs.declared.ladder.Step.{Step}
use Rattle.seat_limits.specs.declared.limit_fault.LimitKind.{LimitKind}
use Rattle.seat_limits.specs.LadderText.{ladder_in}
use Rattle.seat_nesting.specs.Nesting.{Steps, Ladders}
use Rattle.seat_rules.specs.Sequential.{State, room_left}
use Rattle.seat_rules.specs.Journal.{asker, calls_of, next_line, replay}
use Rattle.seat_desk.specs.declared.fault.DeskFault.{DeskFault}
use Rattle.seat_desk.specs.declared.fault.DeskFault.TheVariants as faults
use Rattle.seat_desk.specs.AuditDesk.{most_lines}
use Rattle.seat_reports.specs.Lines.{lines_of}
use Rattle.seat_reports.specs.Orders.{order_in, only_leg}

-- the most lines of a ladder's input: its ladder, and as many more as a journal has lines
abbrev pub most_input_lines : ℕ
most_input_lines = most_lines + 1

-- what this line asks for, and what follows it; the line is wrong, or one too many
abbrev pub with_order : {A : Type 0} → ℕ → Option Work → (Work → Result A DeskFault) → Result A DeskFault
with_order line None next = Err (faults.Command line)
with_order line (Some w) next = (if line == most_input_lines + 1 then Err (faults.Full line) else next w)

-- these orders and those of the lines, of which the first has this number
abbrev pub orders_after : ℕ → List Work → List (List ℕ) → Result (List Work) DeskFault
orders_after line before [] = Ok before
orders_after line before (text ∷ texts) =
    with_order line (order_in text) (λ w. orders_after (line + 1) (before ++ w ∷ []) texts)

-- the same, of the lines behind the ladder and these orders
abbrev pub orders_behind : List Work → List (List ℕ) → Result (List Work) DeskFault
orders_behind before texts = orders_after (length before + 2) before texts

-- one flight of one leg
abbrev pub one_leg : Steps → Ladders
one_leg steps = (steps ∷ []) ∷ []

-- the line that an order makes after these, as the next call of who asks
abbrev pub line_for : Ladders → List Entry → Work → Entry
line_for grid past w = next_line grid past (asker w) (calls_of past (asker w) + 1) w

-- these lines, and those that the orders make after them
abbrev pub lines_after : Ladders → List Entry → List Work → List Entry
lines_after grid past [] = past
lines_after grid past (w ∷ ws) = lines_after grid (past ++ line_for grid past w ∷ []) ws

-- a blank, KL, the seats, `/` and the booking's number
abbrev pub advice_text : Advice → List ℕ
advice_text a = codes " KL" ++ decimal a.seats ++ codes "/" ++ decimal a.number

-- the seats that were asked; what the manager sets asks for none
abbrev pub asked_text : Work → List ℕ
asked_text (Seats c) = decimal c.seats
asked_text (Limit c) = []
asked_text (Sale c) = []

-- the number, the reply with the seats asked, and the advices
abbrev pub entry_text : Entry → List ℕ
entry_text e =
    decimal e.number ++ codes " " ++ e.reply ++ asked_text e.work ++ flat_map advice_text e.advices ++ 10 ∷ []

-- a blank, the class and its room
abbrev pub class_text : State → ℕ → List ℕ
class_text state class = codes " " ++ (class ∷ []) ++ decimal (room_left state only_leg class)

abbrev pub room_text : State → Step → List ℕ
room_text state step = class_text state step.class

-- the replies of these lines, and the room that is left in each class
abbrev pub reply_text : List Entry → State → Steps → List ℕ
reply_text journal state steps =
    flat_map entry_text journal ++ codes "ROOM" ++ flat_map (room_text state) steps ++ 10 ∷ []

-- the replies to the orders, and the room that they leave
abbrev pub ladder_text : Steps → List Work → List ℕ
ladder_text steps orders =
    let journal = lines_after (one_leg steps) [] orders in
    reply_text journal (replay (one_leg steps) journal) steps

-- the first line, empty where there is none, and those behind it
abbrev pub first_line : List (List ℕ) → List ℕ
first_line [] = []
first_line (line ∷ lines) = line

abbrev pub later_lines : List (List ℕ) → List (List ℕ)
later_lines [] = []
later_lines (line ∷ lines) = lines

-- the ladder on line 1, and what follows it
abbrev pub with_ladder : {A : Type 0} → Result Steps LimitKind → (Steps → Result A DeskFault) → Result A DeskFault
with_ladder (Err kind) next = Err (faults.Limit (record { line = 1; kind = kind }))
with_ladder (Ok steps) next = next steps

abbrev pub with_orders : Steps → Result (List Work) DeskFault → Result (List ℕ) DeskFault
with_orders steps (Err fault) = Err fault
with_orders steps (Ok orders) = Ok (ladder_text steps orders)

-- a ladder, and then one order a line
abbrev pub answer_in : List (List ℕ) → Result (List ℕ) DeskFault
answer_in lines =
    with_ladder (ladder_in (first_line lines)) (λ steps. with_orders steps (orders_after 2 [] (later_lines lines)))

-- the text that `ladder` answers an input with, or the input's first fault
abbrev pub ladder_answer : List ℕ → Result (List ℕ) DeskFault
ladder_answer bytes = answer_in (lines_of bytes)

-- 16 MiB
abbrev pub most_ladder_bytes : ℕ
most_ladder_bytes = 16_777_216

-- the input is not too large, and the text answers it
pub record IsLadderText (bytes text : List ℕ) : Type 0 where
  pub within : length bytes ≤ most_ladder_bytes
  pub answers : ladder_answer bytes ≡ Ok text

-- the input is not too large, and the fault is its first
pub record IsRefusedLadder (fault : DeskFault) (bytes : List ℕ) : Type 0 where
  pub within : length bytes ≤ most_ladder_bytes
  pub first : ladder_answer bytes ≡ Err fault
