-- The table of a history: a row for each line that asked for what is wanted, and for each advice to a booking that such a line made.
use Rattle.std.specs.Prelude.{ℕ, Bool, List, [], ◌∷◌, ◌++◌, codes, Option, Some, None}
use Rattle.airimp_lines.specs.declared.segment.Segment.{Segment}
use Rattle.ssim_flights.specs.declared.flight.Flight.{Flight as Flown}
use Rattle.seat_journal.specs.declared.entry.Advice.{Advice}
use Rattle.seat_journal.specs.declared.entry.Command.{Command}
use Rattle.seat_journal.specs.declared.entry.Entry.{Entry}
use Rattle.seat_nesting.specs.Nesting.{Ladders}
use Rattle.seat_rules.specs.Applying.{effect_of}
use Rattle.seat_rules.specs.declared.effect.Effect.{Effect}
use Rattle.seat_rules.specs.declared.effect.Effect.TheVariants.{Holds, Waits, Reduces}
use Rattle.seat_lists.specs.declared.picking.Wanted.{Wanted}
use Rattle.desk_telling.specs.Segments.{segment_of}
use Rattle.desk_telling.specs.Telling.{line_numbered}
use Rattle.desk_questions.specs.History.{asked_in, is_wanted, under}
use Rattle.seat_tables.specs.Rows.{rows_from}
use Rattle.seat_tables.specs.declared.cell.Cell.{Cell}
use Rattle.seat_tables.specs.declared.cell.Cell.TheVariants.{Number, Date, Stop, Letter, Name, Word, Flight, Nothing}

abbrev pub history_names : List (List ℕ)
history_names =
    codes "number" ∷ codes "session" ∷ codes "locator" ∷ codes "designator" ∷ codes "class" ∷ codes "day" ∷ codes "board" ∷ codes "off"
    ∷ codes "code" ∷ codes "seats" ∷ codes "reply" ∷ codes "holds" ∷ codes "waits" ∷ codes "cancels" ∷ []

-- ---- the segment; of one that no flight has nothing is known

abbrev pub designator_in : Option Segment → Cell
designator_in None = Nothing
designator_in (Some s) = Flight s.airline s.number s.suffix

abbrev pub day_in : Option Segment → Cell
day_in None = Nothing
day_in (Some s) = Date s.day

abbrev pub board_in : Option Segment → Cell
board_in None = Nothing
board_in (Some s) = Stop s.board

abbrev pub off_in : Option Segment → Cell
off_in None = Nothing
off_in (Some s) = Stop s.off

-- ---- what a reply does with so many seats

abbrev pub held_by : Effect → ℕ → ℕ
held_by Holds seats = seats
held_by _ seats = 0

abbrev pub listed_by : Effect → ℕ → ℕ
listed_by Waits seats = seats
listed_by _ seats = 0

abbrev pub cancelled_by : Effect → ℕ → ℕ
cancelled_by Reduces seats = seats
cancelled_by _ seats = 0

-- ---- rows

-- a line, its session and the locator, the segment as it was asked for, its code and seats, the reply, and what that did
abbrev pub asked_row : List Flown → Entry → Command → List Cell
asked_row flights e c =
    Number e.number ∷ Number e.session ∷ Name c.locator ∷ designator_in (segment_of flights c) ∷ Letter c.class ∷ day_in (segment_of flights c)
    ∷ board_in (segment_of flights c) ∷ off_in (segment_of flights c) ∷ Word c.code ∷ Number c.seats ∷ Word e.reply
    ∷ Number (held_by (effect_of e.reply) c.seats) ∷ Number (listed_by (effect_of e.reply) c.seats)
    ∷ Number (cancelled_by (effect_of e.reply) c.seats) ∷ []

-- the segment of the booking that is confirmed, with KL and the seats of the advice, which are held from then on; an advice has no reply
abbrev pub advice_row : List Flown → Entry → Advice → Command → List Cell
advice_row flights e a c =
    Number e.number ∷ Number e.session ∷ Name c.locator ∷ designator_in (segment_of flights c) ∷ Letter c.class ∷ day_in (segment_of flights c)
    ∷ board_in (segment_of flights c) ∷ off_in (segment_of flights c) ∷ Word (codes "KL") ∷ Number a.seats ∷ Nothing
    ∷ Number a.seats ∷ Number 0 ∷ Number 0 ∷ []

abbrev pub asked_rows : List Flown → Entry → Option Command → List (List Cell)
asked_rows flights e None = []
asked_rows flights e (Some c) = asked_row flights e c ∷ []

abbrev pub confirmed_rows : List Flown → Entry → Advice → Option Command → List (List Cell)
confirmed_rows flights e a None = []
confirmed_rows flights e a (Some c) = advice_row flights e a c ∷ []

-- the booking of an advice was made by the line of its number
abbrev pub advice_rows : List Flown → List Entry → (Command → Bool) → Entry → ℕ → Advice → List (List Cell)
advice_rows flights journal keeps e k a =
    confirmed_rows flights e a (asked_in keeps (line_numbered journal a.number))

-- of a line what it asked, and then its advices in their order
abbrev pub line_rows : List Flown → List Entry → (Command → Bool) → ℕ → Entry → List (List Cell)
line_rows flights journal keeps k e =
    asked_rows flights e (under keeps e.work) ++ rows_from (advice_rows flights journal keeps e) 0 e.advices

abbrev pub history_rows : Wanted → List Flown → Ladders → List Entry → List (List Cell)
history_rows wanted flights grid journal = rows_from (line_rows flights journal (is_wanted flights wanted)) 0 journal
