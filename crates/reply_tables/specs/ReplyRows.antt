-- The table of the replies to the lines that were added to a journal: a row for each line that is wanted, and for each of its advices.
use Rattle.std.specs.Prelude.{◌≡◌, ◌+◌, ℕ, Bool, true, false, List, [], ◌∷◌, ◌++◌, codes, length, Option, Some, None, slice_get}
use Rattle.airimp_lines.specs.declared.requests.Request.{Request}
use Rattle.airimp_lines.specs.declared.segment.Segment.{Segment}
use Rattle.ssim_flights.specs.declared.flight.Flight.{Flight as Flown}
use Rattle.seat_journal.specs.declared.entry.Advice.{Advice}
use Rattle.seat_journal.specs.declared.entry.Change.{Change}
use Rattle.seat_journal.specs.declared.entry.Command.{Command}
use Rattle.seat_journal.specs.declared.entry.Entry.{Entry}
use Rattle.seat_journal.specs.declared.entry.SaleChange.{SaleChange}
use Rattle.seat_journal.specs.declared.entry.Work.{Work}
use Rattle.seat_journal.specs.declared.entry.Work.TheVariants.{Seats, Limit, Sale}
use Rattle.seat_rules.specs.Histories.{by_session}
use Rattle.desk_telling.specs.Segments.{segment_of}
use Rattle.desk_telling.specs.Telling.{line_numbered}
use Rattle.seat_replies.specs.Answering.{IsAnswerable}
use Rattle.seat_replies.specs.RunDesk.{requests_of}
use Rattle.seat_scripts.specs.Replying.{is_wanted}
use Rattle.seat_scripts.specs.declared.by_session.Wanted.{Wanted}
use Rattle.seat_tables.specs.Rows.{rows_from}
use Rattle.seat_tables.specs.declared.cell.Cell.{Cell}
use Rattle.seat_tables.specs.declared.cell.Cell.TheVariants.{Number, Date, Stop, Letter, Name, Word, Flight as Designator, Nothing}

abbrev pub reply_names : List (List ℕ)
reply_names =
    codes "number" ∷ codes "session" ∷ codes "locator" ∷ codes "designator" ∷ codes "class" ∷ codes "day" ∷ codes "board" ∷ codes "off"
    ∷ codes "code" ∷ codes "seats" ∷ codes "reply" ∷ codes "flight" ∷ codes "leg" ∷ codes "limit" ∷ codes "may_wait" ∷ []

-- ---- rows

-- the line and its session, the locator, and a segment with this code and these seats, and the reply
abbrev pub segment_row : Entry → List ℕ → Segment → List ℕ → ℕ → Cell → List Cell
segment_row e locator s code seats reply =
    Number e.number ∷ Number e.session ∷ Name locator ∷ Designator s.airline s.number s.suffix ∷ Letter s.class ∷ Date s.day
    ∷ Stop s.board ∷ Stop s.off ∷ Word code ∷ Number seats ∷ reply ∷ Nothing ∷ Nothing ∷ Nothing ∷ Nothing ∷ []

-- a change: its class and the reply, and the flight and the leg, counted from 0, with the limit and the seats that may wait
abbrev pub change_row : Entry → Change → List Cell
change_row e c =
    Number e.number ∷ Number e.session ∷ Nothing ∷ Nothing ∷ Letter c.class ∷ Nothing ∷ Nothing ∷ Nothing ∷ Nothing ∷ Nothing
    ∷ Word e.reply ∷ Number c.flight ∷ Number c.leg ∷ Number c.limit ∷ Number c.wait ∷ []

-- CL where a class is closed, OP where it is opened
abbrev pub sale_code : Bool → List ℕ
sale_code true = codes "CL"
sale_code false = codes "OP"

-- the class, or nothing where it is each
abbrev pub scope_cell : Option ℕ → Cell
scope_cell None = Nothing
scope_cell (Some class) = Letter class

-- a class that is closed or opened: it, what is done to it and the reply, and the flight and the leg, counted from 0
abbrev pub sale_row : Entry → SaleChange → List Cell
sale_row e c =
    Number e.number ∷ Number e.session ∷ Nothing ∷ Nothing ∷ scope_cell c.class ∷ Nothing ∷ Nothing ∷ Nothing
    ∷ Word (sale_code c.closed) ∷ Nothing ∷ Word e.reply ∷ Number c.flight ∷ Number c.leg ∷ Nothing ∷ Nothing ∷ []

-- where the segment is there
abbrev pub row_on : Entry → List ℕ → Option Segment → List ℕ → ℕ → Cell → Option (List Cell)
row_on e locator None code seats reply = None
row_on e locator (Some s) code seats reply = Some (segment_row e locator s code seats reply)

-- the segment on the flight of a place, on that flight's day; or else that of the request, as its script has it
abbrev pub asked_segment : Option Segment → Option Request → Option Segment
asked_segment (Some s) request = Some s
asked_segment None (Some r) = Some r.segment
asked_segment None None = None

-- a request, with the code and the seats that were asked, and the reply
abbrev pub request_row : List Flown → Option Request → Entry → Command → Option (List Cell)
request_row flights request e c =
    row_on e c.locator (asked_segment (segment_of flights c) request) c.code c.seats (Word e.reply)

-- what a line asks for, beside the request at this place
abbrev pub asked_row : List Flown → List Request → ℕ → Entry → Work → Option (List Cell)
asked_row flights requests place e (Seats c) = request_row flights (slice_get requests place) e c
asked_row flights requests place e (Limit c) = Some (change_row e c)
asked_row flights requests place e (Sale c) = Some (sale_row e c)

-- an advice: the locator and the segment of its booking, which a line's command made, with KL and the seats that are confirmed. It has no reply
abbrev pub confirmed_by : List Flown → Entry → Advice → Work → Option (List Cell)
confirmed_by flights e a (Seats c) = row_on e c.locator (segment_of flights c) (codes "KL") a.seats Nothing
confirmed_by flights e a (Limit c) = None
confirmed_by flights e a (Sale c) = None

-- that is the line of the booking's number
abbrev pub confirmed_in : List Flown → Entry → Advice → Option Entry → Option (List Cell)
confirmed_in flights e a None = None
confirmed_in flights e a (Some made) = confirmed_by flights e a made.work

abbrev pub advice_row : List Flown → List Entry → Entry → Advice → Option (List Cell)
advice_row flights history e a = confirmed_in flights e a (line_numbered history a.number)

-- ---- tables

abbrev pub rows_in : Option (List Cell) → List (List Cell)
rows_in None = []
rows_in (Some row) = row ∷ []

abbrev pub advice_rows : List Flown → List Entry → Entry → ℕ → Advice → List (List Cell)
advice_rows flights history e k a = rows_in (advice_row flights history e a)

-- what a line asks for, and then its advices
abbrev pub answer_rows : List Flown → List Request → List Entry → ℕ → Entry → List (List Cell)
answer_rows flights requests history place e =
    rows_in (asked_row flights requests place e e.work) ++ rows_from (advice_rows flights history e) 0 e.advices

abbrev pub rows_if : Bool → List (List Cell) → List (List Cell)
rows_if true rows = rows
rows_if false rows = []

-- of a line whose reply is wanted
abbrev pub wanted_rows : Wanted → List Flown → List Request → List Entry → ℕ → Entry → List (List Cell)
wanted_rows wanted flights requests history place e =
    rows_if (is_wanted wanted e) (answer_rows flights requests history place e)

-- of the lines of a session, each beside the request at its place
abbrev pub session_rows : Wanted → List Flown → List (List Request) → List Entry → ℕ → List Entry → List (List Cell)
session_rows wanted flights scripts history session lines =
    rows_from (wanted_rows wanted flights (requests_of scripts session) history) 0 lines

-- of the lines that were added behind the past: of session 0, the manager, then of session 1, and so on
abbrev pub reply_rows : Wanted → List Flown → List Entry → List (List Request) → List Entry → List (List Cell)
reply_rows wanted flights past scripts added =
    rows_from (session_rows wanted flights scripts (past ++ added)) 0 (by_session (length scripts) added)

-- ---- the law

-- a line that can be answered has a row, and so has each of its advices
abbrev pub LinesHaveRows : Type 0
LinesHaveRows =
    (flights : List Flown) (requests : List Request) (history : List Entry) (place : ℕ) (e : Entry) →
    IsAnswerable flights requests history place e
    → length (answer_rows flights requests history place e) ≡ 1 + length e.advices
