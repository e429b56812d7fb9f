-- What a desk is told of a journal: which replies and advices, and the line of each.
use Rattle.std.specs.Prelude.{◌≡◌, ◌==◌, ℕ, zero, suc, Bool, true, false, List, [], ◌∷◌, ◌++◌, drop, decimal, codes, Option, Some, None, slice_get, if◌then◌else◌}
use Rattle.std.specs.List.{flat_map}
use Rattle.airline_base.specs.Days.{IsDateText}
use Rattle.airline_base.specs.Fields.{suffix_text}
use Rattle.airimp_lines.specs.Grammar.{IsPlainLine, reply_of}
use Rattle.airimp_lines.specs.declared.segment.Segment.{Segment}
use Rattle.ssim_flights.specs.declared.flight.DatedLeg.{DatedLeg}
use Rattle.ssim_flights.specs.declared.flight.Flight.{Flight as Flown}
use Rattle.seat_journal.specs.declared.entry.Advice.{Advice}
use Rattle.seat_journal.specs.declared.entry.Change.{Change}
use Rattle.seat_journal.specs.declared.entry.Command.{Command}
use Rattle.seat_journal.specs.declared.entry.Entry.{Entry}
use Rattle.seat_journal.specs.declared.entry.SaleChange.{SaleChange}
use Rattle.seat_journal.specs.declared.entry.Work.{Work}
use Rattle.seat_journal.specs.declared.entry.Work.TheVariants.{Seats, Limit, Sale}
use Rattle.seat_journal.specs.Text.{scope_letter}
use Rattle.desk_telling.specs.Segments.{segment_of}

-- ---- which

-- the reply to a line; or an advice of a line, to the booking that a command made
pub data Telling : Type 0 where
  Replied : Entry → Telling
  Advised : Entry → Advice → Command → Telling

-- the line of a number, counted from 1
abbrev pub line_numbered : List Entry → ℕ → Option Entry
line_numbered journal zero = None
line_numbered journal (suc n) = slice_get journal n

abbrev pub command_in : Work → Option Command
command_in (Seats c) = Some c
command_in (Limit c) = None
command_in (Sale c) = None

-- what a line asked for, if it is of the desk's session and asked for seats
abbrev pub asked_by : ℕ → Option Entry → Option Command
asked_by desk None = None
asked_by desk (Some e) = (if e.session == desk then command_in e.work else None)

-- the command of the desk that made the booking of a number: it is that of the line of that number
abbrev pub made_by : List Entry → ℕ → ℕ → Option Command
made_by journal desk number = asked_by desk (line_numbered journal number)

abbrev pub advice_to : Entry → Advice → Option Command → List Telling
advice_to e a None = []
advice_to e a (Some c) = Advised e a c ∷ []

-- an advice is told to the desk whose booking it confirms, and to no other
abbrev pub advice_told : List Entry → ℕ → Entry → Advice → List Telling
advice_told journal desk e a = advice_to e a (made_by journal desk a.number)

abbrev pub advices_told : List Entry → ℕ → Entry → List Advice → List Telling
advices_told journal desk e advices = flat_map (advice_told journal desk e) advices

-- a reply is told to the desk that asked
abbrev pub reply_told : ℕ → Entry → List Telling
reply_told desk e = (if e.session == desk then Replied e ∷ [] else [])

-- what a desk is told of a line: the reply, and then the advices in their order
abbrev pub told_of : List Entry → ℕ → Entry → List Telling
told_of journal desk e = reply_told desk e ++ advices_told journal desk e e.advices

-- of these lines of a journal, one by one
abbrev pub told_of_each : List Entry → ℕ → List Entry → List Telling
told_of_each journal desk lines = flat_map (told_of journal desk) lines

-- of the lines of a journal behind line n
abbrev pub told_behind : List Entry → ℕ → ℕ → List Telling
told_behind journal desk n = told_of_each journal desk (drop n journal)

-- ---- the lines

-- DESK NUMBER: the desk's own session, and the number of the line that is told of
abbrev pub told_head : ℕ → Entry → List ℕ
told_head desk e = decimal desk ++ codes " " ++ decimal e.number ++ codes " "

-- the segment with this code and these seats; `-` stands for a segment that is not there
abbrev pub IsSegmentText : Option Segment → List ℕ → ℕ → List ℕ → Type 0
IsSegmentText (Some s) code seats text = IsPlainLine (reply_of s code seats) text
IsSegmentText None code seats text = text ≡ codes "- " ++ code ++ decimal seats

-- DESK NUMBER LOCATOR SEGMENT
pub record IsSeatsLine (flights : List Flown) (desk : ℕ) (e : Entry) (c : Command) (code : List ℕ) (seats : ℕ)
    (line : List ℕ) : Type 0 where
  pub text : List ℕ
  pub is_text : IsSegmentText (segment_of flights c) code seats text
  pub written : line ≡ told_head desk e ++ c.locator ++ codes " " ++ text ++ 10 ∷ []

-- DESIGNATOR DDMMMYY BOARDOFF
pub record IsLegName (flight : Flown) (leg : DatedLeg) (text : List ℕ) : Type 0 where
  pub day : List ℕ
  pub is_day : IsDateText leg.day day
  pub written : text ≡ flight.airline ++ decimal flight.number ++ suffix_text flight.suffix ++ codes " " ++ day
      ++ codes " " ++ leg.board ++ leg.off

-- `-` stands for a leg that is not there
abbrev pub IsLegOf : Flown → Option DatedLeg → List ℕ → Type 0
IsLegOf flight (Some leg) text = IsLegName flight leg text
IsLegOf flight None text = text ≡ codes "-"

abbrev pub IsLegOn : Option Flown → ℕ → List ℕ → Type 0
IsLegOn (Some flight) leg text = IsLegOf flight (slice_get flight.legs leg) text
IsLegOn None leg text = text ≡ codes "-"

-- CLASSLIMIT/WAIT REPLY
abbrev pub limit_text : Entry → Change → List ℕ
limit_text e c = (c.class ∷ []) ++ decimal c.limit ++ codes "/" ++ decimal c.wait ++ codes " " ++ e.reply

-- DESK NUMBER LEG CLASSLIMIT/WAIT REPLY
pub record IsLimitLine (flights : List Flown) (desk : ℕ) (e : Entry) (c : Change) (line : List ℕ) : Type 0 where
  pub leg : List ℕ
  pub is_leg : IsLegOn (slice_get flights c.flight) c.leg leg
  pub written : line ≡ told_head desk e ++ leg ++ codes " " ++ limit_text e c ++ 10 ∷ []

-- what is done to a class
abbrev pub sale_word : Bool → List ℕ
sale_word true = codes "CLOSE"
sale_word false = codes "OPEN"

-- CLASS CLOSE REPLY, or OPEN; `*` stands for all classes
abbrev pub sale_text : Entry → SaleChange → List ℕ
sale_text e c = (scope_letter c.class ∷ []) ++ codes " " ++ sale_word c.closed ++ codes " " ++ e.reply

-- DESK NUMBER LEG CLASS CLOSE REPLY, or OPEN
pub record IsSaleLine (flights : List Flown) (desk : ℕ) (e : Entry) (c : SaleChange) (line : List ℕ) : Type 0 where
  pub leg : List ℕ
  pub is_leg : IsLegOn (slice_get flights c.flight) c.leg leg
  pub written : line ≡ told_head desk e ++ leg ++ codes " " ++ sale_text e c ++ 10 ∷ []

-- the reply to what a line asked for
abbrev pub IsReplyLine : List Flown → ℕ → Entry → Work → List ℕ → Type 0
IsReplyLine flights desk e (Seats c) line = IsSeatsLine flights desk e c e.reply c.seats line
IsReplyLine flights desk e (Limit c) line = IsLimitLine flights desk e c line
IsReplyLine flights desk e (Sale c) line = IsSaleLine flights desk e c line

-- an advice has KL and its seats, with the locator and the segment of its booking
abbrev pub IsTold : List Flown → ℕ → Telling → List ℕ → Type 0
IsTold flights desk (Replied e) line = IsReplyLine flights desk e e.work line
IsTold flights desk (Advised e a c) line = IsSeatsLine flights desk e c (codes "KL") a.seats line

-- a line for each
abbrev pub AreTold : List Flown → ℕ → List Telling → List ℕ → Type 0
AreTold flights desk [] text = text ≡ []
AreTold flights desk (t ∷ ts) text =
    (line rest : List ℕ) × IsTold flights desk t line × (text ≡ line ++ rest) × AreTold flights desk ts rest

-- ---- the parts of the text

-- such a text is written behind what was there
pub record IsBehind (is : List ℕ → Type 0) (old new : List ℕ) : Type 0 where
  pub part : List ℕ
  pub is_part : is part
  pub written : new ≡ old ++ part

-- so are the lines of these
pub record AreToldBehind (flights : List Flown) (desk : ℕ) (tellings : List Telling) (old new : List ℕ) : Type 0 where
  pub part : List ℕ
  pub are_told : AreTold flights desk tellings part
  pub written : new ≡ old ++ part

-- something is, or nothing
pub record IsLonger (old new : List ℕ) : Type 0 where
  pub part : List ℕ
  pub written : new ≡ old ++ part
