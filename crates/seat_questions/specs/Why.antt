-- What `why` writes: a line of the journal, its legs as they stood before it, and the right answer beside the one that was given.
use Rattle.std.specs.Prelude.{◌≡◌, ◌≤◌, ◌==◌, ◌&&◌, ℕ, ◌+◌, ◌-◌, nat_le, nat_lt, Bool, true, false, List, [], ◌∷◌, ◌++◌, length, take, slice_get, decimal, codes, Option, Some, None, if◌then◌else◌}
use Rattle.std.specs.List.{flat_map, list_any}
use Rattle.airline_base.specs.declared.place.Place.{Place}
use Rattle.ssim_flights.specs.declared.flight.DatedLeg.{DatedLeg}
use Rattle.ssim_flights.specs.declared.flight.Flight.{Flight as Flown}
use Rattle.seat_nesting.specs.Nesting.{ByClass, Ladders, Steps, held_from, ladder_at}
use Rattle.seat_nesting.specs.declared.ladder.Step.{Step}
use Rattle.seat_journal.specs.Reading.{IsFirstFault}
use Rattle.seat_journal.specs.Text.{IsJournalText, advice_text, entry_text}
use Rattle.seat_journal.specs.declared.entry.Entry.{Entry}
use Rattle.seat_journal.specs.declared.entry.Work.{Work}
use Rattle.seat_journal.specs.declared.entry.Work.TheVariants.{Seats, Limit, Sale}
use Rattle.seat_rules.specs.Bookings.{held, waiting}
use Rattle.seat_rules.specs.Journal.{IsLegal, asker, calls_of, next_line, replay}
use Rattle.seat_rules.specs.Replaying.{fits_work, is_called, may_ask, replay_fault}
use Rattle.seat_rules.specs.Sequential.{State, room_left}
use Rattle.seat_desk.specs.AuditDesk.{most_journal_bytes, most_lines}
use Rattle.seat_desk.specs.FlightsDesk.{IsLegText, IsText}
use Rattle.seat_desk.specs.declared.fault.DeskFault.{DeskFault}
use Rattle.seat_desk.specs.declared.fault.DeskFault.TheVariants.{Journal, Replay, NoLine}

-- ---- a leg, its classes in the ladder's order

-- one leg of a flight
abbrev pub one_leg : ℕ → ℕ → Place
one_leg flight leg = record { flight = flight; from = leg; to = leg }

-- a blank, the class and a number
abbrev pub class_text : ℕ → ℕ → List ℕ
class_text class n = codes " " ++ (class ∷ []) ++ decimal n

-- the limit of a class
abbrev pub limit_text : Step → List ℕ
limit_text step = class_text step.class step.limit

-- the seats that are held in each class and those below it
abbrev pub held_texts : ByClass → Steps → List ℕ
held_texts seats [] = []
held_texts seats (s ∷ lower) = class_text s.class (held_from seats (s ∷ lower)) ++ held_texts seats lower

-- the room in a class on that leg alone
abbrev pub room_text : State → ℕ → ℕ → Step → List ℕ
room_text s flight leg step = class_text step.class (room_left s (one_leg flight leg) step.class)

-- the seats that wait in a class, of the most that may
abbrev pub wait_text : ByClass → Step → List ℕ
wait_text seats step = class_text step.class (seats step.class) ++ codes "/" ++ decimal step.wait

abbrev pub limit_line : Steps → List ℕ
limit_line steps = codes "LIMIT" ++ flat_map limit_text steps ++ 10 ∷ []

abbrev pub held_line : ByClass → Steps → List ℕ
held_line seats steps = codes "HELD" ++ held_texts seats steps ++ 10 ∷ []

abbrev pub room_line : State → ℕ → ℕ → Steps → List ℕ
room_line s flight leg steps = codes "ROOM" ++ flat_map (room_text s flight leg) steps ++ 10 ∷ []

abbrev pub wait_line : ByClass → Steps → List ℕ
wait_line seats steps = codes "WAIT" ++ flat_map (wait_text seats) steps ++ 10 ∷ []

-- a blank and the class, where it is closed
abbrev pub closed_text : Step → List ℕ
closed_text step = (if step.closed then codes " " ++ step.class ∷ [] else [])

abbrev pub is_closed : Step → Bool
is_closed step = step.closed

-- the classes that are closed, where there are any
abbrev pub closed_line : Steps → List ℕ
closed_line steps = (if list_any is_closed steps then codes "CLOSED" ++ flat_map closed_text steps ++ 10 ∷ [] else [])

-- LIMIT, HELD, ROOM and WAIT of a leg with this ladder, and CLOSED where a class is
abbrev pub ladder_lines : State → ℕ → ℕ → Steps → List ℕ
ladder_lines s flight leg steps =
    limit_line steps ++ held_line (held s.bookings flight leg) steps ++ room_line s flight leg steps
    ++ wait_line (waiting s.bookings flight leg) steps ++ closed_line steps

-- how a leg stands
abbrev pub standing_text : State → ℕ → ℕ → List ℕ
standing_text s flight leg = ladder_lines s flight leg (ladder_at s.grid flight leg)

-- LEG BOARD/DAY/OFF, and how the leg stands
pub record IsLegStanding (s : State) (flight leg : ℕ) (dated : DatedLeg) (text : List ℕ) : Type 0 where
  pub way : List ℕ
  pub is_way : IsLegText 0 dated way
  pub written : text ≡ codes "LEG" ++ way ++ (10 ∷ []) ++ standing_text s flight leg

-- such lines are written behind what was there
pub record IsStandingPut (s : State) (flight leg : ℕ) (dated : DatedLeg) (old new : List ℕ) : Type 0 where
  pub part : List ℕ
  pub is_standing : IsLegStanding s flight leg dated part
  pub put : new ≡ old ++ part

-- ---- the legs of a place

-- the place covers the leg of its flight
abbrev pub has_leg : Place → ℕ → Bool
has_leg place leg = nat_le place.from leg && nat_le leg place.to

abbrev pub IsLegPartBy : Bool → State → ℕ → ℕ → DatedLeg → List ℕ → Type 0
IsLegPartBy true s flight leg dated text = IsLegStanding s flight leg dated text
IsLegPartBy false s flight leg dated text = text ≡ []

-- a leg of the place's flight, where the place covers it
abbrev pub IsLegPart : State → Place → ℕ → DatedLeg → List ℕ → Type 0
IsLegPart s place leg dated text = IsLegPartBy (has_leg place leg) s place.flight leg dated text

-- such a part is written behind what was there
pub record IsLegPut (s : State) (place : Place) (leg : ℕ) (dated : DatedLeg) (old new : List ℕ) : Type 0 where
  pub part : List ℕ
  pub is_part : IsLegPart s place leg dated part
  pub put : new ≡ old ++ part

abbrev pub legs_in : Option Flown → List DatedLeg
legs_in None = []
legs_in (Some flight) = flight.legs

abbrev pub dated_legs : List Flown → ℕ → List DatedLeg
dated_legs flights flight = legs_in (slice_get flights flight)

-- each leg of the place; no place has none
abbrev pub IsPlaceText : List Flown → State → Option Place → List ℕ → Type 0
IsPlaceText flights s None text = text ≡ []
IsPlaceText flights s (Some place) text = IsText (IsLegPart s place) 0 (dated_legs flights place.flight) text

-- such a text is written behind what was there
pub record IsPlacePut (flights : List Flown) (s : State) (place : Option Place) (old new : List ℕ) : Type 0 where
  pub part : List ℕ
  pub is_text : IsPlaceText flights s place part
  pub put : new ≡ old ++ part

-- the place of a line: that of its seats, or the one leg whose limit it changes, or on which it closes or opens a class
abbrev pub place_of_line : Work → Option Place
place_of_line (Seats c) = c.place
place_of_line (Limit c) = Some (one_leg c.flight c.leg)
place_of_line (Sale c) = Some (one_leg c.flight c.leg)

-- ---- the answer

-- the reply, the released seats and the advices, as the journal's line has them
abbrev pub answer_text : Entry → List ℕ
answer_text e = e.reply ++ codes " " ++ decimal e.released ++ flat_map advice_text e.advices

-- the session that asks: that of the line, where it may ask for this, and else the one that asks where one asks for all
abbrev pub right_session : Entry → ℕ
right_session e = (if may_ask e.session e.work then e.session else asker e.work)

-- the line that the sequential step gives over the lines before, as the next one and the next call of its session
abbrev pub right_line : Ladders → List Entry → Entry → Entry
right_line grid past e =
    next_line grid past (right_session e) (calls_of past (right_session e) + 1) e.work

-- the line is the next one, its session may ask for this, and its call is that session's next
abbrev pub is_next_call : List Entry → Entry → Bool
is_next_call past e = (e.number == length past + 1) && is_called past e

-- number, session and call, and the answer behind them
abbrev pub called_text : Entry → List ℕ
called_text e =
    decimal e.number ++ codes " " ++ decimal e.session ++ codes " " ++ decimal e.call ++ codes " " ++ answer_text e

-- the answer alone, or with the number, the session and the call ahead of it
abbrev pub told_text : Bool → Entry → List ℕ
told_text true e = answer_text e
told_text false e = called_text e

-- GIVEN and what the line says
abbrev pub given_text : List ℕ → List ℕ
given_text given = codes " GIVEN " ++ given ++ 10 ∷ []

-- RIGHT and what is right, beside what was given
abbrev pub verdict_text : List ℕ → List ℕ → List ℕ
verdict_text right given = codes "RIGHT " ++ right ++ given_text given

-- the right line beside the given one: their answers, and also their numbers, sessions and calls where these are not right
abbrev pub compared_text : List Entry → Entry → Entry → List ℕ
compared_text past right e =
    verdict_text (told_text (is_next_call past e) right) (told_text (is_next_call past e) e)

-- no answer is right
abbrev pub unasked_text : Entry → List ℕ
unasked_text e = verdict_text (codes "NONE") (answer_text e)

-- ---- the whole

-- the step can be asked: the seats, the place, the leg and the limits may be, and a journal has room for the line
abbrev pub can_ask : Ladders → List Entry → Work → Bool
can_ask grid past work = fits_work grid work && nat_lt (length past) most_lines

-- the line, its legs, and the right line beside the given one
pub record IsReason (flights : List Flown) (grid : Ladders) (past : List Entry) (e : Entry) (text : List ℕ) : Type 0
  where
    pub legs : List ℕ
    pub are_legs : IsPlaceText flights (replay grid past) (place_of_line e.work) legs
    pub written : text ≡ entry_text e ++ legs ++ compared_text past (right_line grid past e) e

-- without legs, and none is right, where the step can't be asked
abbrev pub IsWhyBy : Bool → List Flown → Ladders → List Entry → Entry → List ℕ → Type 0
IsWhyBy true flights grid past e text = IsReason flights grid past e text
IsWhyBy false flights grid past e text = text ≡ entry_text e ++ unasked_text e

-- the text says why the entry behind these lines has its answer
abbrev pub IsWhyText : List Flown → Ladders → List Entry → Entry → List ℕ → Type 0
IsWhyText flights grid past e text = IsWhyBy (can_ask grid past e.work) flights grid past e text

-- the lines before line n, counted from 1
abbrev pub lines_before : ℕ → List Entry → List Entry
lines_before n entries = take (n - 1) entries

-- line n is the journal's
pub record HasLine (n : ℕ) (entries : List Entry) : Type 0 where
  pub from_one : 1 ≤ n
  pub within : n ≤ length entries

-- the lines before are a legal history, and the text says why the entry behind them has its answer
pub record IsReasoned (flights : List Flown) (grid : Ladders) (past : List Entry) (e : Entry) (text : List ℕ) : Type 0
  where
    pub legal : IsLegal grid past
    pub few : length past ≤ most_lines
    pub is_why : IsWhyText flights grid past e text

-- the bytes are a journal's text, whose line n the text reasons
pub record IsExplained (flights : List Flown) (grid : Ladders) (n : ℕ) (bytes text : List ℕ) : Type 0 where
  pub entries : List Entry
  pub entry : Entry
  pub is_text : IsJournalText bytes entries
  pub has_line : HasLine n entries
  pub there : slice_get entries (n - 1) ≡ Some entry
  pub reasoned : IsReasoned flights grid (lines_before n entries) entry text

-- the fault is that of these lines
abbrev pub IsRefusedPast : Ladders → List Entry → DeskFault → Type 0
IsRefusedPast grid past (Replay fault) = replay_fault grid most_lines past ≡ Some fault
IsRefusedPast grid past _ = ⊥

-- the fault is the first of the text, or the text has no such line, or the fault is that of the lines before it
abbrev pub IsRefusedLine : Ladders → ℕ → DeskFault → List ℕ → Type 0
IsRefusedLine grid n (Journal fault) bytes = IsFirstFault bytes fault.line fault.kind
IsRefusedLine grid n NoLine bytes = (entries : List Entry) × IsJournalText bytes entries × (HasLine n entries → ⊥)
IsRefusedLine grid n (Replay fault) bytes =
    (entries : List Entry) × IsJournalText bytes entries × HasLine n entries
    × (replay_fault grid most_lines (lines_before n entries) ≡ Some fault)
IsRefusedLine grid n _ bytes = ⊥

-- and there is nothing to be explained
abbrev pub IsUnexplained : Ladders → ℕ → List ℕ → Type 0
IsUnexplained grid n bytes =
    (entries : List Entry) → IsJournalText bytes entries → HasLine n entries → IsLegal grid (lines_before n entries)
    → length (lines_before n entries) ≤ most_lines → ⊥

-- the bytes are not too large, but they are refused
pub record IsUnreasoned (grid : Ladders) (n : ℕ) (fault : DeskFault) (bytes : List ℕ) : Type 0 where
  pub within : length bytes ≤ most_journal_bytes
  pub refused : IsRefusedLine grid n fault bytes
  pub none : IsUnexplained grid n bytes
