-- What `history` writes: what the lines of a journal did for what is wanted of it, in their order.
use Rattle.std.specs.Prelude.{◌≡◌, ◌==◌, ◌&&◌, ◌||◌, ℕ, Bool, is_none, nat_eq, List, [], ◌∷◌, ◌++◌, length, decimal, codes, Option, Some, None, if◌then◌else◌}
use Rattle.std.specs.Cmp.Lexicographic.{pointwise}
use Rattle.std.specs.List.{flat_map, list_any}
use Rattle.airline_base.specs.declared.place.Place.{Place}
use Rattle.ssim_flights.specs.declared.flight.Flight.{Flight as Flown}
use Rattle.seat_journal.specs.declared.entry.Advice.{Advice}
use Rattle.seat_journal.specs.declared.entry.Command.{Command}
use Rattle.seat_journal.specs.declared.entry.Entry.{Entry}
use Rattle.seat_journal.specs.declared.entry.Work.{Work}
use Rattle.seat_journal.specs.declared.entry.Work.TheVariants.{Seats, Limit, Sale}
use Rattle.seat_rules.specs.Applying.{effect_of}
use Rattle.seat_rules.specs.declared.effect.Effect.{Effect}
use Rattle.seat_rules.specs.declared.effect.Effect.TheVariants.{Holds, Waits, Reduces, Nothing}
use Rattle.seat_desk.specs.FlightsDesk.{IsText}
use Rattle.seat_lists.specs.Picking.{keeps_place}
use Rattle.seat_lists.specs.declared.picking.Wanted.{Wanted}
use Rattle.desk_telling.specs.Segments.{segment_of}
use Rattle.desk_telling.specs.Telling.{IsSegmentText, line_numbered}

-- ---- which

-- a line, and what it asked of what is wanted; or an advice of a line, to the booking that such a command made
pub data Event : Type 0 where
  Asked : Entry → Command → Event
  Confirmed : Entry → Advice → Command → Event

-- each locator is wanted, or these
abbrev pub keeps_locator : List (List ℕ) → List ℕ → Bool
keeps_locator locators locator = (length locators == 0) || list_any (λ one. pointwise nat_eq one locator) locators

-- each place is wanted, or those of a flight, or those whose first leg departs on a day; a segment that no flight has is of none of these
abbrev pub keeps_asked : List Flown → Wanted → Option Place → Bool
keeps_asked flights wanted None = is_none wanted.flight && is_none wanted.day
keeps_asked flights wanted (Some place) = keeps_place flights wanted place

abbrev pub is_wanted : List Flown → Wanted → Command → Bool
is_wanted flights wanted c = keeps_locator wanted.locators.now c.locator && keeps_asked flights wanted c.place

-- what is asked, if it is wanted
abbrev pub under : (Command → Bool) → Work → Option Command
under keeps (Seats c) = (if keeps c then Some c else None)
under keeps (Limit c) = None
under keeps (Sale c) = None

abbrev pub asked_in : (Command → Bool) → Option Entry → Option Command
asked_in keeps None = None
asked_in keeps (Some e) = under keeps e.work

abbrev pub asked_event : Entry → Option Command → List Event
asked_event e None = []
asked_event e (Some c) = Asked e c ∷ []

abbrev pub confirmed_event : Entry → Advice → Option Command → List Event
confirmed_event e a None = []
confirmed_event e a (Some c) = Confirmed e a c ∷ []

-- the booking of an advice was made by the line of its number
abbrev pub advice_events : List Entry → (Command → Bool) → Entry → Advice → List Event
advice_events journal keeps e a = confirmed_event e a (asked_in keeps (line_numbered journal a.number))

-- of a line what it asked, and then its advices in their order
abbrev pub events_in : List Entry → (Command → Bool) → Entry → List Event
events_in journal keeps e =
    asked_event e (under keeps e.work) ++ flat_map (advice_events journal keeps e) e.advices

abbrev pub history_of : List Entry → (Command → Bool) → List Event
history_of journal keeps = flat_map (events_in journal keeps) journal

-- ---- the lines

-- the locator and a blank, unless one alone is wanted
abbrev pub locator_part : Bool → List ℕ → List ℕ
locator_part alone locator = (if alone then [] else locator ++ codes " ")

-- NUMBER SESSION [LOCATOR]
abbrev pub event_head : Bool → Entry → Command → List ℕ
event_head alone e c = decimal e.number ++ codes " " ++ decimal e.session ++ codes " " ++ locator_part alone c.locator

-- what a reply does with so many seats
abbrev pub effect_text : Effect → ℕ → List ℕ
effect_text Holds seats = codes " HOLDS " ++ decimal seats
effect_text Waits seats = codes " WAITS " ++ decimal seats
effect_text Reduces seats = codes " CANCELS " ++ decimal seats
effect_text Nothing seats = codes " NOTHING"

-- NUMBER SESSION [LOCATOR], the segment as it was asked for, REPLY, and what it did
pub record IsAskedLine (alone : Bool) (flights : List Flown) (e : Entry) (c : Command) (line : List ℕ) : Type 0 where
  pub text : List ℕ
  pub is_text : IsSegmentText (segment_of flights c) c.code c.seats text
  pub written : line ≡ event_head alone e c ++ text ++ codes " " ++ e.reply ++ effect_text (effect_of e.reply) c.seats ++ 10 ∷ []

-- NUMBER SESSION [LOCATOR], the segment with KL and the seats of the advice, which are held from then on
pub record IsConfirmedLine (alone : Bool) (flights : List Flown) (e : Entry) (a : Advice) (c : Command) (line : List ℕ) : Type 0 where
  pub text : List ℕ
  pub is_text : IsSegmentText (segment_of flights c) (codes "KL") a.seats text
  pub written : line ≡ event_head alone e c ++ text ++ effect_text Holds a.seats ++ 10 ∷ []

abbrev pub IsEventLine : Bool → List Flown → Event → List ℕ → Type 0
IsEventLine alone flights (Asked e c) line = IsAskedLine alone flights e c line
IsEventLine alone flights (Confirmed e a c) line = IsConfirmedLine alone flights e a c line

-- a line for each
abbrev pub IsHistoryText : Bool → List Flown → List Event → List ℕ → Type 0
IsHistoryText alone flights events text = IsText (λ n. IsEventLine alone flights) 0 events text

-- ---- the parts of the text

-- such lines are written behind what was there
pub record AreEventsPut (alone : Bool) (flights : List Flown) (events : List Event) (old new : List ℕ) : Type 0 where
  pub part : List ℕ
  pub are_lines : IsHistoryText alone flights events part
  pub written : new ≡ old ++ part
