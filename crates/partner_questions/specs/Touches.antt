-- The last line of a journal that touched a booking: it made it, took seats off it or confirmed it.
use Rattle.std.specs.Prelude.{ℕ, Bool, true, false, List, [], ◌∷◌, ◌++◌, Option, Some, None, if◌then◌else◌}
use Rattle.std.specs.List.{flat_map}
use Rattle.airimp_lines.specs.declared.segment.Segment.{Segment}
use Rattle.ssim_flights.specs.declared.flight.Flight.{Flight as Flown}
use Rattle.seat_journal.specs.declared.entry.Advice.{Advice}
use Rattle.seat_journal.specs.declared.entry.Command.{Command}
use Rattle.seat_journal.specs.declared.entry.Entry.{Entry}
use Rattle.seat_journal.specs.declared.entry.Work.{Work}
use Rattle.seat_journal.specs.declared.entry.Work.TheVariants.{Seats, Limit, Sale}
use Rattle.seat_rules.specs.Applying.{effect_of}
use Rattle.seat_rules.specs.declared.effect.Effect.{Effect}
use Rattle.seat_rules.specs.declared.effect.Effect.TheVariants.{Holds, Waits, Reduces, Nothing}
use Rattle.desk_telling.specs.Segments.{segment_of}
use Rattle.desk_telling.specs.Telling.{line_numbered}
use Rattle.partner_lists.specs.Names.{name_of}
use Rattle.partner_lists.specs.declared.name.Name.{Name}

-- a name with what is kept for it, if there is one
abbrev pub paired : {V : Type 0} → Option Name → V → List (Name × V)
paired None value = []
paired (Some name) value = (name, value) ∷ []

abbrev pub name_in : List ℕ → Option Segment → Option Name
name_in locator None = None
name_in locator (Some segment) = Some (name_of locator segment)

-- the name of the booking that a command speaks of, where a flight has its segment
abbrev pub name_on : List Flown → Command → Option Name
name_on flights c = name_in c.locator (segment_of flights c)

abbrev pub name_asked : List Flown → Work → Option Name
name_asked flights (Seats c) = name_on flights c
name_asked flights (Limit c) = None
name_asked flights (Sale c) = None

-- seats are held or wait from then on, or are taken off
abbrev pub touches : Effect → Bool
touches Holds = true
touches Waits = true
touches Reduces = true
touches Nothing = false

-- the booking that a line speaks of, if it touches it
abbrev pub own_touched : List Flown → Entry → Option Name
own_touched flights e = (if touches (effect_of e.reply) then name_asked flights e.work else None)

-- the booking that a line made
abbrev pub made_in : List Flown → Option Entry → Option Name
made_in flights None = None
made_in flights (Some e) = name_asked flights e.work

-- the booking of an advice was made by the line of its number
abbrev pub advice_touched : List Flown → List Entry → Entry → Advice → List (Name × ℕ)
advice_touched flights journal e a = paired (made_in flights (line_numbered journal a.number)) e.number

-- what a line touches, with its number: its own booking, and those of its advices
abbrev pub touched_in : List Flown → List Entry → Entry → List (Name × ℕ)
touched_in flights journal e =
    paired (own_touched flights e) e.number ++ flat_map (advice_touched flights journal e) e.advices

abbrev pub touched : List Flown → List Entry → List (Name × ℕ)
touched flights journal = flat_map (touched_in flights journal) journal
