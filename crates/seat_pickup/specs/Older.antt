-- A journal beside the lines that stand ahead of those that are looked at: so many, or those of an older journal.
use Rattle.std.specs.Prelude.{◌≡◌, ◌≢◌, ◌≤◌, ◌<◌, ◌&&◌, ◌==◌, ℕ, Bool, false, nat_eq, List, length, take, Option, Some, None, slice_get}
use Rattle.std.specs.Cmp.Lexicographic.{pointwise}
use Rattle.std.specs.Option.{option_eq}
use Rattle.std.proofs.Math.Bool.{beq}
use Rattle.seat_journal.specs.declared.entry.Change.{Change}
use Rattle.seat_journal.specs.declared.entry.Command.{Command}
use Rattle.seat_journal.specs.declared.entry.Entry.{Entry}
use Rattle.seat_journal.specs.declared.entry.SaleChange.{SaleChange}
use Rattle.seat_journal.specs.declared.entry.Work.{Work}
use Rattle.seat_journal.specs.declared.entry.Work.TheVariants.{Seats, Limit, Sale}
use Rattle.seat_rules.specs.Bookings.{same_place}
use Rattle.seat_rules.specs.Prefixes.{Begins}
use Rattle.seat_rules.specs.Replaying.{same_advice}
use Rattle.seat_desk.specs.declared.fault.DeskFault.{DeskFault}
use Rattle.seat_desk.specs.declared.fault.DeskFault.TheVariants.{NoBehind, Unasked}
use Rattle.seat_pickup.specs.declared.past.Past.{Past}
use Rattle.seat_pickup.specs.declared.past.Past.TheVariants.{Lines, Older}

-- ---- two lines, field by field

abbrev pub same_command : Command → Command → Bool
same_command a b =
    pointwise nat_eq a.locator b.locator && option_eq same_place a.place b.place && (a.class == b.class)
    && pointwise nat_eq a.code b.code && (a.seats == b.seats)

abbrev pub same_change : Change → Change → Bool
same_change a b =
    (a.flight == b.flight) && (a.leg == b.leg) && (a.class == b.class) && (a.limit == b.limit) && (a.wait == b.wait)

abbrev pub same_sale : SaleChange → SaleChange → Bool
same_sale a b = (a.flight == b.flight) && (a.leg == b.leg) && option_eq nat_eq a.class b.class && beq a.closed b.closed

abbrev pub same_work : Work → Work → Bool
same_work (Seats a) (Seats b) = same_command a b
same_work (Limit a) (Limit b) = same_change a b
same_work (Sale a) (Sale b) = same_sale a b
same_work _ _ = false

abbrev pub same_line : Entry → Entry → Bool
same_line a b =
    (a.number == b.number) && (a.session == b.session) && (a.call == b.call) && same_work a.work b.work
    && pointwise nat_eq a.reply b.reply && (a.released == b.released) && pointwise same_advice a.advices b.advices

-- ---- where they part

-- the line of the journal at a place, or the older one there where the journal has ended
abbrev pub line_there : Option Entry → Option Entry → Option Entry
line_there (Some line) older = Some line
line_there None older = older

-- the two are the same before this place, and at it stands another line than the older one, or none; this one is named
pub record PartAt (place : ℕ) (older journal : List Entry) (named : Entry) : Type 0 where
  pub within : place < length older
  pub before : take place journal ≡ take place older
  pub there : slice_get journal place ≢ slice_get older place
  pub named_is : line_there (slice_get journal place) (slice_get older place) ≡ Some named

-- the journal does not begin with the older lines: this is the call of the line that is named where the two part
pub record IsNoBeginning (older journal : List Entry) (session call : ℕ) : Type 0 where
  pub place : ℕ
  pub named : Entry
  pub part : PartAt place older journal named
  pub session_is : session ≡ named.session
  pub call_is : call ≡ named.call

-- ---- the past of a journal

-- how many lines it has
abbrev pub past_lines : Past → ℕ
past_lines (Lines n) = n
past_lines (Older lines) = length lines.now

-- the journal begins with it
abbrev pub IsPast : Past → List Entry → Type 0
IsPast (Lines n) journal = n ≤ length journal
IsPast (Older lines) journal = Begins lines.now journal

-- it has fewer lines, and the fault says so
abbrev pub IsTooShortFor : ℕ → List Entry → DeskFault → Type 0
IsTooShortFor n journal NoBehind = length journal < n
IsTooShortFor n journal _ = ⊥

-- it parts from the older one, and the fault names the call there
abbrev pub IsNoBeginningBy : List Entry → List Entry → DeskFault → Type 0
IsNoBeginningBy older journal (Unasked session call) = IsNoBeginning older journal session call
IsNoBeginningBy older journal _ = ⊥

-- it doesn't begin with it, and the fault says why
abbrev pub IsNoPast : Past → List Entry → DeskFault → Type 0
IsNoPast (Lines n) journal fault = IsTooShortFor n journal fault
IsNoPast (Older lines) journal fault = IsNoBeginningBy lines.now journal fault
