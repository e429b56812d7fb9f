-- What `audit` with scripts writes: the line of `audit`, where the journal has just what the scripts ask, behind the lines of an older one, or behind so many of its own.
use Rattle.std.specs.Prelude.{◌≡◌, ◌≢◌, ◌≤◌, ◌<◌, ◌+◌, ◌-◌, ◌⊎◌, ◌&&◌, ◌==◌, ℕ, Bool, nat_eq, List, [], length, map, take, drop, ◌++◌, Option, Some, None, IfSome, slice_get}
use Rattle.std.specs.Cmp.Lexicographic.{pointwise}
use Rattle.std.specs.Option.{option_eq}
use Rattle.airimp_lines.specs.declared.requests.Request.{Request}
use Rattle.ssim_flights.specs.declared.flight.Flight.{Flight as Flown}
use Rattle.seat_nesting.specs.Nesting.{Ladders}
use Rattle.seat_journal.specs.Text.{IsJournalText}
use Rattle.seat_journal.specs.declared.entry.Command.{Command}
use Rattle.seat_journal.specs.declared.entry.Entry.{Entry}
use Rattle.seat_journal.specs.declared.entry.Work.{Work}
use Rattle.seat_rules.specs.Bookings.{same_place}
use Rattle.seat_rules.specs.Inventory.{Inventory}
use Rattle.seat_rules.specs.Journal.{calls_of}
use Rattle.seat_rules.specs.Prefixes.{Begins}
use Rattle.seat_rules.specs.Histories.{of_session}
use Rattle.seat_seal.specs.declared.beside.Beside.{Beside}
use Rattle.seat_desk.specs.AuditDesk.{IsAudited, IsRefusedOver, IsReplayOf, IsUnlawful, most_journal_bytes}
use Rattle.seat_desk.specs.Loading.{Bytes, IsLoaded, IsFirstTooLargeLoad, IsRefusedLoad}
use Rattle.seat_desk.specs.declared.inputs.Inputs.{Inputs}
use Rattle.seat_desk.specs.declared.fault.DeskFault.{DeskFault}
use Rattle.seat_desk.specs.declared.fault.DeskFault.TheVariants.{Flight, Journal, Limit, NoBehind, Replay, Script, Seal, Set, Unasked}
use Rattle.seat_replies.specs.Asked.{HasLoaded, OfThree}
use Rattle.seat_replies.specs.Requests.{AreScripts, IsRefusedAmong, IsTooLargeAmong}
use Rattle.seat_replies.specs.RunDesk.{requests_of, works_in}
use Rattle.seat_scripts.specs.Taken.{WithTaken}
use Rattle.seat_replies.specs.VeryRequest.{Agree}

-- ---- what is asked, and what is in the journal

-- what the lines of a session ask for, in order
abbrev pub done_by : ℕ → List Entry → List Work
done_by session journal = works_in (of_session session journal)

-- at each place the line is the very request there, and both end at one
pub record AreVeryRequests (flights : List Flown) (requests : List Request) (done : List Work) : Type 0 where
  pub each : (place : ℕ) → Agree flights (slice_get requests place) (slice_get done place)

-- the lines of each session below this one are the very requests of its script, whatever the manager's are; sessions beyond the scripts have none
pub record AreAskedBelow (flights : List Flown) (scripts : List (List Request)) (journal : List Entry) (limit : ℕ) :
    Type 0 where
  pub each : (session : ℕ) → 1 ≤ session → session < limit
      → AreVeryRequests flights (requests_of scripts session) (done_by session journal)

-- so are those of each session
pub record AreAsked (flights : List Flown) (scripts : List (List Request)) (journal : List Entry) : Type 0 where
  pub each : (session : ℕ) → 1 ≤ session
      → AreVeryRequests flights (requests_of scripts session) (done_by session journal)

-- before this place, which counts from 1, each line is the very request there; at it the line is another, or one of the two has ended
pub record DifferAt (flights : List Flown) (call : ℕ) (requests : List Request) (done : List Work) : Type 0 where
  pub from_one : 1 ≤ call
  pub before : (place : ℕ) → place < call - 1 → Agree flights (slice_get requests place) (slice_get done place)
  pub there : Agree flights (slice_get requests (call - 1)) (slice_get done (call - 1)) → ⊥

-- the first session whose lines are not the requests of its script, and the first call at which they differ
pub record IsFirstUnasked (flights : List Flown) (scripts : List (List Request)) (journal : List Entry)
    (session call : ℕ) : Type 0 where
  pub from_one : 1 ≤ session
  pub before : AreAskedBelow flights scripts journal session
  pub differ : DifferAt flights call (requests_of scripts session) (done_by session journal)

-- ---- behind an older journal

-- the journal is a past and the lines that were added to it: the past is the older lines, and so many lines more
pub record IsParted (older : List Entry) (more : ℕ) (past added journal : List Entry) : Type 0 where
  pub whole : journal ≡ past ++ added
  pub goes_on : Begins older past
  pub count : length past ≡ length older + more

-- and the lines of each session that were added are the very requests of its script. Behind no lines that is AreAsked of the journal
pub record AreAskedBehind (flights : List Flown) (scripts : List (List Request)) (older : List Entry) (more : ℕ)
    (journal : List Entry) : Type 0 where
  pub past : List Entry
  pub added : List Entry
  pub parted : IsParted older more past added journal
  pub are_asked : AreAsked flights scripts added

-- the line of the journal at a place, or the older one there where the journal has ended
abbrev pub line_there : Option Entry → Option Entry → Option Entry
line_there (Some line) older = Some line
line_there None older = older

-- the two are the same before this place, and at it stands another line than the older one, or none; this one is named
pub record PartAt (place : ℕ) (older journal : List Entry) (named : Entry) : Type 0 where
  pub within : place < length older
  pub before : take place journal ≡ take place older
  pub there : slice_get journal place ≢ slice_get older place
  pub named_is : line_there (slice_get journal place) (slice_get older place) ≡ Some named

-- the journal does not begin with the older lines: this is the call of the line that is named where the two part
pub record IsNoBeginning (older journal : List Entry) (session call : ℕ) : Type 0 where
  pub place : ℕ
  pub named : Entry
  pub part : PartAt place older journal named
  pub session_is : session ≡ named.session
  pub call_is : call ≡ named.call

-- it does, but has fewer lines than these and so many more
pub record IsShort (older : List Entry) (more : ℕ) (journal : List Entry) : Type 0 where
  pub goes_on : Begins older journal
  pub short : length journal < length older + more

-- it has no such past
abbrev pub IsNoPast : List Entry → ℕ → List Entry → DeskFault → Type 0
IsNoPast older more journal (Unasked session call) = IsNoBeginning older journal session call
IsNoPast older more journal NoBehind = IsShort older more journal
IsNoPast older more journal _ = ⊥

-- it has them, and of the lines behind them this is the first that is not asked: its call, which goes on from those of the past
pub record IsUnaskedBehind (flights : List Flown) (scripts : List (List Request)) (older : List Entry) (more : ℕ)
    (journal : List Entry) (session call : ℕ) : Type 0 where
  pub past : List Entry
  pub added : List Entry
  pub parted : IsParted older more past added journal
  pub place : ℕ
  pub first : IsFirstUnasked flights scripts added session place
  pub call_is : call ≡ calls_of past session + place

-- the fault names that session and that call, or says that there are fewer lines
abbrev pub IsUnasked : List Flown → List (List Request) → List Entry → ℕ → List Entry → DeskFault → Type 0
IsUnasked flights scripts older more journal (Unasked session call) =
    IsNoBeginning older journal session call ⊎ IsUnaskedBehind flights scripts older more journal session call
IsUnasked flights scripts older more journal NoBehind = IsShort older more journal
IsUnasked flights scripts older more journal _ = ⊥

-- a test of two commands, field by field
abbrev pub same_command : Command → Command → Bool
same_command a b =
    pointwise nat_eq a.locator b.locator && option_eq same_place a.place b.place && (a.class == b.class)
    && pointwise nat_eq a.code b.code && (a.seats == b.seats)

-- ---- the whole

-- the bytes are not too large, and replay to this inventory
pub record IsReplayWithin (grid : Ladders) (core : Inventory) (bytes : List ℕ) : Type 0 where
  pub within : length bytes ≤ most_journal_bytes
  pub is_replay : IsReplayOf grid bytes core

-- the line audits the journal over the loaded grid; the journal goes on from the older one, and behind its lines and so many more those of each session are the very requests of its script, in order
pub record IsAuditAgainst (set limits : List ℕ) (first days : ℕ) (after : List ℕ) (more : ℕ) (journal : List ℕ)
    (today : ℕ) (texts : List (Option (List ℕ))) (line : List ℕ) : Type 0 where
  pub flights : List Flown
  pub grid : Ladders
  pub is_loaded : IsLoaded set limits first days flights grid
  pub older : Inventory
  pub is_older : IsReplayWithin grid older after
  pub within : length journal ≤ most_journal_bytes
  pub is_audited : IsAudited grid journal line
  pub scripts : List (List Request)
  pub are_scripts : AreScripts today texts scripts
  pub are_asked : AreAskedBehind flights scripts older.journal more is_audited.entries

-- where the bytes of the set, of the limits and of both journals are known
abbrev pub OfFour : Option (List ℕ) → Option (List ℕ) → Option (List ℕ) → Option (List ℕ)
    → (List ℕ → List ℕ → List ℕ → List ℕ → Type 0) → Type 0
OfFour set limits after journal P =
    IfSome set (λ xs. IfSome limits (λ ys. IfSome after (λ older. IfSome journal (λ zs. P xs ys older zs))))

-- the inputs are right: these are the flights of the set, what the two journals come to over one grid, and the requests of the scripts
pub record AreRead (set limits : List ℕ) (first days : ℕ) (after journal : List ℕ) (today : ℕ)
    (texts : List (Option (List ℕ)))
    (flights : List Flown) (older core : Inventory) (scripts : List (List Request)) : Type 0 where
  pub grid : Ladders
  pub is_loaded : IsLoaded set limits first days flights grid
  pub is_older : IsReplayWithin grid older after
  pub is_replay : IsReplayWithin grid core journal
  pub are_scripts : AreScripts today texts scripts

abbrev pub AreReadOf : {S L : Type 0} → Bytes S → Bytes L → Inputs S L → Option (List ℕ) → Option (List ℕ) → ℕ
    → List (Option (List ℕ)) → List Flown → Inventory → Inventory → List (List Request) → Type 0
AreReadOf set limits inputs after journal today texts flights older core scripts =
    OfFour (set inputs.set) (limits inputs.limits) after journal
    (λ xs ys before zs. AreRead xs ys inputs.first inputs.days before zs today texts flights older core scripts)

-- behind the number of lines that is taken
abbrev pub IsAuditAgainstOf : {S L : Type 0} → Beside → Bytes S → Bytes L → Inputs S L → Option (List ℕ) → Option ℕ
    → Option (List ℕ) → ℕ → List (Option (List ℕ)) → List ℕ → Type 0
IsAuditAgainstOf beside set limits inputs after given journal today texts line =
    OfFour (set inputs.set) (limits inputs.limits) after journal (λ xs ys older zs. WithTaken given beside zs
    (λ more. IsAuditAgainst xs ys inputs.first inputs.days older more zs today texts line))

-- the older journal is right, and the fault is that of the journal
pub record IsUnlawfulBeside (set limits : List ℕ) (first days : ℕ) (after journal : List ℕ) (fault : DeskFault) : Type 0
  where
    pub flights : List Flown
    pub grid : Ladders
    pub is_loaded : IsLoaded set limits first days flights grid
    pub older : Inventory
    pub is_older : IsReplayWithin grid older after
    pub is_unlawful : IsUnlawful grid fault journal

-- both journals are right, and the fault is that of the first script that is none
pub record IsNoScriptBeside (set limits : List ℕ) (first days : ℕ) (after journal : List ℕ) (today : ℕ)
    (texts : List (Option (List ℕ))) (fault : DeskFault) : Type 0 where
  pub flights : List Flown
  pub grid : Ladders
  pub is_loaded : IsLoaded set limits first days flights grid
  pub older : Inventory
  pub is_older : IsReplayWithin grid older after
  pub core : Inventory
  pub is_replay : IsReplayWithin grid core journal
  pub is_refused : IsRefusedAmong today 1 texts fault

-- the journals and the scripts are right, but the journal does not begin with the older lines, or has fewer than these and so many more, or the lines behind them are not the very requests of the scripts, and the fault names where they differ first
pub record IsUnaskedBeside (set limits : List ℕ) (first days : ℕ) (after : List ℕ) (more : ℕ) (journal : List ℕ)
    (today : ℕ) (texts : List (Option (List ℕ))) (fault : DeskFault) : Type 0 where
  pub flights : List Flown
  pub grid : Ladders
  pub is_loaded : IsLoaded set limits first days flights grid
  pub older : Inventory
  pub is_older : IsReplayWithin grid older after
  pub core : Inventory
  pub is_replay : IsReplayWithin grid core journal
  pub scripts : List (List Request)
  pub are_scripts : AreScripts today texts scripts
  pub is_unasked : IsUnasked flights scripts older.journal more core.journal fault

-- a fault of a journal is that of the older one, or else of the one behind it. A script's is the first of the first script that is none, and
-- one of a call stands where the journals, or the journal and the scripts, differ first, and one of lines where the journal has fewer. Any other is of the set, of its flights or of the limits
abbrev pub AgainstRefusal : List ℕ → List ℕ → ℕ → ℕ → List ℕ → ℕ → List ℕ → ℕ → List (Option (List ℕ)) → DeskFault
    → Type 0
AgainstRefusal set limits first days after more journal today texts (Journal fault) =
    IsRefusedOver set limits first days (Journal fault) after
    ⊎ IsUnlawfulBeside set limits first days after journal (Journal fault)
AgainstRefusal set limits first days after more journal today texts (Replay fault) =
    IsRefusedOver set limits first days (Replay fault) after
    ⊎ IsUnlawfulBeside set limits first days after journal (Replay fault)
AgainstRefusal set limits first days after more journal today texts (Script session fault) =
    IsNoScriptBeside set limits first days after journal today texts (Script session fault)
AgainstRefusal set limits first days after more journal today texts (Unasked session call) =
    IsUnaskedBeside set limits first days after more journal today texts (Unasked session call)
AgainstRefusal set limits first days after more journal today texts NoBehind =
    IsUnaskedBeside set limits first days after more journal today texts NoBehind
AgainstRefusal set limits first days after more journal today texts fault = IsRefusedLoad set limits first days fault

pub record IsRefusedAgainst (set limits : List ℕ) (first days : ℕ) (after : List ℕ) (more : ℕ) (journal : List ℕ)
    (today : ℕ) (texts : List (Option (List ℕ))) (fault : DeskFault) : Type 0 where
  pub refusal : AgainstRefusal set limits first days after more journal today texts fault

-- as far as the inputs are right: the set, the limits and the older journal
pub record HasOlder (set limits : List ℕ) (first days : ℕ) (after : List ℕ) : Type 0 where
  pub flights : List Flown
  pub grid : Ladders
  pub is_loaded : IsLoaded set limits first days flights grid
  pub older : Inventory
  pub is_older : IsReplayWithin grid older after

-- and the journal
pub record HasBoth (set limits : List ℕ) (first days : ℕ) (after journal : List ℕ) : Type 0 where
  pub flights : List Flown
  pub grid : Ladders
  pub is_loaded : IsLoaded set limits first days flights grid
  pub older : Inventory
  pub is_older : IsReplayWithin grid older after
  pub core : Inventory
  pub is_replay : IsReplayWithin grid core journal

-- the set is too large, or the limits behind a right set, or the older journal behind a right set and limits, or the journal behind a right older one, or a script behind right journals and right scripts
abbrev pub IsTooLargeAgainst : List ℕ → List ℕ → ℕ → ℕ → List ℕ → List ℕ → ℕ → List (Option (List ℕ)) → Type 0
IsTooLargeAgainst set limits first days after journal today texts =
    IsFirstTooLargeLoad set limits first days
    ⊎ ((HasLoaded set limits first days × (most_journal_bytes < length after))
    ⊎ ((HasOlder set limits first days after × (most_journal_bytes < length journal))
    ⊎ (HasBoth set limits first days after journal × IsTooLargeAmong today texts)))

-- the set or the limits failed, as the first says, or the older journal behind a right set and limits, or the journal behind a right older one, or a script behind right journals and right scripts
abbrev pub FailsAgainst : {S L : Type 0} → Bytes S → Bytes L → Inputs S L → Option (List ℕ) → Option (List ℕ) → Type 0
    → Type 0 → Type 0 → Type 0 → Type 0
FailsAgainst set limits inputs after journal load_failed older_failed journal_failed script_failed =
    load_failed
    ⊎ ((IfSome (set inputs.set) (λ xs. IfSome (limits inputs.limits) (λ ys. HasLoaded xs ys inputs.first inputs.days))
    × older_failed)
    ⊎ ((OfThree (set inputs.set) (limits inputs.limits) after
    (λ xs ys older. HasOlder xs ys inputs.first inputs.days older) × journal_failed)
    ⊎ (OfFour (set inputs.set) (limits inputs.limits) after journal
    (λ xs ys older zs. HasBoth xs ys inputs.first inputs.days older zs) × script_failed)))

-- what is wrong is one input by itself, or what stands beside it, which an audit with scripts reads
abbrev pub IsOfReading : DeskFault → Type 0
IsOfReading (Set fault) = Unit {0}
IsOfReading (Flight fault) = Unit {0}
IsOfReading (Limit fault) = Unit {0}
IsOfReading (Journal fault) = Unit {0}
IsOfReading (Replay fault) = Unit {0}
IsOfReading (Script session fault) = Unit {0}
IsOfReading (Seal fault) = Unit {0}
IsOfReading _ = ⊥

-- where the bytes of the four inputs are known
abbrev pub IsOfReadingWhere : {S L : Type 0} → Bytes S → Bytes L → Inputs S L → Option (List ℕ) → Option (List ℕ)
    → DeskFault → Type 0
IsOfReadingWhere set limits inputs after journal fault =
    OfFour (set inputs.set) (limits inputs.limits) after journal (λ xs ys older zs. IsOfReading fault)

-- ---- the laws

-- behind a journal without lines and so many lines more those of each session behind these are the very requests of its script
abbrev pub AuditsBehindNoLines : Type 0
AuditsBehindNoLines =
    (set limits : List ℕ) (first days : ℕ) (after : List ℕ) (more : ℕ) (journal : List ℕ) (today : ℕ)
    (texts : List (Option (List ℕ))) (line : List ℕ) →
    IsJournalText after [] → (audit : IsAuditAgainst set limits first days after more journal today texts line)
    → AreAsked audit.flights audit.scripts (drop more audit.is_audited.entries)

-- what is refused has no line: over the same inputs, each known, no journal that differs from the older one or from the scripts at a call, or has fewer lines, also goes on from the one with just what the others ask
abbrev pub UnaskedIsNotAudited : Type 0
UnaskedIsNotAudited =
    (set limits : List ℕ) (first days : ℕ) (after : List ℕ) (more : ℕ) (journal : List ℕ) (today : ℕ)
    (texts : List (List ℕ)) (fault : DeskFault) (line : List ℕ) →
    IsUnaskedBeside set limits first days after more journal today (map Some texts) fault
    → IsAuditAgainst set limits first days after more journal today (map Some texts) line → ⊥
