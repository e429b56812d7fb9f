-- What a job says of the words that it was read from.
use Rattle.std.specs.Prelude.{◌≡◌, ◌||◌, Bool, List, [], ◌∷◌, ◌++◌, Option, None, Some, codes, if◌then◌else◌, is_some, false, unwrap_or}
use Rattle.std.specs.Str.{bytes_eq}
use Rattle.std.specs.List.{list_all}
use Rattle.std.specs.Option.{option_map, option_map_or}
use Rattle.clap.specs.Words.{Row, Text, all_of, first_of}
use Rattle.seat_words.specs.declared.work.Horizon.{Horizon}
use Rattle.seat_words.specs.declared.job.Job.{Job}
use Rattle.seat_words.specs.declared.work.Shape.{Shape}
use Rattle.seat_words.specs.declared.work.CoverJob.{CoverJob}
use Rattle.seat_words.specs.declared.work.RoomsJob.{RoomsJob}
use Rattle.seat_words.specs.declared.work.LoadsJob.{LoadsJob}
use Rattle.seat_words.specs.declared.work.RunJob.{RunJob}
use Rattle.seat_words.specs.declared.work.ServeJob.{ServeJob}
use Rattle.seat_words.specs.declared.work.RouteJob.{RouteJob}
use Rattle.seat_words.specs.declared.work.BookingsJob.{BookingsJob}
use Rattle.seat_words.specs.declared.work.WaitingJob.{WaitingJob}
use Rattle.seat_words.specs.declared.work.PickupJob.{PickupJob}
use Rattle.seat_words.specs.declared.work.HistoryJob.{HistoryJob}
use Rattle.seat_words.specs.declared.work.AvsJob.{AvsJob}
use Rattle.seat_words.specs.declared.work.ReconcileJob.{ReconcileJob}
use Rattle.seat_words.specs.declared.work.CompareJob.{CompareJob}
use Rattle.seat_words.specs.declared.work.CarryJob.{CarryJob}
use Rattle.seat_words.specs.declared.work.ChangesJob.{ChangesJob}
use Rattle.seat_words.specs.declared.work.AuditJob.{AuditJob}
use Rattle.seat_words.specs.declared.work.RepliesJob.{RepliesJob}
use Rattle.seat_words.specs.declared.work.ToldJob.{ToldJob}
use Rattle.seat_words.specs.declared.naming.Name.{Name}
use Rattle.seat_words.specs.declared.naming.Named.{Named}
use Rattle.seat_words.specs.declared.naming.Named.TheVariants as named
use Rattle.seat_words.specs.declared.job.Job.TheVariants.{Ladder, Check, Flights, Cover, Rooms, Loads, Run, Serve, Route, Bookings, Waiting, Pickup, History, Avs, Reconcile, Compare, Carry, Changes, Audit, Seal, Recover, Replies, Told, Why, Explain, Season}

-- a command that clap found in the words, and what it found of the command's values
abbrev pub Line : Type 0
Line = Text × List Row

-- clap found this value of an option, or by its place
abbrev pub Has : List Row → Text → Text → Type 0
Has rows id text = first_of id rows ≡ Some text

-- clap found this value of an option, or none where there is none
abbrev pub MayHave : List Row → Text → Option Text → Type 0
MayHave rows id text = first_of id rows ≡ text

-- clap found these values, by their place or of an option, or none where there is none
abbrev pub HasAny : List Row → Text → List Text → Type 0
HasAny rows id texts = unwrap_or (all_of id rows) [] ≡ texts

-- the flag is among the words
abbrev pub is_flagged : Text → List Row → Bool
is_flagged id rows = option_map_or (λ text. bytes_eq text (codes "true")) (first_of id rows) false

abbrev pub HasFlag : List Row → Text → Bool → Type 0
HasFlag rows id is_there = is_flagged id rows ≡ is_there

-- the switch is among the words ahead of the command, or behind it
abbrev pub is_switched : Text → List Row → Option Line → Bool
is_switched id ahead line = is_flagged id ahead || option_map_or (λ behind. is_flagged id behind.1) line false

-- -v is among the words
abbrev pub is_verbose : List Row → Option Line → Bool
is_verbose = is_switched (codes "verbose")

-- and so is --quiet
abbrev pub is_quiet : List Row → Option Line → Bool
is_quiet = is_switched (codes "quiet")

-- the flights and limits over which the command works
abbrev pub IsOver : List Row → Horizon → Type 0
IsOver rows over = (first_of (codes "set") rows ≡ Some over.set.now)
    × (first_of (codes "limits") rows ≡ Some over.limits.now)
    × (first_of (codes "first") rows ≡ Some over.first.now)
    × (first_of (codes "days") rows ≡ Some over.days.now)

-- the form that is asked for
abbrev pub IsShaped : List Row → Shape → Type 0
IsShaped rows shape = (is_flagged (codes "csv") rows ≡ shape.csv) × (is_flagged (codes "json") rows ≡ shape.json)

-- what each of the longer commands asks for
abbrev pub IsCover : List Row → CoverJob → Type 0
IsCover rows asked = IsOver rows asked.over × IsShaped rows asked.shape

abbrev pub IsRooms : List Row → RoomsJob → Type 0
IsRooms rows asked = IsOver rows asked.over
    × MayHave rows (codes "day") (option_map (λ text. text.now) asked.day)
    × MayHave rows (codes "pair") (option_map (λ text. text.now) asked.pair)
    × HasFlag rows (codes "bars") asked.bars
    × IsShaped rows asked.shape
    × HasFlag rows (codes "open") asked.is_open
    × MayHave rows (codes "journal") (option_map (λ text. text.now) asked.journal)

abbrev pub IsLoads : List Row → LoadsJob → Type 0
IsLoads rows asked = IsOver rows asked.over
    × MayHave rows (codes "flight") (option_map (λ text. text.now) asked.flight)
    × MayHave rows (codes "day") (option_map (λ text. text.now) asked.day)
    × MayHave rows (codes "pair") (option_map (λ text. text.now) asked.pair)
    × MayHave rows (codes "by") (option_map (λ text. text.now) asked.by)
    × HasFlag rows (codes "bars") asked.bars
    × IsShaped rows asked.shape
    × HasFlag rows (codes "html") asked.html
    × HasFlag rows (codes "open") asked.is_open
    × HasFlag rows (codes "shards") asked.are_shards
    × MayHave rows (codes "journal") (option_map (λ text. text.now) asked.journal)
    × HasAny rows (codes "others") asked.others

abbrev pub IsRun : List Row → RunJob → Type 0
IsRun rows asked = IsOver rows asked.over
    × MayHave rows (codes "after") (option_map (λ text. text.now) asked.after)
    × MayHave rows (codes "behind") (option_map (λ text. text.now) asked.behind)
    × MayHave rows (codes "resume") (option_map (λ text. text.now) asked.resume)
    × Has rows (codes "today") asked.today.now
    × Has rows (codes "journal") asked.journal.now
    × MayHave rows (codes "changes") (option_map (λ text. text.now) asked.changes)
    × MayHave rows (codes "refused") (option_map (λ text. text.now) asked.refused)
    × HasFlag rows (codes "no-clobber") asked.no_clobber
    × HasFlag rows (codes "again") asked.again
    × HasAny rows (codes "scripts") asked.scripts

abbrev pub IsServe : List Row → ServeJob → Type 0
IsServe rows asked = IsOver rows asked.over
    × MayHave rows (codes "today") (option_map (λ text. text.now) asked.today)
    × Has rows (codes "journal") asked.journal.now
    × HasAny rows (codes "desk") asked.desks
    × MayHave rows (codes "manager") (option_map (λ text. text.now) asked.manager)
    × MayHave rows (codes "status") (option_map (λ text. text.now) asked.status)
    × MayHave rows (codes "every") (option_map (λ text. text.now) asked.every)
    × MayHave rows (codes "feed") (option_map (λ text. text.now) asked.feed)
    × MayHave rows (codes "behind") (option_map (λ text. text.now) asked.behind)
    × HasFlag rows (codes "close-departed") asked.closes_departed

abbrev pub IsRoute : List Row → RouteJob → Type 0
IsRoute rows asked = Has rows (codes "shards") asked.shards.now
    × MayHave rows (codes "changes") (option_map (λ text. text.now) asked.changes)
    × HasAny rows (codes "scripts") asked.scripts

abbrev pub IsBookings : List Row → BookingsJob → Type 0
IsBookings rows asked = IsOver rows asked.over
    × HasAny rows (codes "locator") asked.locators
    × MayHave rows (codes "flight") (option_map (λ text. text.now) asked.flight)
    × MayHave rows (codes "day") (option_map (λ text. text.now) asked.day)
    × IsShaped rows asked.shape
    × HasFlag rows (codes "open") asked.is_open
    × Has rows (codes "journal") asked.journal.now

abbrev pub IsWaiting : List Row → WaitingJob → Type 0
IsWaiting rows asked = IsOver rows asked.over
    × MayHave rows (codes "flight") (option_map (λ text. text.now) asked.flight)
    × MayHave rows (codes "day") (option_map (λ text. text.now) asked.day)
    × IsShaped rows asked.shape
    × HasFlag rows (codes "open") asked.is_open
    × HasFlag rows (codes "shards") asked.are_shards
    × Has rows (codes "journal") asked.journal.now
    × HasAny rows (codes "others") asked.others

abbrev pub IsPickup : List Row → PickupJob → Type 0
IsPickup rows asked = IsOver rows asked.over
    × MayHave rows (codes "behind") (option_map (λ text. text.now) asked.behind)
    × MayHave rows (codes "since") (option_map (λ text. text.now) asked.since)
    × MayHave rows (codes "flight") (option_map (λ text. text.now) asked.flight)
    × MayHave rows (codes "by") (option_map (λ text. text.now) asked.by)
    × IsShaped rows asked.shape
    × HasFlag rows (codes "open") asked.is_open
    × Has rows (codes "journal") asked.journal.now

abbrev pub IsHistory : List Row → HistoryJob → Type 0
IsHistory rows asked = IsOver rows asked.over
    × MayHave rows (codes "locator") (option_map (λ text. text.now) asked.locator)
    × MayHave rows (codes "flight") (option_map (λ text. text.now) asked.flight)
    × MayHave rows (codes "day") (option_map (λ text. text.now) asked.day)
    × IsShaped rows asked.shape
    × HasFlag rows (codes "open") asked.is_open
    × Has rows (codes "journal") asked.journal.now

abbrev pub IsAvs : List Row → AvsJob → Type 0
IsAvs rows asked = IsOver rows asked.horizon
    × MayHave rows (codes "since") (option_map (λ text. text.now) asked.since)
    × HasFlag rows (codes "numeric") asked.numeric
    × MayHave rows (codes "partner") (option_map (λ text. text.now) asked.partner)
    × MayHave rows (codes "flight") (option_map (λ text. text.now) asked.flight)
    × MayHave rows (codes "day") (option_map (λ text. text.now) asked.day)
    × Has rows (codes "journal") asked.journal.now
    × HasFlag rows (codes "open") asked.is_open

abbrev pub IsReconcile : List Row → ReconcileJob → Type 0
IsReconcile rows asked = IsOver rows asked.horizon
    × MayHave rows (codes "session") (option_map (λ text. text.now) asked.session)
    × HasFlag rows (codes "all") asked.all
    × Has rows (codes "theirs") asked.theirs.now
    × Has rows (codes "journal") asked.journal.now
    × HasFlag rows (codes "open") asked.is_open

abbrev pub IsCompare : List Row → CompareJob → Type 0
IsCompare rows asked = Has rows (codes "from") asked.from.now
    × Has rows (codes "to") asked.to.now
    × MayHave rows (codes "journal") (option_map (λ text. text.now) asked.journal)

abbrev pub IsCarry : List Row → CarryJob → Type 0
IsCarry rows asked = Has rows (codes "from") asked.from.now
    × Has rows (codes "to") asked.to.now
    × Has rows (codes "today") asked.today.now
    × Has rows (codes "journal") asked.new.now
    × MayHave rows (codes "protect") (option_map (λ text. text.now) asked.protections)
    × MayHave rows (codes "order") (option_map (λ text. text.now) asked.order)
    × HasFlag rows (codes "displace") asked.displaces
    × HasFlag rows (codes "fresh-limits") asked.fresh_limits
    × HasFlag rows (codes "anew") asked.anew
    × MayHave rows (codes "shard") (option_map (λ text. text.now) asked.shard)
    × HasFlag rows (codes "dry-run") asked.dry_run
    × IsShaped rows asked.shape
    × Has rows (codes "carried") asked.journal.now
    × HasAny rows (codes "others") asked.others

abbrev pub IsChanges : List Row → ChangesJob → Type 0
IsChanges rows asked = IsOver rows asked.over
    × Has rows (codes "to") asked.wanted.now
    × MayHave rows (codes "flight") (option_map (λ text. text.now) asked.flight)
    × MayHave rows (codes "day") (option_map (λ text. text.now) asked.day)
    × MayHave rows (codes "pair") (option_map (λ text. text.now) asked.pair)
    × HasFlag rows (codes "open") asked.is_open
    × Has rows (codes "journal") asked.journal.now

abbrev pub IsAudit : List Row → AuditJob → Type 0
IsAudit rows asked = IsOver rows asked.over
    × MayHave rows (codes "after") (option_map (λ text. text.now) asked.after)
    × MayHave rows (codes "behind") (option_map (λ text. text.now) asked.behind)
    × MayHave rows (codes "today") (option_map (λ text. text.now) asked.today)
    × MayHave rows (codes "refused") (option_map (λ text. text.now) asked.refused)
    × HasFlag rows (codes "sealed") asked.sealed
    × HasFlag rows (codes "open") asked.is_open
    × HasFlag rows (codes "shards") asked.are_shards
    × Has rows (codes "journal") asked.journal.now
    × HasAny rows (codes "scripts") asked.scripts

abbrev pub IsReplies : List Row → RepliesJob → Type 0
IsReplies rows asked = IsOver rows asked.over
    × MayHave rows (codes "after") (option_map (λ text. text.now) asked.after)
    × MayHave rows (codes "behind") (option_map (λ text. text.now) asked.behind)
    × Has rows (codes "today") asked.today.now
    × MayHave rows (codes "refused") (option_map (λ text. text.now) asked.refused)
    × MayHave rows (codes "session") (option_map (λ text. text.now) asked.session)
    × MayHave rows (codes "from") (option_map (λ text. text.now) asked.from)
    × IsShaped rows asked.shape
    × Has rows (codes "journal") asked.journal.now
    × HasAny rows (codes "scripts") asked.scripts

abbrev pub IsTold : List Row → ToldJob → Type 0
IsTold rows asked = IsOver rows asked.over
    × Has rows (codes "desk") asked.desk.now
    × MayHave rows (codes "from") (option_map (λ text. text.now) asked.from)
    × HasFlag rows (codes "open") asked.is_open
    × Has rows (codes "journal") asked.journal.now

-- the job is the command that was named, with the values that clap found
abbrev pub Asks : Job → Line → Type 0
Asks Ladder line = line.0 ≡ codes "ladder"
Asks (Check set) line = (line.0 ≡ codes "check") × Has line.1 (codes "set") set.now
Asks (Flights set first days shape) line = (line.0 ≡ codes "flights")
    × Has line.1 (codes "set") set.now
    × Has line.1 (codes "first") first.now
    × Has line.1 (codes "days") days.now
    × IsShaped line.1 shape
Asks (Cover asked) line = (line.0 ≡ codes "cover") × IsCover line.1 asked
Asks (Rooms asked) line = (line.0 ≡ codes "rooms") × IsRooms line.1 asked
Asks (Loads asked) line = (line.0 ≡ codes "loads") × IsLoads line.1 asked
Asks (Run asked) line = (line.0 ≡ codes "run") × IsRun line.1 asked
Asks (Serve asked) line = (line.0 ≡ codes "serve") × IsServe line.1 asked
Asks (Route asked) line = (line.0 ≡ codes "route") × IsRoute line.1 asked
Asks (Bookings asked) line = (line.0 ≡ codes "bookings") × IsBookings line.1 asked
Asks (Waiting asked) line = (line.0 ≡ codes "waiting") × IsWaiting line.1 asked
Asks (Pickup asked) line = (line.0 ≡ codes "pickup") × IsPickup line.1 asked
Asks (History asked) line = (line.0 ≡ codes "history") × IsHistory line.1 asked
Asks (Avs asked) line = (line.0 ≡ codes "avs") × IsAvs line.1 asked
Asks (Reconcile asked) line = (line.0 ≡ codes "reconcile") × IsReconcile line.1 asked
Asks (Compare asked) line = (line.0 ≡ codes "compare") × IsCompare line.1 asked
Asks (Carry asked) line = (line.0 ≡ codes "carry") × IsCarry line.1 asked
Asks (Changes asked) line = (line.0 ≡ codes "changes") × IsChanges line.1 asked
Asks (Audit asked) line = (line.0 ≡ codes "audit") × IsAudit line.1 asked
Asks (Seal over journal) line = (line.0 ≡ codes "seal")
    × IsOver line.1 over
    × Has line.1 (codes "journal") journal.now
Asks (Recover over cut journal) line = (line.0 ≡ codes "recover")
    × IsOver line.1 over
    × HasFlag line.1 (codes "cut") cut
    × Has line.1 (codes "journal") journal.now
Asks (Replies asked) line = (line.0 ≡ codes "replies") × IsReplies line.1 asked
Asks (Told asked) line = (line.0 ≡ codes "told") × IsTold line.1 asked
Asks (Why over line_word is_open journal) line = (line.0 ≡ codes "why")
    × IsOver line.1 over
    × Has line.1 (codes "line") line_word.now
    × HasFlag line.1 (codes "open") is_open
    × Has line.1 (codes "journal") journal.now
Asks (Explain code numbers) line = (line.0 ≡ codes "explain")
    × Has line.1 (codes "code") code.now
    × HasAny line.1 (codes "numbers") numbers
Asks (Season set limits) line = (line.0 ≡ codes "season")
    × Has line.1 (codes "set") set.now
    × Has line.1 (codes "limits") limits.now

-- ---- what the reading itself needs

-- the values that the limits of a horizon ask for
abbrev pub horizon_values : List Text
horizon_values = codes "set" ∷ codes "limits" ∷ codes "first" ∷ codes "days" ∷ []

-- the values that each command asks for
abbrev pub values_of : Named → List Text
values_of named.Ladder = []
values_of named.Check = codes "set" ∷ []
values_of named.Flights = codes "first" ∷ codes "days" ∷ codes "set" ∷ []
values_of named.Cover = horizon_values
values_of named.Rooms = horizon_values
values_of named.Loads = horizon_values
values_of named.Run = horizon_values ++ codes "today" ∷ codes "journal" ∷ []
values_of named.Serve = horizon_values ++ codes "journal" ∷ []
values_of named.Route = codes "shards" ∷ []
values_of named.Bookings = horizon_values ++ codes "journal" ∷ []
values_of named.Waiting = horizon_values ++ codes "journal" ∷ []
values_of named.Pickup = horizon_values ++ codes "journal" ∷ []
values_of named.History = horizon_values ++ codes "journal" ∷ []
values_of named.Avs = horizon_values ++ codes "journal" ∷ []
values_of named.Reconcile = horizon_values ++ codes "theirs" ∷ codes "journal" ∷ []
values_of named.Compare = codes "from" ∷ codes "to" ∷ []
values_of named.Carry = codes "from" ∷ codes "to" ∷ codes "today" ∷ codes "journal" ∷ codes "carried" ∷ []
values_of named.Changes = horizon_values ++ codes "to" ∷ codes "journal" ∷ []
values_of named.Audit = horizon_values ++ codes "journal" ∷ []
values_of named.Seal = horizon_values ++ codes "journal" ∷ []
values_of named.Recover = horizon_values ++ codes "journal" ∷ []
values_of named.Replies = horizon_values ++ codes "today" ∷ codes "journal" ∷ []
values_of named.Told = horizon_values ++ codes "desk" ∷ codes "journal" ∷ []
values_of named.Why = horizon_values ++ codes "line" ∷ codes "journal" ∷ []
values_of named.Explain = codes "code" ∷ []
values_of named.Season = codes "set" ∷ codes "limits" ∷ []

-- by which place or option each command may have several values, if it may
abbrev pub several_of : Named → Option Text
several_of named.Loads = Some (codes "others")
several_of named.Run = Some (codes "scripts")
several_of named.Serve = Some (codes "desk")
several_of named.Route = Some (codes "scripts")
several_of named.Bookings = Some (codes "locator")
several_of named.Waiting = Some (codes "others")
several_of named.Carry = Some (codes "others")
several_of named.Audit = Some (codes "scripts")
several_of named.Replies = Some (codes "scripts")
several_of named.Explain = Some (codes "numbers")
several_of command = None

-- the name of each command
abbrev pub word_of : Named → Text
word_of named.Ladder = codes "ladder"
word_of named.Check = codes "check"
word_of named.Flights = codes "flights"
word_of named.Cover = codes "cover"
word_of named.Rooms = codes "rooms"
word_of named.Loads = codes "loads"
word_of named.Run = codes "run"
word_of named.Serve = codes "serve"
word_of named.Route = codes "route"
word_of named.Bookings = codes "bookings"
word_of named.Waiting = codes "waiting"
word_of named.Pickup = codes "pickup"
word_of named.History = codes "history"
word_of named.Avs = codes "avs"
word_of named.Reconcile = codes "reconcile"
word_of named.Compare = codes "compare"
word_of named.Carry = codes "carry"
word_of named.Changes = codes "changes"
word_of named.Audit = codes "audit"
word_of named.Seal = codes "seal"
word_of named.Recover = codes "recover"
word_of named.Replies = codes "replies"
word_of named.Told = codes "told"
word_of named.Why = codes "why"
word_of named.Explain = codes "explain"
word_of named.Season = codes "season"

-- the commands of the program
abbrev pub all_named : List Named
all_named = named.Ladder ∷ named.Check ∷ named.Flights ∷ named.Cover ∷ named.Rooms ∷ named.Loads ∷ named.Run ∷ named.Serve ∷ named.Route ∷ named.Bookings ∷ named.Waiting ∷ named.Pickup ∷ named.History ∷ named.Avs ∷ named.Reconcile ∷ named.Compare ∷ named.Carry ∷ named.Changes ∷ named.Audit ∷ named.Seal ∷ named.Recover ∷ named.Replies ∷ named.Told ∷ named.Why ∷ named.Explain ∷ named.Season ∷ []

-- the first of these commands that has this name
abbrev pub first_named : Text → List Named → Option Named
first_named word [] = None
first_named word (command ∷ more) = if bytes_eq word (word_of command) then Some command else first_named word more

-- the command of this name
abbrev pub named_by : Text → Option Named
named_by word = first_named word all_named

-- and so of commands that have their names beside them
abbrev pub named_among : Text → List Name → Option Named
named_among word [] = None
named_among word (name ∷ more) = if bytes_eq word name.word.now then Some name.named else named_among word more

abbrev pub has_values : List Text → List Row → Bool
has_values ids rows = list_all (λ id. is_some (first_of id rows)) ids

-- the line is of a command, and has each value that the command asks for
abbrev pub is_complete : Line → Bool
is_complete line = option_map_or (λ command. has_values (values_of command) line.1) (named_by line.0) false

-- clap found such a line
abbrev pub is_answerable : Option Line → Bool
is_answerable found = option_map_or is_complete found false
