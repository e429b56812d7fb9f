-- The lines that were added to a journal behind a past, just what the scripts ask, with all that they are read beside.
use Rattle.std.specs.Prelude.{◌≡◌, ◌≤◌, ℕ, List, Option, drop, length, take}
use Rattle.airimp_lines.specs.declared.requests.Request.{Request}
use Rattle.ssim_flights.specs.declared.flight.Flight.{Flight as Flown}
use Rattle.seat_nesting.specs.Nesting.{Ladders}
use Rattle.seat_journal.specs.declared.entry.Entry.{Entry}
use Rattle.seat_rules.specs.Inventory.{Inventory}
use Rattle.seat_seal.specs.declared.beside.Beside.{Beside}
use Rattle.seat_desk.specs.Loading.{Bytes, IsLoaded}
use Rattle.seat_desk.specs.declared.inputs.Inputs.{Inputs}
use Rattle.seat_scripts.specs.Against.{AreAsked, IsParted, IsReplayWithin, OfFour}
use Rattle.seat_scripts.specs.Taken.{WithTaken}
use Rattle.seat_replies.specs.Requests.{AreScripts}
use Rattle.seat_scripts.specs.declared.added.Added.{Added}
use Rattle.seat_scripts.specs.declared.against.Against.{Against}

-- the lines behind so many of what is read
abbrev pub added_of : Against → ℕ → Added
added_of read past = record { flights = read.flights; scripts = read.scripts; core = read.core; past = past }

-- the journal has a past, and behind it just what the scripts ask
pub record IsAddedIn (read : Against) (added : Added) : Type 0 where
  pub past : ℕ
  pub added_is : added ≡ added_of read past
  pub within : past ≤ length read.core.journal
  pub parted : IsParted read.older.journal read.more (take past read.core.journal) (drop past read.core.journal)
      read.core.journal
  pub are_asked : AreAsked read.flights read.scripts (drop past read.core.journal)

-- the inputs are right: these are the flights of the set and the requests of the scripts, the journal is this past and these lines behind it, and
-- they are just what the scripts ask
pub record AreAdded (set limits : List ℕ) (first days : ℕ) (after : List ℕ) (more : ℕ) (journal : List ℕ) (today : ℕ)
    (texts : List (Option (List ℕ))) (flights : List Flown) (scripts : List (List Request)) (past added : List Entry) : Type 0
  where
    pub grid : Ladders
    pub is_loaded : IsLoaded set limits first days flights grid
    pub older : Inventory
    pub is_older : IsReplayWithin grid older after
    pub core : Inventory
    pub is_replay : IsReplayWithin grid core journal
    pub are_scripts : AreScripts today texts scripts
    pub parted : IsParted older.journal more past added core.journal
    pub are_asked : AreAsked flights scripts added

-- where the bytes of the set, of the limits and of both journals are known, behind the number of lines that is taken
abbrev pub AreAddedOf : {S L : Type 0} → Beside → Bytes S → Bytes L → Inputs S L → Option (List ℕ) → Option ℕ
    → Option (List ℕ) → ℕ → List (Option (List ℕ)) → List Flown → List (List Request) → List Entry → List Entry → Type 0
AreAddedOf beside set limits inputs after given journal today texts flights scripts past added =
    OfFour (set inputs.set) (limits inputs.limits) after journal (λ xs ys older zs. WithTaken given beside zs
    (λ more. AreAdded xs ys inputs.first inputs.days older more zs today texts flights scripts past added))
