-- What `replies` writes: the replies of the run that added lines to a journal, from the journal and the scripts.
use Rattle.std.specs.Prelude.{◌≡◌, ◌++◌, ◌==◌, ◌&&◌, nat_le, not, true, Bool, IsTrue, ℕ, List, [], length, map, Option, Some, None}
use Rattle.std.specs.Option.{option_map_or}
use Rattle.airimp_lines.specs.declared.requests.Request.{Request}
use Rattle.ssim_flights.specs.declared.flight.Flight.{Flight as Flown}
use Rattle.seat_nesting.specs.Nesting.{Ladders}
use Rattle.seat_journal.specs.declared.entry.Entry.{Entry}
use Rattle.seat_rules.specs.Histories.{by_session}
use Rattle.seat_rules.specs.Inventory.{Inventory}
use Rattle.seat_seal.specs.declared.beside.Beside.{Beside}
use Rattle.seat_desk.specs.FlightsDesk.{IsText}
use Rattle.seat_desk.specs.Loading.{Bytes, IsLoaded}
use Rattle.seat_desk.specs.declared.inputs.Inputs.{Inputs}
use Rattle.seat_scripts.specs.Against.{AreAsked, IsParted, IsReplayWithin, OfFour}
use Rattle.seat_replies.specs.Requests.{AreScripts}
use Rattle.seat_replies.specs.RunDesk.{IsAnswer, IsRun, requests_of}
use Rattle.seat_scripts.specs.Taken.{WithTaken}
use Rattle.seat_scripts.specs.declared.by_session.Wanted.{Wanted}

-- the reply to a line is wanted: it is of the session, where one is named, and its number is not below that one
abbrev pub is_wanted : Wanted → Entry → Bool
is_wanted wanted e = option_map_or (λ (s : ℕ). e.session == s) wanted.session true && nat_le wanted.from e.number

-- of all lines
abbrev pub all_wanted : Wanted
all_wanted = record { session = None; from = 0 }

-- the answer to a line where it is wanted, and else nothing
pub record IsWantedAnswer (wanted : Wanted) (flights : List Flown) (requests : List Request) (history : List Entry)
    (place : ℕ) (e : Entry) (text : List ℕ) : Type 0 where
  pub answered : IsTrue (is_wanted wanted e) → IsAnswer flights requests history place e text
  pub silent : IsTrue (not (is_wanted wanted e)) → text ≡ []

-- session by session, each beside what it is asked
abbrev pub AreWantedSessions : Wanted → List Flown → List (List Request) → List Entry → ℕ → List Entry → List ℕ → Type 0
AreWantedSessions wanted flights scripts history session lines text =
    IsText (IsWantedAnswer wanted flights (requests_of scripts session) history) 0 lines text

-- those to lines that were added behind the past: of session 0, the manager, then of session 1, and so on
abbrev pub AreWanted : Wanted → List Flown → List Entry → List (List Request) → List Entry → List ℕ → Type 0
AreWanted wanted flights past scripts added text =
    IsText (AreWantedSessions wanted flights scripts (past ++ added)) 0 (by_session (length scripts) added) text

-- the journal is a past and the lines that the scripts added to it, and the text replies to those of these that are wanted
pub record AreRepliesBehind (flights : List Flown) (scripts : List (List Request)) (older : List Entry) (more : ℕ)
    (journal : List Entry) (wanted : Wanted) (text : List ℕ) : Type 0 where
  pub past : List Entry
  pub added : List Entry
  pub parted : IsParted older more past added journal
  pub are_asked : AreAsked flights scripts added
  pub are_replies : AreWanted wanted flights past scripts added text

-- so it is with the lines of the journal, over the loaded grid
pub record AreRepliesOver (set limits : List ℕ) (first days : ℕ) (after : List ℕ) (more : ℕ) (journal : List ℕ)
    (today : ℕ) (texts : List (Option (List ℕ))) (wanted : Wanted) (text : List ℕ) : Type 0 where
  pub flights : List Flown
  pub grid : Ladders
  pub is_loaded : IsLoaded set limits first days flights grid
  pub older : Inventory
  pub is_older : IsReplayWithin grid older after
  pub core : Inventory
  pub is_replay : IsReplayWithin grid core journal
  pub scripts : List (List Request)
  pub are_scripts : AreScripts today texts scripts
  pub are_replies : AreRepliesBehind flights scripts older.journal more core.journal wanted text

-- where the bytes of the set, of the limits and of both journals are known, behind the number of lines that is taken
abbrev pub AreRepliesOverOf : {S L : Type 0} → Beside → Bytes S → Bytes L → Inputs S L → Option (List ℕ) → Option ℕ
    → Option (List ℕ) → ℕ → List (Option (List ℕ)) → Wanted → List ℕ → Type 0
AreRepliesOverOf beside set limits inputs after given journal today texts wanted text =
    OfFour (set inputs.set) (limits inputs.limits) after journal (λ xs ys older zs. WithTaken given beside zs
    (λ more. AreRepliesOver xs ys inputs.first inputs.days older more zs today texts wanted text))

-- ---- the law

-- what a run wrote to standard output are the replies to all lines of its journal, with its scripts and behind the journal that it went on from
abbrev pub RepliesAreThoseOfTheRun : Type 0
RepliesAreThoseOfTheRun =
    (set limits : List ℕ) (first days today : ℕ) (after : List ℕ) (texts : List (List ℕ)) (changing : Option (List ℕ))
    (journal replies : List ℕ) →
    IsRun set limits first days today after (map Some texts) changing journal replies
    → AreRepliesOver set limits first days after 0 journal today (map Some texts) all_wanted replies
