-- What `run` writes that goes on with the scripts of a journal: that journal, and behind it what is left of the scripts and the changes.
use Rattle.std.specs.Prelude.{◌≡◌, ◌<◌, ◌+◌, ◌⊎◌, ℕ, List, [], length, map, Option, Some, IfSome}
use Rattle.std.specs.List.{AllByRecursion}
use Rattle.airimp_lines.specs.declared.requests.Request.{Request}
use Rattle.ssim_flights.specs.declared.flight.Flight.{Flight as Flown}
use Rattle.seat_nesting.specs.Nesting.{Ladders}
use Rattle.seat_journal.specs.declared.entry.Control.{Control}
use Rattle.seat_journal.specs.Text.{IsEntry, IsJournalText, journal_text}
use Rattle.seat_journal.specs.declared.entry.Entry.{Entry}
use Rattle.seat_rules.specs.Totals.{totals_of}
use Rattle.seat_seal.specs.declared.beside.Beside.{Beside}
use Rattle.seat_desk.specs.AuditDesk.{audit_line}
use Rattle.seat_desk.specs.Loading.{Bytes, IsLoaded}
use Rattle.seat_desk.specs.declared.fault.DeskFault.{DeskFault}
use Rattle.seat_desk.specs.declared.fault.DeskFault.TheVariants.{Book, Change as BadChange, NoBehind, NoLeg, Unasked}
use Rattle.seat_desk.specs.declared.inputs.Inputs.{Inputs}
use Rattle.seat_scripts.specs.Against.{AgainstRefusal, FailsAgainst, IsAuditAgainst, IsTooLargeAgainst, OfFour}
use Rattle.seat_replies.specs.Changes.{AreChanges, IsUnchanged, most_change_bytes}
use Rattle.seat_replies.specs.Going.{IsPast, lists_over}
use Rattle.seat_replies.specs.Requests.{AreScripts, commands_of}
use Rattle.seat_scripts.specs.Resuming.{IsNoRest, IsRestOf}
use Rattle.seat_replies.specs.RunDesk.{IsHistoryOf, IsReplied, IsRun, IsUnbooked}
use Rattle.seat_scripts.specs.Taken.{WithTaken}

-- ---- what is asked

-- the set and the limits load as this grid of these flights, the older journal and the journal have these lines, and the scripts ask for these
pub record AreReady (set limits : List ℕ) (first days today : ℕ) (after journal : List ℕ)
    (texts : List (Option (List ℕ))) (flights : List Flown) (grid : Ladders) (older lines : List Entry)
    (scripts : List (List Request)) : Type 0 where
  pub is_loaded : IsLoaded set limits first days flights grid
  pub is_older : IsPast grid older after
  pub is_past : IsPast grid lines journal
  pub are_scripts : AreScripts today texts scripts

-- so they are, and the changes ask for these
pub record IsWholeAsked (set limits : List ℕ) (first days today : ℕ) (after journal : List ℕ)
    (texts : List (Option (List ℕ))) (changing : Option (List ℕ)) (flights : List Flown) (grid : Ladders)
    (older lines : List Entry) (scripts : List (List Request)) (changes : List Control) : Type 0 where
  pub are_ready : AreReady set limits first days today after journal texts flights grid older lines scripts
  pub are_changes : IfSome changing (AreChanges flights changes)

-- so it is, the lines of the journal behind the past are what the scripts and the changes begin with, and this is left of them
pub record IsAskedStill (set limits : List ℕ) (first days today : ℕ) (after : List ℕ) (more : ℕ) (journal : List ℕ)
    (texts : List (Option (List ℕ))) (changing : Option (List ℕ)) (flights : List Flown) (grid : Ladders)
    (lines : List Entry) (left : List (List Request)) (rest : List Control) : Type 0 where
  pub older : List Entry
  pub scripts : List (List Request)
  pub changes : List Control
  pub is_asked : IsWholeAsked set limits first days today after journal texts changing flights grid older lines scripts
      changes
  pub is_rest : IsRestOf flights scripts changes older more lines left rest

-- where the bytes of the set, of the limits and of both journals are known, behind the number of lines that is taken
abbrev pub IsAskedStillOf : {S L : Type 0} → Beside → Bytes S → Bytes L → Inputs S L → ℕ → Option (List ℕ) → Option ℕ
    → Option (List ℕ) → List (Option (List ℕ)) → Option (List ℕ) → List Flown → Ladders → List Entry → List (List Request)
    → List Control → Type 0
IsAskedStillOf beside set limits inputs today after given journal texts changing flights grid lines left rest =
    OfFour (set inputs.set) (limits inputs.limits) after journal (λ xs ys older zs. WithTaken given beside zs
    (λ more. IsAskedStill xs ys inputs.first inputs.days today older more zs texts changing flights grid lines left rest))

-- the lines of the older journal, and so many more
pub record IsAhead (more : ℕ) (after : List ℕ) (behind : ℕ) : Type 0 where
  pub each : (lines : List Entry) → IsJournalText after lines → behind ≡ length lines + more

-- where the bytes of the set, of the limits and of both journals are known, with the number that is taken
abbrev pub IsAheadOf : {S L : Type 0} → Beside → Bytes S → Bytes L → Inputs S L → Option (List ℕ) → Option ℕ
    → Option (List ℕ) → ℕ → Type 0
IsAheadOf beside set limits inputs after given journal behind =
    OfFour (set inputs.set) (limits inputs.limits) after journal
    (λ xs ys older zs. WithTaken given beside zs (λ more. IsAhead more older behind))

-- ---- the whole

-- the texts of one history that goes on from the whole journal with what is left of the scripts and the changes: its replies are those to the new lines alone
pub record IsResumed (set limits : List ℕ) (first days today : ℕ) (after : List ℕ) (more : ℕ) (journal : List ℕ)
    (texts : List (Option (List ℕ))) (changing : Option (List ℕ)) (written replies : List ℕ) : Type 0 where
  pub flights : List Flown
  pub grid : Ladders
  pub lines : List Entry
  pub left : List (List Request)
  pub rest : List Control
  pub is_asked : IsAskedStill set limits first days today after more journal texts changing flights grid lines left rest
  pub history : List Entry
  pub receipts : List (List Entry)
  pub is_history : IsHistoryOf grid lines rest (lists_over lines (map (commands_of flights) left)) history receipts
  pub are_entries : AllByRecursion IsEntry history
  pub written_is : written ≡ journal_text history
  pub is_replied : IsReplied flights lines left history receipts replies

-- ---- refusals

-- the set, the limits, both journals and the scripts are right, and the fault is that of the changes
pub record IsUnchangedBeside (set limits : List ℕ) (first days today : ℕ) (after journal : List ℕ)
    (texts : List (Option (List ℕ))) (changing : Option (List ℕ)) (fault : DeskFault) : Type 0 where
  pub flights : List Flown
  pub grid : Ladders
  pub older : List Entry
  pub lines : List Entry
  pub scripts : List (List Request)
  pub are_ready : AreReady set limits first days today after journal texts flights grid older lines scripts
  pub is_refused : IfSome changing (IsUnchanged flights fault)

-- all is right, but the journal does not begin with the older lines, or has fewer than these and so many more, or a line behind them is
-- not what the changes or the scripts have at its place; the fault names the first
pub record IsNoRestOf (set limits : List ℕ) (first days today : ℕ) (after : List ℕ) (more : ℕ) (journal : List ℕ)
    (texts : List (Option (List ℕ))) (changing : Option (List ℕ)) (fault : DeskFault) : Type 0 where
  pub flights : List Flown
  pub grid : Ladders
  pub older : List Entry
  pub lines : List Entry
  pub scripts : List (List Request)
  pub changes : List Control
  pub is_asked : IsWholeAsked set limits first days today after journal texts changing flights grid older lines scripts
      changes
  pub is_no_rest : IsNoRest flights scripts changes older more lines fault

-- all is right, and something that is left was not booked
pub record IsUnbookedStill (set limits : List ℕ) (first days today : ℕ) (after : List ℕ) (more : ℕ) (journal : List ℕ)
    (texts : List (Option (List ℕ))) (changing : Option (List ℕ)) (fault : DeskFault) : Type 0 where
  pub flights : List Flown
  pub grid : Ladders
  pub lines : List Entry
  pub left : List (List Request)
  pub rest : List Control
  pub is_asked : IsAskedStill set limits first days today after more journal texts changing flights grid lines left rest
  pub is_unbooked : IsUnbooked grid lines rest (lists_over lines (map (commands_of flights) left)) fault

-- a fault of the changes is the first, and all but they is right. One of a call that is not asked, or of lines that the journal lacks,
-- stands where all is read and right, and so does that of a call that was not booked. Any other is that of an audit with scripts: of
-- the set, its flights, the limits, the older journal, the journal, or the first script that is none
abbrev pub ResumeRefusal : List ℕ → List ℕ → ℕ → ℕ → ℕ → List ℕ → ℕ → List ℕ → List (Option (List ℕ))
    → Option (List ℕ) → DeskFault → Type 0
ResumeRefusal set limits first days today after more journal texts changing (BadChange fault) =
    IsUnchangedBeside set limits first days today after journal texts changing (BadChange fault)
ResumeRefusal set limits first days today after more journal texts changing (NoLeg line) =
    IsUnchangedBeside set limits first days today after journal texts changing (NoLeg line)
ResumeRefusal set limits first days today after more journal texts changing (Unasked session call) =
    IsNoRestOf set limits first days today after more journal texts changing (Unasked session call)
ResumeRefusal set limits first days today after more journal texts changing NoBehind =
    IsNoRestOf set limits first days today after more journal texts changing NoBehind
ResumeRefusal set limits first days today after more journal texts changing (Book session call) =
    IsUnbookedStill set limits first days today after more journal texts changing (Book session call)
ResumeRefusal set limits first days today after more journal texts changing fault =
    AgainstRefusal set limits first days after more journal today texts fault

pub record IsRefusedResume (set limits : List ℕ) (first days today : ℕ) (after : List ℕ) (more : ℕ) (journal : List ℕ)
    (texts : List (Option (List ℕ))) (changing : Option (List ℕ)) (fault : DeskFault) : Type 0 where
  pub refusal : ResumeRefusal set limits first days today after more journal texts changing fault

-- ---- inputs that are too large, or fail

-- as far as the inputs but the changes are right
pub record HasReady (set limits : List ℕ) (first days today : ℕ) (after journal : List ℕ)
    (texts : List (Option (List ℕ))) : Type 0 where
  pub flights : List Flown
  pub grid : Ladders
  pub older : List Entry
  pub lines : List Entry
  pub scripts : List (List Request)
  pub are_ready : AreReady set limits first days today after journal texts flights grid older lines scripts

-- an input of an audit with scripts is the first that is too large, or the changes are behind all of them
abbrev pub IsTooLargeResume : List ℕ → List ℕ → ℕ → ℕ → ℕ → List ℕ → List ℕ → List (Option (List ℕ))
    → Option (List ℕ) → Type 0
IsTooLargeResume set limits first days today after journal texts changing =
    IsTooLargeAgainst set limits first days after journal today texts
    ⊎ (HasReady set limits first days today after journal texts
    × IfSome changing (λ bytes. most_change_bytes < length bytes))

-- an input of an audit with scripts failed, as it says, or the changes did behind all of them
abbrev pub FailsResume : {S L : Type 0} → Bytes S → Bytes L → Inputs S L → ℕ → Option (List ℕ) → Option (List ℕ)
    → List (Option (List ℕ)) → Type 0 → Type 0 → Type 0 → Type 0 → Type 0 → Type 0
FailsResume set limits inputs today after journal texts load_failed older_failed journal_failed script_failed changes_failed =
    FailsAgainst set limits inputs after journal load_failed older_failed journal_failed script_failed
    ⊎ (OfFour (set inputs.set) (limits inputs.limits) after journal
    (λ xs ys older zs. HasReady xs ys inputs.first inputs.days today older zs texts) × changes_failed)

-- ---- the laws

-- the journal is that of the whole scripts: audit with them accepts it behind the same past
abbrev pub ResumedIsOfTheWhole : Type 0
ResumedIsOfTheWhole =
    (set limits : List ℕ) (first days today : ℕ) (after : List ℕ) (more : ℕ) (journal : List ℕ)
    (texts : List (Option (List ℕ))) (changing : Option (List ℕ)) (written replies : List ℕ) →
    (resumed : IsResumed set limits first days today after more journal texts changing written replies) →
    IsAuditAgainst set limits first days after more written today texts (audit_line (totals_of resumed.history))

-- nothing was booked: it is the same journal, and there is no reply
pub record BooksNothing (journal again replies : List ℕ) : Type 0 where
  pub same : again ≡ journal
  pub no_reply : replies ≡ []

-- the same command twice books nothing the second time
abbrev pub ResumedAgainIsTheSame : Type 0
ResumedAgainIsTheSame =
    (set limits : List ℕ) (first days today : ℕ) (after : List ℕ) (more : ℕ) (journal : List ℕ)
    (texts : List (List ℕ)) (changing written replies again more_replies : List ℕ) →
    IsResumed set limits first days today after more journal (map Some texts) (Some changing) written replies
    → IsResumed set limits first days today after more written (map Some texts) (Some changing) again more_replies
    → BooksNothing written again more_replies

-- nor do the scripts of a run that did not grow
abbrev pub ResumedRunIsTheSame : Type 0
ResumedRunIsTheSame =
    (set limits : List ℕ) (first days today : ℕ) (after : List ℕ)
    (texts : List (List ℕ)) (changing journal replies again more_replies : List ℕ) →
    IsRun set limits first days today after (map Some texts) (Some changing) journal replies
    → IsResumed set limits first days today after 0 journal (map Some texts) (Some changing) again more_replies
    → BooksNothing journal again more_replies
