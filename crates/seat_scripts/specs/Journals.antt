-- Two journals that are read one behind the other, over a set and limits that are right, and what scripts ask behind them; or what is wrong with one of these.
use Rattle.std.specs.Prelude.{◌≡◌, ◌≤◌, ◌<◌, ◌+◌, ◌⊎◌, ℕ, Bool, IsTrue, List, length, Option, Some, IfSome}
use Rattle.std.specs.List.{AllByRecursion}
use Rattle.seat_rules.specs.Inventory.{Inventory}
use Rattle.seat_rules.specs.Journal.{IsLegal}
use Rattle.seat_seal.specs.Booked.{scripts_booked}
use Rattle.seat_seal.specs.Known.{IsKnown, runs_known}
use Rattle.seat_seal.specs.declared.beside.Beside.{Beside}
use Rattle.seat_desk.specs.Answering.{IsFirstTooLarge}
use Rattle.seat_desk.specs.AuditDesk.{most_journal_bytes, most_lines}
use Rattle.seat_desk.specs.Desk.{IsOfInput}
use Rattle.seat_desk.specs.Loading.{Bytes, IsBehind, IsGridOf, IsLoadedOf}
use Rattle.seat_desk.specs.Sealing.{IsBasisOf}
use Rattle.seat_desk.specs.declared.fault.DeskFault.{DeskFault}
use Rattle.seat_desk.specs.declared.fault.DeskFault.TheVariants.{Device, TooLarge}
use Rattle.seat_desk.specs.declared.inputs.Inputs.{Inputs}
use Rattle.seat_desk.specs.declared.loading.Based.{Based}
use Rattle.seat_replies.specs.Asked.{OfThree}
use Rattle.seat_replies.specs.Requests.{AreRight, AreScripts, IsTooLargeAmong}
use Rattle.seat_scripts.specs.Against.{IsOfReadingWhere, IsReplayWithin, IsUnlawfulBeside, OfFour}
use Rattle.seat_scripts.specs.AskedFrom.{IsNoScript}
use Rattle.seat_scripts.specs.Beside.{FailsStart, IsFaultless}
use Rattle.seat_scripts.specs.Both.{BothAgreeOf, IsOlderSealed, IsRefusedSealed}
use Rattle.seat_scripts.specs.Repeated.{IsOneBooked}
use Rattle.seat_scripts.specs.Taken.{lines_taken}
use Rattle.seat_scripts.specs.TextImprints.{AreImprints}
use Rattle.seat_scripts.specs.declared.against.Against.{Against}
use Rattle.seat_scripts.specs.declared.besides.Besides.{Besides}
use Rattle.seat_scripts.specs.declared.journals.Journals.{Journals}
use Rattle.seat_scripts.specs.declared.past.Known.{Known}
use Rattle.seat_scripts.specs.declared.scripts.ReadScripts.{ReadScripts}

-- ---- the journals

-- both, where this is read of the second over what is loaded
abbrev pub journals_by : Based → Inventory → Known → Journals
journals_by based older read = record {
  flights = based.loaded.flights;
  older = older;
  core = read.past;
  basis = based.basis;
  known = read.last;
}

-- the second is replayed over the grid that is loaded, and agrees with what stands beside it
pub record AreJournalsBeside (beside : Beside) (based : Based) (older : Inventory) (journal : Option (List ℕ))
    (both : Journals) : Type 0 where
  pub read : Known
  pub both_are : both ≡ journals_by based older read
  pub is_replay : IfSome journal (IsReplayWithin based.loaded.grid read.past)
  pub agrees : IfSome journal (IsFaultless beside based.basis)
  pub is_known : IfSome journal (λ bytes. IsKnown beside bytes read.last)
  pub grid_is : read.past.grid ≡ based.loaded.grid
  pub is_legal : IsLegal read.past.grid read.past.journal
  pub most : read.past.cap ≡ most_lines
  pub few_lines : length read.past.journal ≤ most_lines

-- the set and the limits are loaded, and both journals, each of which agrees with what stands beside it, are replayed over their grid
pub record AreJournals {S L : Type 0} (besides : Besides) (set : Bytes S) (limits : Bytes L) (inputs : Inputs S L)
    (after journal : Option (List ℕ)) (is_sealed : Bool) (both : Journals) : Type 0 where
  pub is_loaded : IsLoadedOf set limits inputs both.flights both.core.grid
  pub is_older : IfSome after (IsReplayWithin both.core.grid both.older)
  pub is_replay : IfSome journal (IsReplayWithin both.core.grid both.core)
  pub agree : BothAgreeOf besides set limits inputs after journal
  pub is_known : IfSome journal (λ bytes. IsKnown besides.journal bytes both.known)
  pub is_legal : IsLegal both.core.grid both.core.journal
  pub most : both.core.cap ≡ most_lines
  pub one_grid : both.older.grid ≡ both.core.grid
  pub is_grid : IsGridOf both.flights both.core.grid
  pub few_older : length both.older.journal ≤ most_lines
  pub few_lines : length both.core.journal ≤ most_lines
  pub is_basis : IsTrue is_sealed → IsBasisOf set limits inputs both.basis

-- the set, the limits or the older journal is the first that is too large, or the journal is behind an older one that is right and agrees
abbrev pub IsFirstTooLargeOfBoth : Besides → List ℕ → List ℕ → ℕ → ℕ → List ℕ → List ℕ → Type 0
IsFirstTooLargeOfBoth besides set limits first days after journal =
    IsFirstTooLarge set limits first days after
    ⊎ IsBehind (IsOlderSealed besides.older set limits first days after) (most_journal_bytes < length journal)

-- the set or the limits failed, as the first says, or the older journal behind them, or the journal behind an older one that is right
-- and agrees
abbrev pub FailsJournals : {S L : Type 0} → Besides → Bytes S → Bytes L → Inputs S L → Option (List ℕ) → Type 0 → Type 0
    → Type 0 → Type 0
FailsJournals besides set limits inputs after load_failed older_failed journal_failed =
    FailsStart set limits inputs load_failed older_failed
    ⊎ IsBehind (OfThree (set inputs.set) (limits inputs.limits) after
    (λ xs ys older. IsOlderSealed besides.older xs ys inputs.first inputs.days older)) journal_failed

-- one of them is refused, is too large or has failed, each behind those that are right
pub record AreNoJournals {S L : Type 0} (besides : Besides) (set : Bytes S) (limits : Bytes L) (inputs : Inputs S L)
    (after journal : Option (List ℕ)) (load_failed older_failed journal_failed : Type 0) (fault : DeskFault) : Type 0 where
  pub refused : IsOfInput fault → OfFour (set inputs.set) (limits inputs.limits) after journal
      (λ xs ys older zs. IsRefusedSealed besides xs ys inputs.first inputs.days older zs fault
      (IsUnlawfulBeside xs ys inputs.first inputs.days older zs fault))
  pub of_reading : IsOfInput fault → IsOfReadingWhere set limits inputs after journal fault
  pub large : fault ≡ TooLarge → OfFour (set inputs.set) (limits inputs.limits) after journal
      (λ xs ys older zs. IsFirstTooLargeOfBoth besides xs ys inputs.first inputs.days older zs)
  pub device : fault ≡ Device
      → FailsJournals besides set limits inputs after load_failed older_failed journal_failed

-- ---- and scripts behind them

-- both, with the scripts behind so many lines of the journal
abbrev pub against_by : Journals → ℕ → ReadScripts → Against
against_by both more scripts = record {
  flights = both.flights;
  older = both.older;
  more = more;
  core = both.core;
  scripts = scripts.scripts;
  basis = both.basis;
  imprints = scripts.imprints;
  is_booked = scripts.is_booked;
  known = both.known;
}

-- the lines ahead of the scripts
abbrev pub ahead_of : Journals → ℕ → ℕ
ahead_of both more = length both.older.journal + more

-- these are the requests of the scripts behind the lines that are taken, the imprints of their texts, and whether a run ahead of those lines
-- booked what one of them begins with
pub record IsReadBehind (both : Journals) (given : Option ℕ) (today : ℕ) (texts : List (Option (List ℕ)))
    (read : Against) : Type 0 where
  pub more : ℕ
  pub more_is : more ≡ lines_taken given both.known
  pub scripts : ReadScripts
  pub are_scripts : AreScripts today texts scripts.scripts
  pub are_right : AllByRecursion AreRight scripts.scripts
  pub are_imprints : AreImprints texts scripts.imprints
  pub is_booked : IsOneBooked (scripts_booked (Some (ahead_of both more)) (runs_known both.known)) texts scripts.is_booked
  pub read_is : read ≡ against_by both more scripts

-- one of the scripts is refused, is too large or has failed
pub record IsNotReadBehind (today : ℕ) (texts : List (Option (List ℕ))) (script_failed : Type 0) (fault : DeskFault) :
    Type 0 where
  pub refused : IsOfInput fault → IsNoScript today texts fault
  pub large : fault ≡ TooLarge → IsTooLargeAmong today texts
  pub device : fault ≡ Device → script_failed
