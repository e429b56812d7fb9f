-- What the comparison of two seasons and a journal answers to its inputs: the new season is read and checked first, then the old one, and last the journal.
use Rattle.std.specs.Prelude.{◌≡◌, ◌⊎◌, ℕ, ◌+◌, ◌-◌, Bool, true, false, List, max, min, Option}
use Rattle.ssim_flights.specs.declared.flight.Flight.{Flight as Flown}
use Rattle.seat_limits.specs.declared.limit_row.LimitRow.{LimitRow}
use Rattle.seat_nesting.specs.Nesting.{Ladders}
use Rattle.seat_seal.specs.declared.beside.Beside.{Beside}
use Rattle.seat_rules.specs.Journal.{replay}
use Rattle.seat_desk.specs.After.{HoldsAfter}
use Rattle.seat_desk.specs.Answering.{HasFirstFailed, IsAnswerOf, IsFirstTooLargeOf, IsRefusedAnswerOf}
use Rattle.seat_desk.specs.AuditDesk.{IsUnlawful}
use Rattle.seat_desk.specs.Desk.{InputFailed, IsOfInput, OutputFailed}
use Rattle.seat_desk.specs.Loading.{Bytes, HasFirstLoadFailed, IsFirstTooLargeLoadOf, IsLoadedOf, IsRefusedLoadOf}
use Rattle.seat_desk.specs.declared.fault.DeskFault.{DeskFault}
use Rattle.seat_desk.specs.declared.inputs.Inputs.{Inputs}
use Rattle.season_changes.specs.Comparing.{IsComparisonText}
use Rattle.season_changes.specs.declared.comparing.Comparison.{Comparison}

-- what the text says of the flights and the ladders of the old season and a journal, where the question is about a new one
abbrev pub answers_of : Comparison → List Flown → List LimitRow → Ladders → List ℕ → List ℕ → Type 0
answers_of asked = λ flights rows grid journal text.
    HoldsAfter (λ entries. IsComparisonText asked flights grid (replay grid entries).bookings text) grid journal

-- the days from the one to the other are those that both seasons have
pub record AreCommon (first last from from_days to to_days : ℕ) : Type 0 where
  pub first_is : first ≡ max from to
  pub last_is : last ≡ min (from + from_days - 1) (to + to_days - 1)

-- this holds of the question that is about the flights and ladders of the new season, and about the days that both have
pub record IsAbout {S L : Type 0} (set : Bytes S) (limits : Bytes L) (from to : Inputs S L) (has_journal : Bool) (holds : Comparison → Type 0) : Type 0
  where
    pub asked : Comparison
    pub loaded : IsLoadedOf set limits to asked.flights.now asked.grid.now
    pub days : AreCommon asked.first asked.last from.first from.days to.first to.days
    pub shows : asked.has_journal ≡ has_journal
    pub answered : holds asked

-- the fault is that of the new season's set, flights or limits, or else of the old one's, or else of what stands beside the journal, or else of the journal
abbrev pub IsRefusedOf : {S L : Type 0} → Bytes S → Bytes L → Inputs S L → Inputs S L → Option (List ℕ) → Beside → Bool → DeskFault → Type 0
IsRefusedOf set limits from to journal beside true fault = IsOfInput fault → IsRefusedLoadOf set limits to fault
IsRefusedOf set limits from to journal beside false fault =
    IsOfInput fault → IsRefusedAnswerOf (λ grid f bytes. IsUnlawful grid f bytes) beside set limits from journal fault

-- the first of the inputs of the one season, or of the other with its journal, that is not right is too large
abbrev pub IsTooLargeOf : {S L : Type 0} → Bytes S → Bytes L → Inputs S L → Inputs S L → Option (List ℕ) → Bool → Type 0
IsTooLargeOf set limits from to journal true = IsFirstTooLargeLoadOf set limits to
IsTooLargeOf set limits from to journal false = IsFirstTooLargeOf set limits from journal

-- an input of the new season has failed; or one of the old one or the journal, or the output behind a beginning of what answers
abbrev pub HasFailedOf : {S L J W : Type 0} → Bytes S → Bytes L → (S → ℕ) → (L → ℕ) → Bytes J → (J → ℕ) → (W → Option (List ℕ)) → (W → ℕ)
    → Inputs S L → Inputs S L → Inputs S L → Inputs S L → Bool → J → J → Beside → W → W → Bool → Type 0
HasFailedOf set limits of_set of_limits text of_journal contents of_out from from_new to to_new has_journal journal journal_new beside out out_new true =
    InputFailed (HasFirstLoadFailed set of_set of_limits to to_new) out out_new
HasFailedOf set limits of_set of_limits text of_journal contents of_out from from_new to to_new has_journal journal journal_new beside out out_new false =
    IsAbout set limits from to has_journal (λ asked.
    InputFailed (HasFirstFailed set limits of_set of_limits of_journal from from_new journal journal_new) out out_new
    ⊎ OutputFailed of_out contents out out_new (IsAnswerOf (answers_of asked) beside set limits from (text journal)))
