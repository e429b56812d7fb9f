-- What a question is answered about journals of hosts that have different flights.
use Rattle.std.specs.Prelude.{◌≡◌, ◌≤◌, ◌<◌, ◌⊎◌, ℕ, ◌+◌, List, [], ◌∷◌, ◌++◌, length, map, Option, IfSome}
use Rattle.std.specs.List.{sum_by}
use Rattle.ssim_flights.specs.declared.flight.Flight.{Flight as Flown}
use Rattle.seat_limits.specs.Authorised.{authorised_grid}
use Rattle.seat_limits.specs.declared.limit_row.LimitRow.{LimitRow}
use Rattle.seat_nesting.specs.Nesting.{Ladders}
use Rattle.seat_journal.specs.Text.{IsJournalText}
use Rattle.seat_journal.specs.declared.entry.Entry.{Entry}
use Rattle.seat_desk.specs.AuditDesk.{most_journal_bytes, most_lines}
use Rattle.seat_desk.specs.Loading.{Bytes, IsFirstTooLargeLoadOf, IsGround, IsRefusedLoad}
use Rattle.seat_desk.specs.declared.fault.DeskFault.{DeskFault}
use Rattle.seat_desk.specs.declared.fault.DeskFault.TheVariants.{Full}
use Rattle.seat_desk.specs.declared.inputs.Inputs.{Inputs}
use Rattle.seat_shards.specs.declared.fault.ShardFault.{ShardFault}
use Rattle.seat_shards.specs.declared.fault.ShardFault.TheVariants.{Desk, Journal}
use Rattle.seat_shards.specs.Shards.{AreShards}
use Rattle.seat_shards.specs.Taking.{known, AreTexts, IsFirstRefused, IsTextOf}
use Rattle.shard_questions.specs.Joined.{AreJoined, IsBeyond}

-- the first of the texts behind whose lines, and those of the texts before it, one journal of all has no room, where all are right up to it
pub record IsFirstFull (grid : Ladders) (texts : List (List ℕ)) (fault : ShardFault) : Type 0 where
  pub before : List (List ℕ)
  pub text : List ℕ
  pub behind : List (List ℕ)
  pub cut : texts ≡ before ++ text ∷ behind
  pub journals : List (List Entry)
  pub are_texts : AreTexts before journals
  pub entries : List Entry
  pub is_text : IsTextOf text entries
  pub shards : AreShards grid most_lines (journals ++ entries ∷ [])
  pub line : ℕ
  pub beyond : IsBeyond (sum_by (λ (journal : List Entry). length journal) journals) entries line
  pub is : fault ≡ Journal (length journals + 1) (Full line)

-- the first of the texts that is refused, by itself or beside those before it, or has no room behind them
abbrev pub IsFirstStopped : Ladders → List (List ℕ) → ShardFault → Type 0
IsFirstStopped grid texts fault = IsFirstRefused grid texts fault ⊎ IsFirstFull grid texts fault

-- what a question says of flights, limit rows, the ladders that these give, the bytes of a journal and a text; and why one has no answer
abbrev pub Answers : Type 1
Answers = List Flown → List LimitRow → Ladders → List ℕ → List ℕ → Type 0

abbrev pub Refuses : Type 1
Refuses = Ladders → DeskFault → List ℕ → Type 0

-- the text answers the question about one journal of all these
pub record IsAnswered (answers : Answers) (flights : List Flown) (rows : List LimitRow) (grid : Ladders) (texts : List (List ℕ))
    (text : List ℕ) : Type 0 where
  pub lines : List Entry
  pub are_joined : AreJoined grid texts lines
  pub few : length lines ≤ most_lines
  pub journal : List ℕ
  pub is_text : IsJournalText journal lines
  pub answered : answers flights rows grid journal text

-- one journal of all these has no answer
pub record HasNoAnswer (refuses : Refuses) (grid : Ladders) (texts : List (List ℕ)) (fault : DeskFault) : Type 0 where
  pub lines : List Entry
  pub are_joined : AreJoined grid texts lines
  pub few : length lines ≤ most_lines
  pub journal : List ℕ
  pub is_text : IsJournalText journal lines
  pub refused : refuses grid fault journal

-- one journal of all these has too many bytes
pub record IsTooLong (grid : Ladders) (texts : List (List ℕ)) : Type 0 where
  pub lines : List Entry
  pub are_joined : AreJoined grid texts lines
  pub few : length lines ≤ most_lines
  pub journal : List ℕ
  pub is_text : IsJournalText journal lines
  pub long : most_journal_bytes < length journal

-- ---- behind a set and limits

pub record IsTogether (answers : Answers) (set limits : List ℕ) (first days : ℕ) (texts : List (List ℕ)) (text : List ℕ) : Type 0 where
  pub flights : List Flown
  pub rows : List LimitRow
  pub is_ground : IsGround set limits first days flights rows
  pub answered : IsAnswered answers flights rows (authorised_grid rows flights) texts text

-- where the bytes of all inputs are known
abbrev pub IsTogetherOf : {S L : Type 0} → Answers → Bytes S → Bytes L → Inputs S L → List (Option (List ℕ)) → List ℕ → Type 0
IsTogetherOf answers set limits inputs journals text =
    IfSome (set inputs.set) (λ xs. IfSome (limits inputs.limits)
    (λ ys. IfSome (known journals) (λ zs. IsTogether answers xs ys inputs.first inputs.days zs text)))

-- the journals are refused, or the question has no answer
abbrev pub IsRefusedBehind : Refuses → Ladders → List (List ℕ) → ShardFault → Type 0
IsRefusedBehind refuses grid texts (Desk fault) = HasNoAnswer refuses grid texts fault
IsRefusedBehind refuses grid texts fault = IsFirstStopped grid texts fault

pub record IsRefusedOver (refuses : Refuses) (set limits : List ℕ) (first days : ℕ) (texts : List (List ℕ)) (fault : ShardFault) : Type 0 where
  pub flights : List Flown
  pub rows : List LimitRow
  pub is_ground : IsGround set limits first days flights rows
  pub refused : IsRefusedBehind refuses (authorised_grid rows flights) texts fault

-- the set or the limits are refused
abbrev pub IsRefusedGround : List ℕ → List ℕ → ℕ → ℕ → ShardFault → Type 0
IsRefusedGround set limits first days (Desk fault) = IsRefusedLoad set limits first days fault
IsRefusedGround set limits first days fault = ⊥

-- the fault is that of the set, of its flights or of the limits, or else of the first journal that is refused, or else of the question
abbrev pub IsRefused : Refuses → List ℕ → List ℕ → ℕ → ℕ → List (List ℕ) → ShardFault → Type 0
IsRefused refuses set limits first days texts fault =
    IsRefusedGround set limits first days fault ⊎ IsRefusedOver refuses set limits first days texts fault

abbrev pub IsRefusedOf : {S L : Type 0} → Refuses → Bytes S → Bytes L → Inputs S L → List (Option (List ℕ)) → ShardFault → Type 0
IsRefusedOf refuses set limits inputs journals fault =
    IfSome (set inputs.set) (λ xs. IfSome (limits inputs.limits)
    (λ ys. IfSome (known journals) (λ zs. IsRefused refuses xs ys inputs.first inputs.days zs fault)))

pub record IsTooLongOver (set limits : List ℕ) (first days : ℕ) (texts : List (List ℕ)) : Type 0 where
  pub flights : List Flown
  pub rows : List LimitRow
  pub is_ground : IsGround set limits first days flights rows
  pub long : IsTooLong (authorised_grid rows flights) texts

-- the set or the limits are too large, or else one journal of all
abbrev pub IsTooLargeOf : {S L : Type 0} → Bytes S → Bytes L → Inputs S L → List (Option (List ℕ)) → Type 0
IsTooLargeOf set limits inputs journals =
    IsFirstTooLargeLoadOf set limits inputs
    ⊎ IfSome (set inputs.set) (λ xs. IfSome (limits inputs.limits)
    (λ ys. IfSome (known journals) (λ zs. IsTooLongOver xs ys inputs.first inputs.days zs)))
