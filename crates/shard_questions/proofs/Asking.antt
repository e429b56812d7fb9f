-- A question about one journal of all.
use Rattle.std.proofs.Common.{◌≡◌, ◌≢◌, ◌≤◌, ◌<◌, ℕ, List, length, Option, Some, None, IfSome, ap, subst}
use Rattle.ssim_flights.specs.declared.flight.Flight.{Flight as Flown}
use Rattle.seat_limits.specs.declared.limit_row.LimitRow.{LimitRow}
use Rattle.seat_nesting.specs.Nesting.{Ladders}
use Rattle.seat_journal.specs.Text.{IsJournalText}
use Rattle.seat_journal.specs.declared.entry.Entry.{Entry}
use Rattle.seat_desk.specs.AuditDesk.{most_journal_bytes, most_lines}
use Rattle.seat_desk.specs.Desk.{IsOfInput}
use Rattle.seat_desk.specs.declared.fault.DeskFault.{DeskFault}
use Rattle.seat_desk.specs.declared.fault.DeskFault.TheVariants.{Device, Memory}
use Rattle.seat_shards.specs.declared.fault.ShardFault.{ShardFault}
use Rattle.seat_shards.specs.declared.fault.ShardFault.TheVariants.{Desk, Journal, Shared}
use Rattle.seat_shards.specs.Faults.{IsOfJournal, IsOfJournals, IsOfShards}
use Rattle.shard_questions.specs.Joined.{AreJoined}
use Rattle.shard_questions.specs.Together.{Answers, HasNoAnswer, IsAnswered, IsFirstStopped, IsRefusedBehind, IsTooLong, Refuses}

pub answered : (answers : Answers) (flights : List Flown) (rows : List LimitRow) (grid : Ladders) (known : Option (List (List ℕ)))
    (lines : List Entry) (journal text : List ℕ) → IfSome known (λ texts. AreJoined grid texts lines) → length lines ≤ most_lines
    → IsJournalText journal lines → answers flights rows grid journal text
    → IfSome known (λ texts. IsAnswered answers flights rows grid texts text)
answered answers flights rows grid None lines journal text are few is says = tt
answered answers flights rows grid (Some texts) lines journal text are few is says =
    record { lines = lines; are_joined = are; few = few; journal = journal; is_text = is; answered = says }

pub refused : (refuses : Refuses) (grid : Ladders) (known : Option (List (List ℕ))) (lines : List Entry) (journal : List ℕ)
    (fault : DeskFault) → IfSome known (λ texts. AreJoined grid texts lines) → length lines ≤ most_lines → IsJournalText journal lines
    → (fault ≢ Memory → refuses grid fault journal) → IsOfInput fault
    → IfSome known (λ texts. HasNoAnswer refuses grid texts fault)
refused refuses grid None lines journal fault are few is says of = tt
refused refuses grid (Some texts) lines journal fault are few is says of =
    record { lines = lines; are_joined = are; few = few; journal = journal; is_text = is; refused = says (λ e. subst IsOfInput e of) }

pub stopped : (refuses : Refuses) (grid : Ladders) (known : Option (List (List ℕ))) (fault : ShardFault) → IsOfJournals fault
    → (IsOfJournal fault → IfSome known (λ texts. IsFirstStopped grid texts fault)) → IsOfShards fault
    → IfSome known (λ texts. IsRefusedBehind refuses grid texts fault)
stopped refuses grid known (Desk Device) kind is of = absurd of
stopped refuses grid known (Desk Memory) kind is of = absurd of
stopped refuses grid known (Desk _) kind is of = absurd kind
stopped refuses grid known (Journal place fault) kind is of = is tt
stopped refuses grid known (Shared place number other) kind is of = is tt

pub long : (grid : Ladders) (known : Option (List (List ℕ))) (lines : List Entry) (journal : List ℕ)
    → IfSome known (λ texts. AreJoined grid texts lines) → length lines ≤ most_lines → IsJournalText journal lines
    → most_journal_bytes < length journal → IfSome known (IsTooLong grid)
long grid None lines journal are few is more = tt
long grid (Some texts) lines journal are few is more =
    record { lines = lines; are_joined = are; few = few; journal = journal; is_text = is; long = more }
