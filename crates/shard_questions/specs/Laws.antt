-- The laws of journals one behind the other.
use Rattle.std.specs.Prelude.{◌≡◌, ◌≤◌, ℕ, List, length}
use Rattle.std.specs.List.{sum_by}
use Rattle.seat_nesting.specs.Nesting.{Ladders}
use Rattle.seat_journal.specs.Text.{IsJournalText}
use Rattle.seat_journal.specs.declared.entry.Entry.{Entry}
use Rattle.seat_rules.specs.Journal.{IsLegal}
use Rattle.seat_desk.specs.AuditDesk.{IsUnlawful, most_lines}
use Rattle.seat_desk.specs.declared.fault.DeskFault.{DeskFault}
use Rattle.seat_shards.specs.Shards.{AreShards, IsMix}
use Rattle.shard_questions.specs.Joined.{AreJoined, in_turn, joined}

-- in turn they keep the order of each, and are a legal history, as long as they are together
abbrev pub JoinedIsLegal : Type 0
JoinedIsLegal = (grid : Ladders) (cap : ℕ) (journals : List (List Entry)) → AreShards grid cap journals
    → IsMix journals (in_turn journals) × IsLegal grid (joined journals)
    × (length (joined journals) ≡ sum_by (λ (journal : List Entry). length journal) journals)

-- and of at most as many lines as a journal has they are what an audit accepts
abbrev pub JoinedAreNotRefused : Type 0
JoinedAreNotRefused = (grid : Ladders) (texts : List (List ℕ)) (lines : List Entry) (journal : List ℕ) (fault : DeskFault)
    → AreJoined grid texts lines → length lines ≤ most_lines → IsJournalText journal lines → IsUnlawful grid fault journal → ⊥
