-- The end of a talk, and of the journal with it.
use Rattle.std.specs.Prelude.{◌≡◌, ℕ, Bool, true, false, None, Option, IfSome, List}
use Rattle.seat_nesting.specs.Nesting.{Ladders}
use Rattle.seat_journal.specs.declared.entry.Entry.{Entry}
use Rattle.seat_journal.specs.Text.{journal_text, IsJournalText}
use Rattle.seat_rules.specs.Headline.{Headline}
use Rattle.seat_rules.specs.Prefixes.{Begins}
use Rattle.seat_rules.specs.Replaying.{replay_fault}
use Rattle.seat_disk.specs.Leaving.{Only}
use Rattle.seat_serving.specs.Served.{IsOnDisk}
use Rattle.seat_serving.specs.declared.serving.ServeFault.TheVariants as ends
use Rattle.seat_serving.specs.declared.serving.ending.Ended.{Ended}
use Rattle.desk_answers.specs.Hosts.{Attended}
use Rattle.desk_talk.specs.Talks.{EndsUntold, IsTalk}
use Rattle.desk_talk.specs.declared.serving.DayFault.{DayFault}
use Rattle.desk_talk.specs.declared.serving.DayFault.TheVariants.{Talk, End}
use Rattle.desk_talk.specs.declared.talk_fault.TalkFault.TheVariants as talks

-- a whole talk from this host on, behind which the journal has these lines
pub record IsTalkTo {D : Type 0} (old : Attended D) (out_old out_new : Option (List ℕ)) (journal : List Entry) (input : List ℕ)
    : Type 0 where
  pub new : Attended D
  pub talk : IsTalk old new out_old out_new input
  pub journal_is : new.serving.journal ≡ journal

-- and where the journal could not be ended
pub record IsTalkedOut {D : Type 0} (old : Attended D) (out_old out_new : Option (List ℕ)) (input : List ℕ) : Type 0 where
  pub new : Attended D
  pub talk : IsTalk old new out_old out_new input

-- the last line that was heard is in the journal of this file, and was not told of
pub record IsUntoldIn {D : Type 0} (tape : D) : Type 0 where
  pub new : Attended D
  pub untold : EndsUntold new
  pub tape_is : tape ≡ new.serving.tape

-- the journal is ended: its file has its text, of which a reader finds these lines and an audit no fault, and a crash leaves nothing else
pub record IsEnded (grid : Ladders) (cap : ℕ) (ended : Ended) (seen : Option (List ℕ)) (leaves : List ℕ → Type 0) (unsynced : ℕ)
    : Type 0 where
  pub headline : Headline grid cap 8 ended.journal ended.receipts ended.totals
  pub text : IfSome seen (λ xs. xs ≡ journal_text ended.journal)
  pub disk : Only (journal_text ended.journal) leaves
  pub synced : unsynced ≡ 0
  pub readable : IsJournalText (journal_text ended.journal) ended.journal
  pub faultless : replay_fault grid cap ended.journal ≡ None

-- the journal is left open: its file has lines that begin with those that were kept, and no END line
pub record IsLeftOpen (kept : List Entry) (seen : Option (List ℕ)) (leaves : List ℕ → Type 0) (unsynced : ℕ) : Type 0 where
  pub journal : List Entry
  pub front : Begins kept journal
  pub disk : IsOnDisk journal seen leaves
  pub synced : unsynced ≡ 0

-- the journal's file failed
abbrev pub is_of_journal : DayFault → Bool
is_of_journal (Talk talks.Journal) = true
is_of_journal (End ends.Device) = true
is_of_journal fault = false
