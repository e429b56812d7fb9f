-- The seal of a journal behind the talk with a desk.
use Rattle.std.specs.Prelude.{◌≡◌, ℕ, ⊤, IfSome, List, Option}
use Rattle.seat_journal.specs.declared.entry.Entry.{Entry}
use Rattle.seat_journal.specs.Text.{journal_text}
use Rattle.seat_rules.specs.Prefixes.{Begins}
use Rattle.seat_disk.specs.Leaving.{Only}
use Rattle.seat_seal.specs.declared.beside.Basis.{Basis}
use Rattle.seat_seal.specs.declared.run.Run.{Run}
use Rattle.seat_desk.specs.declared.fault.DeskFault.{DeskFault}
use Rattle.seat_desk.specs.declared.fault.DeskFault.TheVariants.{TooLarge}
use Rattle.desk_answers.specs.Hosts.{Attended}
use Rattle.desk_talk.specs.Ending.{IsTalkTo}
use Rattle.seat_restoring.specs.Serving.{IsNoEnd}
use Rattle.desk_talk.specs.declared.serving.DayFault.{DayFault}
use Rattle.desk_talk.specs.declared.closing.ServedFault.{ServedFault}
use Rattle.desk_talk.specs.declared.closing.ServedFault.TheVariants.{Day, Seal}

-- it is the talk's fault, or the journal's end, and this holds of it
abbrev pub IfDay : ServedFault → (DayFault → Type 0) → Type 0
IfDay (Day fault) Holds = Holds fault
IfDay (Seal fault) Holds = ⊤

-- it is the seal's
abbrev pub IfSeal : ServedFault → (DeskFault → Type 0) → Type 0
IfSeal (Day fault) Holds = ⊤
IfSeal (Seal fault) Holds = Holds fault

-- the journal is ended all the same: its lines begin with those that were kept, and its file is their text
pub record IsEndedUnsealed (kept : List Entry) (seen : Option (List ℕ)) (leaves : List ℕ → Type 0) (unsynced : ℕ) : Type 0 where
  pub journal : List Entry
  pub front : Begins kept journal
  pub text : IfSome seen (λ xs. xs ≡ journal_text journal)
  pub disk : Only (journal_text journal) leaves
  pub synced : unsynced ≡ 0

-- the talk was over, and it is so ended to the journal of its last line; and where the seal is too large, no seal may have that journal's entry
pub record IsTalkUnsealed {D : Type 0} (old : Attended D) (basis : Basis) (runs : List Run) (fault : DeskFault) (input out_old out_new : Option (List ℕ))
    (seen : Option (List ℕ)) (leaves : List ℕ → Type 0) (unsynced : ℕ) : Type 0 where
  pub over : IsEndedUnsealed old.serving.kept seen leaves unsynced
  pub talk : IfSome input (IsTalkTo old out_old out_new over.journal)
  pub large : fault ≡ TooLarge → IsNoEnd basis runs over.journal
