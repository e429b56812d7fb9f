-- One journal, by itself and beside those before it.
use Rattle.std.proofs.Common.{◌≡◌, ◌≢◌, ◌<◌, ◌≤◌, ◌⊎◌, inl, inr, ℕ, ◌+◌, List, Option, None, Some, IfSome, Result, Ok, Err, IfErr, IfOk, OnOk, length, refl, ap, subst, ◌∙◌}
use Rattle.seat_nesting.specs.Nesting.{Ladders}
use Rattle.seat_journal.specs.Text.{IsJournalText}
use Rattle.seat_journal.specs.declared.entry.Entry.{Entry}
use Rattle.seat_journal.specs.declared.fault.JournalFault.{JournalFault}
use Rattle.seat_journal.specs.declared.fault.JournalKind.{JournalKind}
use Rattle.seat_journal.specs.declared.fault.JournalKind.TheVariants as journal_kinds
use Rattle.seat_rules.specs.Inventory.{Inventory, IsOpened}
use Rattle.seat_rules.specs.Journal.{IsLegal}
use Rattle.seat_rules.specs.Totals.{totals_of}
use Rattle.seat_rules.specs.declared.fault.ReplayFault.{ReplayFault}
use Rattle.seat_rules.specs.declared.fault.ReplayKind.{ReplayKind}
use Rattle.seat_rules.specs.declared.fault.ReplayKind.TheVariants as replay_kinds
use Rattle.seat_rules.specs.declared.totals.Totals.{Totals}
use Rattle.seat_desk.specs.AuditDesk.{journal_fault, journal_fault_of, replay_refusal, replay_refusal_of, most_journal_bytes, most_lines, IsUnlawful}
use Rattle.seat_desk.specs.declared.fault.DeskFault.{DeskFault}
use Rattle.seat_desk.specs.declared.fault.DeskFault.TheVariants.{Device, Memory, TooLarge}
use Rattle.seat_shards.specs.declared.fault.ShardFault.{ShardFault}
use Rattle.seat_shards.specs.declared.fault.ShardFault.TheVariants.{Desk, Shared}
use Rattle.taken_journals.specs.declared.taken.NotTaken.{NotTaken}
use Rattle.taken_journals.specs.declared.taken.NotTaken.TheVariants.{Shared as Owned}
use Rattle.taken_journals.specs.declared.taken.Taken.{Taken}
use Rattle.taken_journals.specs.Owners.{first_owned}
use Rattle.taken_journals.specs.Taken.{IsNotTaken, TakesToo}
use Rattle.seat_shards.specs.Faults.{placed, IsOfJournal, IsOfJournals}
use Rattle.seat_shards.specs.Taking.{IsLegalText, IsTakenWith, RefusesMore}

-- ---- by itself

pub legal_text : (grid : Ladders) (core : Inventory) (text : List ℕ) (entries lines : List Entry) (totals : Totals)
    → IsOpened core grid most_lines → length text ≤ most_journal_bytes → IsJournalText text entries → lines ≡ entries
    → IsLegal core.grid lines × (length lines ≤ core.cap) → totals ≡ totals_of lines → IsLegalText grid text entries totals
legal_text grid core text entries lines totals opened size read same legal sums = record {
  is_text = record { within = size; is_text = read };
  legal = subst (λ (limits : Ladders). IsLegal limits entries) opened.grid_is (subst (IsLegal core.grid) same legal.0);
  few = subst (λ (n : ℕ). length entries ≤ n) opened.cap_is (subst (λ (es : List Entry). length es ≤ core.cap) same legal.1);
  sums = sums ∙ ap totals_of same;
}

pub kind_of_text : (fault : JournalFault) → (journal_fault fault ≢ Device) × (journal_fault fault ≢ TooLarge)
kind_of_text fault = by fault.kind where
  by : (kind : JournalKind) → (journal_fault_of kind fault ≢ Device) × (journal_fault_of kind fault ≢ TooLarge)
  by journal_kinds.Memory = (λ e. absurd (cc e), λ e. absurd (cc e))
  by _ = (λ e. absurd (cc e), λ e. absurd (cc e))

pub kind_of_replay : (fault : ReplayFault) → (replay_refusal fault ≢ Device) × (replay_refusal fault ≢ TooLarge)
kind_of_replay fault = by fault.kind where
  by : (kind : ReplayKind) → (replay_refusal_of kind fault ≢ Device) × (replay_refusal_of kind fault ≢ TooLarge)
  by replay_kinds.Memory = (λ e. absurd (cc e), λ e. absurd (cc e))
  by _ = (λ e. absurd (cc e), λ e. absurd (cc e))

-- ---- beside those before it

pub refused_alone : (grid : Ladders) (taken : Taken) (text : List ℕ) (place : ℕ) (fault : DeskFault) → place ≡ taken.count + 1
    → (fault ≢ Memory → IsUnlawful grid fault text) → fault ≢ TooLarge
    → IsOfJournal (placed place fault) → RefusesMore grid taken (placed place fault) text
refused_alone grid taken text place Device next is large of = absurd of
refused_alone grid taken text place Memory next is large of = absurd of
refused_alone grid taken text place TooLarge next is large of = absurd (large refl)
refused_alone grid taken text place _ next is large of = (next, is (λ e. absurd (cc e)))

pub no_device : (place : ℕ) (fault : DeskFault) → fault ≢ Device → placed place fault ≢ Desk Device
no_device place Device not e = not refl
no_device place Memory not e = absurd (cc e)
no_device place _ not e = absurd (cc e)

pub of_journals : (place : ℕ) (fault : DeskFault) → IsOfJournals (placed place fault)
of_journals place Device = tt
of_journals place Memory = tt
of_journals place _ = tt

-- a legal text whose lines are taken is taken
pub taken_with : (grid : Ladders) (old new : Taken) (text : List ℕ) (entries lines : List Entry) (own : Totals)
    → IsLegalText grid text entries own → lines ≡ entries → TakesToo old new lines own → IsTakenWith grid old new text
taken_with grid old new text entries lines own read same takes =
    let all : TakesToo old new entries own = subst (λ (es : List Entry). TakesToo old new es own) same takes in
    record { entries = entries; own = own; read = read; apart = all.apart; owners = all.owners; count = all.count; sums = all.sums }

pub refused_beside : (grid : Ladders) (taken : Taken) (text : List ℕ) (place number other : ℕ) (entries lines : List Entry) (own : Totals)
    (fault : NotTaken) → place ≡ taken.count + 1 → IsLegalText grid text entries own → lines ≡ entries → fault ≡ Owned number other
    → IsNotTaken taken lines own fault → RefusesMore grid taken (Shared place number other) text
refused_beside grid taken text place number other entries lines own fault next read same is not =
    let first : first_owned taken.owners.items lines ≡ Some (number, other) = subst (IsNotTaken taken lines own) is not in (
      next,
      record {
        entries = entries;
        own = own;
        read = read;
        first = subst (λ (es : List Entry). first_owned taken.owners.items es ≡ Some (number, other)) same first;
      },
    )

-- ---- a journal whose bytes are read

pub failed_read : (P : Type 0) (place : ℕ) (fault : DeskFault) → (fault ≡ Device → P) → placed place fault ≡ Desk Device → P
failed_read P place Device failed e = failed refl
failed_read P place Memory failed e = absurd (cc e)
failed_read P place _ failed e = absurd (cc e)

pub refused_unread : (grid : Ladders) (taken : Taken) (text : Option (List ℕ)) (place : ℕ) (fault : DeskFault) → place ≡ taken.count + 1
    → (fault ≡ TooLarge → IfSome text (λ xs. most_journal_bytes < length xs))
    → (fault ≡ TooLarge) ⊎ ((fault ≡ Device) ⊎ (fault ≡ Memory)) → IsOfJournal (placed place fault)
    → IfSome text (RefusesMore grid taken (placed place fault))
refused_unread grid taken text place Device next large kind of = absurd of
refused_unread grid taken text place Memory next large kind of = absurd of
refused_unread grid taken text place TooLarge next large kind of = by text (large refl) where
  by : (o : Option (List ℕ)) → IfSome o (λ xs. most_journal_bytes < length xs) → IfSome o (RefusesMore grid taken (placed place TooLarge))
  by None many = tt
  by (Some xs) many = (next, many)
refused_unread grid taken text place _ next large (inl e) of = absurd (cc e)
refused_unread grid taken text place _ next large (inr (inl e)) of = absurd (cc e)
refused_unread grid taken text place _ next large (inr (inr e)) of = absurd (cc e)

pub of_known : (text : Option (List ℕ)) (bytes : List ℕ) (P : List ℕ → Type 0) → IfSome text (λ xs. bytes ≡ xs) → P bytes → IfSome text P
of_known None bytes P is holds = tt
of_known (Some xs) bytes P is holds = subst P is holds

module _ {T : Type 0} (text : Option (List ℕ)) (bytes : List ℕ) (is : IfSome text (λ xs. bytes ≡ xs)) where
  pub taken_of : (answer : Result T ShardFault) (P : List ℕ → Type 0) → OnOk answer (P bytes) → OnOk answer (IfSome text P)
  taken_of (Ok entries) P holds = of_known text bytes P is holds
  taken_of (Err fault) P holds = tt

  pub lines_of : (answer : Result T ShardFault) (P : List ℕ → T → Type 0) → IfOk answer (P bytes)
      → IfOk answer (λ entries. IfSome text (λ xs. P xs entries))
  lines_of (Ok entries) P holds = of_known text bytes (λ xs. P xs entries) is holds
  lines_of (Err fault) P holds = tt

  pub refused_of : (grid : Ladders) (taken : Taken) (answer : Result T ShardFault)
      → IfErr answer (λ f. IsOfJournal f → RefusesMore grid taken f bytes)
      → IfErr answer (λ f. IsOfJournal f → IfSome text (RefusesMore grid taken f))
  refused_of grid taken (Ok entries) refused = tt
  refused_of grid taken (Err fault) refused = λ of. of_known text bytes (RefusesMore grid taken fault) is (refused of)

pub never_failed : {T : Type 0} → (P : Type 0) (answer : Result T ShardFault) → IfErr answer (λ f. f ≢ Desk Device)
    → IfErr answer (λ f. f ≡ Desk Device → P)
never_failed P (Ok entries) not = tt
never_failed P (Err fault) not = λ device. absurd (not device)
