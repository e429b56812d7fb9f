-- The text of an older journal, and its first fault.
use Rattle.std.proofs.Common.{◌≡◌, ◌≢◌, ◌≤◌, ℕ, List, length, Option, Some, None, IfSome, subst}
use Rattle.seat_journal.specs.Reading.{IsFirstFault}
use Rattle.seat_journal.specs.Text.{IsJournalText}
use Rattle.seat_journal.specs.declared.entry.Entry.{Entry}
use Rattle.seat_journal.specs.declared.fault.JournalFault.{JournalFault}
use Rattle.seat_journal.specs.declared.fault.JournalKind.{JournalKind}
use Rattle.seat_journal.specs.declared.fault.JournalKind.TheVariants as kinds
use Rattle.seat_desk.specs.AuditDesk.{journal_fault, journal_fault_of, most_journal_bytes}
use Rattle.seat_desk.specs.Desk.{IsOfInput}
use Rattle.pickup_questions.specs.OlderText.{IsOlderText, IsRefusedOlder}

is_older : (bytes : List ℕ) (older : List Entry) → length bytes ≤ most_journal_bytes → IsJournalText bytes older → IsOlderText bytes older
is_older bytes older within is = record { within = within; is_text = is }

by_kind : (bytes : List ℕ) (kind : JournalKind) (fault : JournalFault) → length bytes ≤ most_journal_bytes
    → (kind ≢ kinds.Memory → IsFirstFault bytes fault.line fault.kind) → IsOfInput (journal_fault_of kind fault)
    → IsRefusedOlder bytes (journal_fault_of kind fault)
by_kind bytes kinds.Memory fault within first of = absurd of
by_kind bytes kinds.Head fault within first of = record { within = within; first = first (λ e. cc) }
by_kind bytes kinds.Line fault within first of = record { within = within; first = first (λ e. cc) }
by_kind bytes kinds.End fault within first of = record { within = within; first = first (λ e. cc) }

refused_bytes : (bytes : List ℕ) (fault : JournalFault) → length bytes ≤ most_journal_bytes
    → (fault.kind ≢ kinds.Memory → IsFirstFault bytes fault.line fault.kind) → IsOfInput (journal_fault fault)
    → IsRefusedOlder bytes (journal_fault fault)
refused_bytes bytes fault = by_kind bytes fault.kind fault

-- ---- of what an input has

of_input : (P : List ℕ → Type 0) (input : Option (List ℕ)) (bytes : List ℕ) → IfSome input (λ xs. bytes ≡ xs) → P bytes → IfSome input P
of_input P (Some xs) bytes whole p = subst P whole p
of_input P None bytes whole p = tt

pub older_read : (input : Option (List ℕ)) (bytes slice : List ℕ) (older : List Entry) → IfSome input (λ xs. bytes ≡ xs)
    → length bytes ≤ most_journal_bytes → slice ≡ bytes → IsJournalText slice older → IfSome input (λ xs. IsOlderText xs older)
older_read input bytes slice older whole within same is =
    of_input (λ xs. IsOlderText xs older) input bytes whole (is_older bytes older within (subst (λ (l : List ℕ). IsJournalText l older) same is))

pub older_refused : (input : Option (List ℕ)) (bytes slice : List ℕ) (fault : JournalFault) → IfSome input (λ xs. bytes ≡ xs)
    → length bytes ≤ most_journal_bytes → slice ≡ bytes → (fault.kind ≢ kinds.Memory → IsFirstFault slice fault.line fault.kind)
    → IsOfInput (journal_fault fault) → IfSome input (λ xs. IsRefusedOlder xs (journal_fault fault))
older_refused input bytes slice fault whole within same first of =
    of_input (λ xs. IsRefusedOlder xs (journal_fault fault)) input bytes whole
    (refused_bytes bytes fault within (subst (λ (l : List ℕ). fault.kind ≢ kinds.Memory → IsFirstFault l fault.line fault.kind) same first) of)
