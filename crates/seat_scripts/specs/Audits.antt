-- What `run` writes, `audit` accepts.
use Rattle.std.specs.Prelude.{◌≡◌, ℕ, List, length, map, Option, Some}
use Rattle.seat_journal.specs.Text.{IsJournalText}
use Rattle.seat_journal.specs.declared.entry.Entry.{Entry}
use Rattle.seat_rules.specs.Totals.{totals_of}
use Rattle.seat_rules.specs.declared.totals.Totals.{Totals}
use Rattle.seat_rules.specs.Agreement.{totals_in}
use Rattle.seat_rules.specs.Histories.{by_session}
use Rattle.seat_desk.specs.AuditDesk.{IsAudit, IsRefusedAudit, IsTooLarge, audit_line}
use Rattle.seat_desk.specs.declared.fault.DeskFault.{DeskFault}
use Rattle.seat_scripts.specs.Against.{IsAuditAgainst, IsRefusedAgainst, IsTooLargeAgainst}
use Rattle.seat_replies.specs.Going.{lists_over}
use Rattle.seat_replies.specs.Requests.{commands_of}
use Rattle.seat_replies.specs.RunDesk.{IsRun}

-- the journal is audited with these totals and no others, has no fault, and is not too large
pub record IsAccepted (set limits : List ℕ) (first days : ℕ) (journal : List ℕ) (totals : Totals) : Type 0 where
  pub line : IsAudit set limits first days journal (audit_line totals)
  pub only : (text : List ℕ) → IsAudit set limits first days journal text → text ≡ audit_line totals
  pub faultless : (fault : DeskFault) → IsRefusedAudit set limits first days journal fault → ⊥
  pub small : IsTooLarge set limits journal → ⊥

-- the journal is the text of a history, and is accepted with what the history and its sessions' receipts both come to
pub record IsAccountedFor (set limits : List ℕ) (first days sessions : ℕ) (journal : List ℕ) : Type 0 where
  pub history : List Entry
  pub receipts : List (List Entry)
  pub totals : Totals
  pub is_text : IsJournalText journal history
  pub own : receipts ≡ by_session sessions history
  pub totals_are : totals ≡ totals_of history
  pub sums : totals ≡ totals_in receipts
  pub is_accepted : IsAccepted set limits first days journal totals

-- so it is with every journal that a run of these scripts and changes behind an older journal writes, with as many sessions as
-- scripts, or more where the older journal has more
abbrev pub RunsAreAudited : Type 0
RunsAreAudited =
    (set limits : List ℕ) (first days today : ℕ) (after : List ℕ) (texts : List (Option (List ℕ)))
    (changing : Option (List ℕ)) (journal replies : List ℕ) →
    (run : IsRun set limits first days today after texts changing journal replies) →
    IsAccountedFor set limits first days (length (lists_over run.past (map (commands_of run.flights) run.scripts)))
    journal

-- audit with scripts finds just these totals in the journal behind the older one, no fault, and no input too large
pub record IsAcceptedAgainst (set limits : List ℕ) (first days : ℕ) (after journal : List ℕ) (today : ℕ)
    (texts : List (Option (List ℕ))) (totals : Totals) : Type 0 where
  pub line : IsAuditAgainst set limits first days after 0 journal today texts (audit_line totals)
  pub only : (text : List ℕ) → IsAuditAgainst set limits first days after 0 journal today texts text
      → text ≡ audit_line totals
  pub faultless : (fault : DeskFault) → IsRefusedAgainst set limits first days after 0 journal today texts fault → ⊥
  pub small : IsTooLargeAgainst set limits first days after journal today texts → ⊥

-- so it is with the journal of every run, with its scripts and behind the journal that it went on from
abbrev pub RunsAreAuditedAgainst : Type 0
RunsAreAuditedAgainst =
    (set limits : List ℕ) (first days today : ℕ) (after : List ℕ) (texts : List (List ℕ)) (changing : Option (List ℕ))
    (journal replies : List ℕ) →
    (run : IsRun set limits first days today after (map Some texts) changing journal replies) →
    IsAcceptedAgainst set limits first days after journal today (map Some texts) (totals_of run.history)
