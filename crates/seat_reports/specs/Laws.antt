-- What an answer to an audit comes to.
use Rattle.std.specs.Prelude.{◌⊎◌, ℕ, List}
use Rattle.seat_desk.specs.Answering.{IsAnswer, IsFirstTooLarge, IsRefusedAnswer, IsRefusedSeal}
use Rattle.seat_desk.specs.AuditDesk.{IsAudit, IsAudited, IsRefusedAudit, IsTooLarge, IsUnlawful}
use Rattle.seat_desk.specs.Sealing.{Agrees}
use Rattle.seat_seal.specs.declared.beside.Beside.{Beside}
use Rattle.seat_desk.specs.declared.fault.DeskFault.{DeskFault}

-- it is an audit of these inputs, whose journal agrees with what stands beside it, and each such audit is one
pub record IsAuditAnswer (beside : Beside) (set limits : List ℕ) (first days : ℕ) (journal line : List ℕ) : Type 0 where
  pub is_audit : IsAnswer (λ flights rows. IsAudited) beside set limits first days journal line
      → IsAudit set limits first days journal line
  pub agrees : IsAnswer (λ flights rows. IsAudited) beside set limits first days journal line
      → Agrees beside set limits first days journal
  pub is_answer : IsAudit set limits first days journal line → Agrees beside set limits first days journal
      → IsAnswer (λ flights rows. IsAudited) beside set limits first days journal line

abbrev pub AuditsAreAnswered : Type 0
AuditsAreAnswered = (beside : Beside) (set limits : List ℕ) (first days : ℕ) (journal line : List ℕ)
    → IsAuditAnswer beside set limits first days journal line

-- a refusal is one of an audit of these inputs, or of what stands beside the journal
abbrev pub RefusalsAreAudits : Type 0
RefusalsAreAudits =
    (beside : Beside) (set limits : List ℕ) (first days : ℕ) (journal : List ℕ) (fault : DeskFault) →
    IsRefusedAnswer IsUnlawful beside set limits first days journal fault
    → IsRefusedAudit set limits first days journal fault ⊎ IsRefusedSeal beside set limits first days journal fault

-- the first input that is not right is too large, so one of them is
abbrev pub TooLargeIsAudits : Type 0
TooLargeIsAudits = (set limits : List ℕ) (first days : ℕ) (journal : List ℕ) →
    IsFirstTooLarge set limits first days journal → IsTooLarge set limits journal
