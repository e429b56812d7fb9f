-- What answers an audit is one.
use Rattle.std.proofs.Common.{ℕ, List, ⊎_elim, inl, inr, subst}
use Rattle.seat_limits.specs.Authorised.{authorised_grid}
use Rattle.seat_nesting.specs.Nesting.{Ladders}
use Rattle.seat_desk.specs.Answering.{IsAnswer, IsRefusedJournalOver}
use Rattle.seat_desk.specs.Sealing.{Agrees}
use Rattle.seat_seal.specs.declared.beside.Beside.{Beside}
use Rattle.seat_desk.specs.AuditDesk.{IsAudit, IsAudited, IsRefusedAudit, IsUnlawful}
use Rattle.seat_desk.specs.Loading.{IsRefusedLoad}
use Rattle.seat_desk.specs.declared.fault.DeskFault.{DeskFault}
use Rattle.seat_desk.specs.declared.fault.DeskFault.TheVariants.{Journal, Replay}
use Rattle.seat_desk.proofs.Grounds.{ground_of_loaded, loaded_of_ground}
use Rattle.seat_reports.specs.Laws.{AuditsAreAnswered, RefusalsAreAudits, TooLargeIsAudits}

audit_of : (beside : Beside) (set limits : List ℕ) (first days : ℕ) (journal line : List ℕ)
    → IsAnswer (λ flights rows. IsAudited) beside set limits first days journal line
    → IsAudit set limits first days journal line
audit_of beside set limits first days journal line is = record {
  flights = is.flights;
  grid = authorised_grid is.rows is.flights;
  is_loaded = loaded_of_ground set limits first days is.flights is.rows is.is_ground;
  within = is.within;
  is_audited = is.is_answer;
}

answer_of : (beside : Beside) (set limits : List ℕ) (first days : ℕ) (journal line : List ℕ)
    → IsAudit set limits first days journal line → Agrees beside set limits first days journal
    → IsAnswer (λ flights rows. IsAudited) beside set limits first days journal line
answer_of beside set limits first days journal line is agrees = record {
  flights = is.flights;
  rows = is.is_loaded.loaded.rows;
  is_ground = ground_of_loaded set limits first days is.flights is.grid is.is_loaded;
  within = is.within;
  sealed = agrees;
  is_answer = subst (λ (g : Ladders). IsAudited g journal line) is.is_loaded.loaded.grid_is is.is_audited;
}

pub audits_are_answered : AuditsAreAnswered
audits_are_answered beside set limits first days journal line = record {
  is_audit = audit_of beside set limits first days journal line;
  agrees = λ is. is.sealed;
  is_answer = answer_of beside set limits first days journal line;
}

-- a refusal of the inputs ahead of the journal
ahead : (set limits : List ℕ) (first days : ℕ) (journal : List ℕ) (fault : DeskFault)
    → IsRefusedLoad set limits first days fault → IsRefusedAudit set limits first days journal fault
ahead set limits first days journal (Journal f) r = absurd r.refusal
ahead set limits first days journal (Replay f) r = absurd r.refusal
ahead set limits first days journal _ r = record { refusal = r }

-- and of the journal
behind : (beside : Beside) (set limits : List ℕ) (first days : ℕ) (journal : List ℕ) (fault : DeskFault)
    → IsRefusedJournalOver IsUnlawful beside set limits first days journal fault
    → IsRefusedAudit set limits first days journal fault
behind beside set limits first days journal (Journal f) r = record {
  refusal = record { flights = r.flights; grid = authorised_grid r.rows r.flights; is_loaded = loaded_of_ground set limits first days r.flights r.rows r.is_ground; is_unlawful = r.refused };
}
behind beside set limits first days journal (Replay f) r = record {
  refusal = record { flights = r.flights; grid = authorised_grid r.rows r.flights; is_loaded = loaded_of_ground set limits first days r.flights r.rows r.is_ground; is_unlawful = r.refused };
}
behind beside set limits first days journal _ r = absurd r.refused.refused

pub refusals_are_audits : RefusalsAreAudits
refusals_are_audits beside set limits first days journal fault refused =
    ⊎_elim (λ load. inl (ahead set limits first days journal fault load))
    (λ later. ⊎_elim (λ seal. inr seal) (λ journal_refused. inl (behind beside set limits first days journal fault journal_refused)) later) refused

pub too_large_is_audits : TooLargeIsAudits
too_large_is_audits set limits first days journal large =
    ⊎_elim (λ load. ⊎_elim (λ set_large. inl (inl set_large)) (λ limits_large. inl (inr limits_large.here)) load) (λ journal_large. inr journal_large.here) large
