use Rattle.std.proofs.Common.{inl, inr, refl, sym, ◌∙◌}
use Rattle.hand_steps.proofs.Faults.{unfinished_not_back, unfinished_not_unsaid, unsaid_not_back, unsaid_not_unfinished, when_err, when_ok}
use Rattle.hand_steps.proofs.steps.end.Goals as goal

-- ---- the seal failed

pub returns-then-is_err-clause-failed : goal.returns-then-is_err-clause-failed
returns-then-is_err-clause-failed g c = λ _. when_err c.put.result _ (sym c.is_err.ensures.value ∙ c.if-is_err.true) c.put.ensures.failed

pub returns-then-is_err-clause-silent : goal.returns-then-is_err-clause-silent
returns-then-is_err-clause-silent g c = λ _. refl

pub returns-then-is_err-clause-put_unsaid : goal.returns-then-is_err-clause-put_unsaid
returns-then-is_err-clause-put_unsaid g c = λ e. absurd (unfinished_not_unsaid e)

pub returns-then-is_err-clause-unsaid : goal.returns-then-is_err-clause-unsaid
returns-then-is_err-clause-unsaid g c = λ e. absurd (unfinished_not_unsaid e)

pub returns-then-is_err-clause-begun : goal.returns-then-is_err-clause-begun
returns-then-is_err-clause-begun g c = λ e. absurd (unfinished_not_unsaid e)

pub returns-then-is_err-clause-kind : goal.returns-then-is_err-clause-kind
returns-then-is_err-clause-kind g c = λ e. unfinished_not_back e

pub returns-then-is_err-clause-crash : goal.returns-then-is_err-clause-crash
returns-then-is_err-clause-crash g c = c.put.ensures.crash

pub returns-then-is_err-clause-only : goal.returns-then-is_err-clause-only
returns-then-is_err-clause-only g c = c.put.ensures.only

pub returns-then-is_err-clause-unsynced : goal.returns-then-is_err-clause-unsynced
returns-then-is_err-clause-unsynced g c = c.put.ensures.ahead

pub returns-then-is_err-clause-told : goal.returns-then-is_err-clause-told
returns-then-is_err-clause-told g c = inl refl

-- ---- all is said

pub returns-in-Ok-clause-ok : goal.returns-in-Ok-clause-ok
returns-in-Ok-clause-ok g c = c.in-Ok.ensures.ok

pub returns-in-Ok-clause-put : goal.returns-in-Ok-clause-put
returns-in-Ok-clause-put g c = when_ok c.put.result _ (sym c.is_err.ensures.value ∙ c.if-is_err.false) c.put.ensures.ok

pub returns-in-Ok-clause-crash : goal.returns-in-Ok-clause-crash
returns-in-Ok-clause-crash g c = c.put.ensures.crash

pub returns-in-Ok-clause-only : goal.returns-in-Ok-clause-only
returns-in-Ok-clause-only g c = c.put.ensures.only

pub returns-in-Ok-clause-synced : goal.returns-in-Ok-clause-synced
returns-in-Ok-clause-synced g c = when_ok c.put.result _ (sym c.is_err.ensures.value ∙ c.if-is_err.false) c.put.ensures.synced

pub returns-in-Ok-clause-unsynced : goal.returns-in-Ok-clause-unsynced
returns-in-Ok-clause-unsynced g c = c.put.ensures.ahead

pub returns-in-Ok-clause-told : goal.returns-in-Ok-clause-told
returns-in-Ok-clause-told g c = inr (when_ok c.put.result _ (sym c.is_err.ensures.value ∙ c.if-is_err.false) c.put.ensures.synced)

-- ---- or not

pub returns-in-Err-clause-failed : goal.returns-in-Err-clause-failed
returns-in-Err-clause-failed g c = λ e. absurd (unsaid_not_unfinished e)

pub returns-in-Err-clause-silent : goal.returns-in-Err-clause-silent
returns-in-Err-clause-silent g c = λ other. absurd (other refl)

pub returns-in-Err-clause-put_unsaid : goal.returns-in-Err-clause-put_unsaid
returns-in-Err-clause-put_unsaid g c = λ _. when_ok c.put.result _ (sym c.is_err.ensures.value ∙ c.if-is_err.false) c.put.ensures.ok

pub returns-in-Err-clause-unsaid : goal.returns-in-Err-clause-unsaid
returns-in-Err-clause-unsaid g c = λ _. c.in-Err.ensures.device

pub returns-in-Err-clause-begun : goal.returns-in-Err-clause-begun
returns-in-Err-clause-begun g c = λ _. c.in-Err.ensures.front

pub returns-in-Err-clause-kind : goal.returns-in-Err-clause-kind
returns-in-Err-clause-kind g c = λ e. unsaid_not_back e

pub returns-in-Err-clause-crash : goal.returns-in-Err-clause-crash
returns-in-Err-clause-crash g c = c.put.ensures.crash

pub returns-in-Err-clause-only : goal.returns-in-Err-clause-only
returns-in-Err-clause-only g c = c.put.ensures.only

pub returns-in-Err-clause-unsynced : goal.returns-in-Err-clause-unsynced
returns-in-Err-clause-unsynced g c = c.put.ensures.ahead

pub returns-in-Err-clause-told : goal.returns-in-Err-clause-told
returns-in-Err-clause-told g c = inr (when_ok c.put.result _ (sym c.is_err.ensures.value ∙ c.if-is_err.false) c.put.ensures.synced)
