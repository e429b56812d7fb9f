use Rattle.std.proofs.Common.{◌≡◌, [], inl, refl, sym, ◌∙◌}
use Rattle.seat_disk.proofs.Keeping.{no_more}
use Rattle.hand_steps.specs.declared.putting.NotPut.TheVariants.{Ahead, Behind}
use Rattle.hand_steps.proofs.Faults.{when_err, when_ok}
use Rattle.hand_steps.proofs.Ordered.{both_failed, mark_failed, name_failed, text_failed}
use Rattle.hand_steps.proofs.steps.begin.Goals as goal

ahead_not_behind : Ahead ≡ Behind → ⊥
ahead_not_behind is = absurd (cc is)

behind_not_ahead : Behind ≡ Ahead → ⊥
behind_not_ahead is = absurd (cc is)

-- ---- the mark failed

pub returns-then-is_err-clause-ahead : goal.returns-then-is_err-clause-ahead
returns-then-is_err-clause-ahead g c = λ _.
    mark_failed _ _ _ _ _ _ _ _ _ _ _ [] [] _ _ _ _ (when_err c.put.result _ (sym c.is_err.ensures.value ∙ c.if-is_err.true) c.put.ensures.failed)

pub returns-then-is_err-clause-behind : goal.returns-then-is_err-clause-behind
returns-then-is_err-clause-behind g c = λ e. absurd (ahead_not_behind e)

pub returns-then-is_err-clause-marks : goal.returns-then-is_err-clause-marks
returns-then-is_err-clause-marks g c = c.put.ensures.crash

pub returns-then-is_err-clause-seals : goal.returns-then-is_err-clause-seals
returns-then-is_err-clause-seals g c = λ _ stands. inl stands

pub returns-then-is_err-clause-journals : goal.returns-then-is_err-clause-journals
returns-then-is_err-clause-journals g c = λ _ stands. inl stands

pub returns-then-is_err-clause-only : goal.returns-then-is_err-clause-only
returns-then-is_err-clause-only g c = c.put.ensures.only

pub returns-then-is_err-clause-only_journal : goal.returns-then-is_err-clause-only_journal
returns-then-is_err-clause-only_journal g c = no_more _

pub returns-then-is_err-clause-only_seal : goal.returns-then-is_err-clause-only_seal
returns-then-is_err-clause-only_seal g c = no_more _

pub returns-then-is_err-clause-synced_mark : goal.returns-then-is_err-clause-synced_mark
returns-then-is_err-clause-synced_mark g c = λ e. absurd (ahead_not_behind e)

pub returns-then-is_err-clause-same : goal.returns-then-is_err-clause-same
returns-then-is_err-clause-same g c = λ _. record { file = refl; name = refl }

pub returns-then-is_err-clause-unsynced : goal.returns-then-is_err-clause-unsynced
returns-then-is_err-clause-unsynced g c = c.put.ensures.ahead

pub returns-then-is_err-clause-unsynced_both : goal.returns-then-is_err-clause-unsynced_both
returns-then-is_err-clause-unsynced_both g c = (inl refl, inl refl)

-- ---- the seal that names both failed

pub returns-then-is_err-2-clause-ahead : goal.returns-then-is_err-2-clause-ahead
returns-then-is_err-2-clause-ahead g c = λ _.
    both_failed _ _ _ _ _ _ _ _ _ _ _ [] [] _ _ _ _ _ (when_ok c.put.result _ (sym c.is_err.ensures.value ∙ c.if-is_err.false) c.put.ensures.ok)
    (when_err c.put-2.result _ (sym c.is_err-2.ensures.value ∙ c.if-is_err-2.true) c.put-2.ensures.failed)

pub returns-then-is_err-2-clause-behind : goal.returns-then-is_err-2-clause-behind
returns-then-is_err-2-clause-behind g c = λ e. absurd (ahead_not_behind e)

pub returns-then-is_err-2-clause-marks : goal.returns-then-is_err-2-clause-marks
returns-then-is_err-2-clause-marks g c = c.put.ensures.crash

pub returns-then-is_err-2-clause-seals : goal.returns-then-is_err-2-clause-seals
returns-then-is_err-2-clause-seals g c = c.put-2.ensures.crash

pub returns-then-is_err-2-clause-journals : goal.returns-then-is_err-2-clause-journals
returns-then-is_err-2-clause-journals g c = λ _ stands. inl stands

pub returns-then-is_err-2-clause-only : goal.returns-then-is_err-2-clause-only
returns-then-is_err-2-clause-only g c = c.put.ensures.only

pub returns-then-is_err-2-clause-only_journal : goal.returns-then-is_err-2-clause-only_journal
returns-then-is_err-2-clause-only_journal g c = no_more _

pub returns-then-is_err-2-clause-only_seal : goal.returns-then-is_err-2-clause-only_seal
returns-then-is_err-2-clause-only_seal g c = c.put-2.ensures.only

pub returns-then-is_err-2-clause-synced_mark : goal.returns-then-is_err-2-clause-synced_mark
returns-then-is_err-2-clause-synced_mark g c = λ e. absurd (ahead_not_behind e)

pub returns-then-is_err-2-clause-same : goal.returns-then-is_err-2-clause-same
returns-then-is_err-2-clause-same g c = λ _. record { file = refl; name = refl }

pub returns-then-is_err-2-clause-unsynced : goal.returns-then-is_err-2-clause-unsynced
returns-then-is_err-2-clause-unsynced g c = c.put.ensures.ahead

pub returns-then-is_err-2-clause-unsynced_both : goal.returns-then-is_err-2-clause-unsynced_both
returns-then-is_err-2-clause-unsynced_both g c = (inl refl, c.put-2.ensures.ahead)

-- ---- all three are put

pub returns-in-Ok-clause-ok : goal.returns-in-Ok-clause-ok
returns-in-Ok-clause-ok g c = when_ok c.put.result _ (sym c.is_err.ensures.value ∙ c.if-is_err.false) c.put.ensures.ok

pub returns-in-Ok-clause-put : goal.returns-in-Ok-clause-put
returns-in-Ok-clause-put g c = c.in-Ok.ensures.ok

pub returns-in-Ok-clause-sealed : goal.returns-in-Ok-clause-sealed
returns-in-Ok-clause-sealed g c = when_ok c.put-2.result _ (sym c.is_err-2.ensures.value ∙ c.if-is_err-2.false) c.put-2.ensures.ok

pub returns-in-Ok-clause-marks : goal.returns-in-Ok-clause-marks
returns-in-Ok-clause-marks g c = c.put.ensures.crash

pub returns-in-Ok-clause-seals : goal.returns-in-Ok-clause-seals
returns-in-Ok-clause-seals g c = c.put-2.ensures.crash

pub returns-in-Ok-clause-journals : goal.returns-in-Ok-clause-journals
returns-in-Ok-clause-journals g c = c.in-Ok.ensures.crash

pub returns-in-Ok-clause-only : goal.returns-in-Ok-clause-only
returns-in-Ok-clause-only g c = c.put.ensures.only

pub returns-in-Ok-clause-only_journal : goal.returns-in-Ok-clause-only_journal
returns-in-Ok-clause-only_journal g c = c.in-Ok.ensures.only

pub returns-in-Ok-clause-only_seal : goal.returns-in-Ok-clause-only_seal
returns-in-Ok-clause-only_seal g c = c.put-2.ensures.only

pub returns-in-Ok-clause-synced : goal.returns-in-Ok-clause-synced
returns-in-Ok-clause-synced g c = when_ok c.put.result _ (sym c.is_err.ensures.value ∙ c.if-is_err.false) c.put.ensures.synced

pub returns-in-Ok-clause-synced_both : goal.returns-in-Ok-clause-synced_both
returns-in-Ok-clause-synced_both g c =
    (c.in-Ok.ensures.synced, when_ok c.put-2.result _ (sym c.is_err-2.ensures.value ∙ c.if-is_err-2.false) c.put-2.ensures.synced)

pub returns-in-Ok-clause-unsynced : goal.returns-in-Ok-clause-unsynced
returns-in-Ok-clause-unsynced g c = c.put.ensures.ahead

pub returns-in-Ok-clause-unsynced_both : goal.returns-in-Ok-clause-unsynced_both
returns-in-Ok-clause-unsynced_both g c = (c.in-Ok.ensures.unsynced, c.put-2.ensures.ahead)

-- ---- the newer journal failed ahead of its name

pub returns-in-Ahead-clause-ahead : goal.returns-in-Ahead-clause-ahead
returns-in-Ahead-clause-ahead g c = λ _.
    text_failed _ _ _ _ _ _ _ _ _ _ _ [] [] _ _ _ _ _ _ (when_ok c.put.result _ (sym c.is_err.ensures.value ∙ c.if-is_err.false) c.put.ensures.ok)
    (when_ok c.put-2.result _ (sym c.is_err-2.ensures.value ∙ c.if-is_err-2.false) c.put-2.ensures.ok) (c.in-Err.ensures.ahead c.in-Ahead.is)

pub returns-in-Ahead-clause-behind : goal.returns-in-Ahead-clause-behind
returns-in-Ahead-clause-behind g c = λ e. absurd (ahead_not_behind e)

pub returns-in-Ahead-clause-marks : goal.returns-in-Ahead-clause-marks
returns-in-Ahead-clause-marks g c = c.put.ensures.crash

pub returns-in-Ahead-clause-seals : goal.returns-in-Ahead-clause-seals
returns-in-Ahead-clause-seals g c = c.put-2.ensures.crash

pub returns-in-Ahead-clause-journals : goal.returns-in-Ahead-clause-journals
returns-in-Ahead-clause-journals g c = c.in-Err.ensures.crash

pub returns-in-Ahead-clause-only : goal.returns-in-Ahead-clause-only
returns-in-Ahead-clause-only g c = c.put.ensures.only

pub returns-in-Ahead-clause-only_journal : goal.returns-in-Ahead-clause-only_journal
returns-in-Ahead-clause-only_journal g c = c.in-Err.ensures.only

pub returns-in-Ahead-clause-only_seal : goal.returns-in-Ahead-clause-only_seal
returns-in-Ahead-clause-only_seal g c = c.put-2.ensures.only

pub returns-in-Ahead-clause-synced_mark : goal.returns-in-Ahead-clause-synced_mark
returns-in-Ahead-clause-synced_mark g c = λ e. absurd (ahead_not_behind e)

pub returns-in-Ahead-clause-same : goal.returns-in-Ahead-clause-same
returns-in-Ahead-clause-same g c = λ _. c.in-Err.ensures.same c.in-Ahead.is

pub returns-in-Ahead-clause-unsynced : goal.returns-in-Ahead-clause-unsynced
returns-in-Ahead-clause-unsynced g c = c.put.ensures.ahead

pub returns-in-Ahead-clause-unsynced_both : goal.returns-in-Ahead-clause-unsynced_both
returns-in-Ahead-clause-unsynced_both g c = (c.in-Err.ensures.unsynced, c.put-2.ensures.ahead)

-- ---- or as it was about to take it

pub returns-in-Behind-clause-ahead : goal.returns-in-Behind-clause-ahead
returns-in-Behind-clause-ahead g c = λ e. absurd (behind_not_ahead e)

pub returns-in-Behind-clause-behind : goal.returns-in-Behind-clause-behind
returns-in-Behind-clause-behind g c = λ _.
    name_failed _ _ _ _ _ g.J.Replaced.may_leave _ _ _ _ _ _ [] _ _ _ _ _ _
    (when_ok c.put.result _ (sym c.is_err.ensures.value ∙ c.if-is_err.false) c.put.ensures.ok)
    (when_ok c.put-2.result _ (sym c.is_err-2.ensures.value ∙ c.if-is_err-2.false) c.put-2.ensures.ok) (c.in-Err.ensures.behind c.in-Behind.is)

pub returns-in-Behind-clause-marks : goal.returns-in-Behind-clause-marks
returns-in-Behind-clause-marks g c = c.put.ensures.crash

pub returns-in-Behind-clause-seals : goal.returns-in-Behind-clause-seals
returns-in-Behind-clause-seals g c = c.put-2.ensures.crash

pub returns-in-Behind-clause-journals : goal.returns-in-Behind-clause-journals
returns-in-Behind-clause-journals g c = c.in-Err.ensures.crash

pub returns-in-Behind-clause-only : goal.returns-in-Behind-clause-only
returns-in-Behind-clause-only g c = c.put.ensures.only

pub returns-in-Behind-clause-only_journal : goal.returns-in-Behind-clause-only_journal
returns-in-Behind-clause-only_journal g c = c.in-Err.ensures.only

pub returns-in-Behind-clause-only_seal : goal.returns-in-Behind-clause-only_seal
returns-in-Behind-clause-only_seal g c = c.put-2.ensures.only

pub returns-in-Behind-clause-synced_mark : goal.returns-in-Behind-clause-synced_mark
returns-in-Behind-clause-synced_mark g c = λ _. when_ok c.put.result _ (sym c.is_err.ensures.value ∙ c.if-is_err.false) c.put.ensures.synced

pub returns-in-Behind-clause-same : goal.returns-in-Behind-clause-same
returns-in-Behind-clause-same g c = λ e. absurd (behind_not_ahead e)

pub returns-in-Behind-clause-unsynced : goal.returns-in-Behind-clause-unsynced
returns-in-Behind-clause-unsynced g c = c.put.ensures.ahead

pub returns-in-Behind-clause-unsynced_both : goal.returns-in-Behind-clause-unsynced_both
returns-in-Behind-clause-unsynced_both g c = (c.in-Err.ensures.unsynced, c.put-2.ensures.ahead)
