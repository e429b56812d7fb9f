use Rattle.std.proofs.Common.{◌⊎◌, inl, inr, refl}
use Rattle.seat_disk.proofs.Keeping.{no_more_on}
use Rattle.seat_disk.proofs.Syncs.{none_between}
use Rattle.hand_steps.proofs.Faults.{unfinished_not_back, unfinished_not_unsaid}
use Rattle.hand_steps.proofs.Ordered.{handed, handed_over, order_ahead, order_behind, order_closing, taken_back, unfinished_ahead, unfinished_alone, unfinished_name, unsaid}
use Rattle.hand_steps.proofs.steps.hand_in_order.Goals as goal

-- what holds of the last step is told with what holds of those ahead of it
with_both : {A B P Q : Type 0} → P → Q → A ⊎ B → A ⊎ (P × (Q × B))
with_both p q (inl a) = inl a
with_both p q (inr b) = inr (p, (q, b))

-- ---- a step ahead of the newer journal's name failed

pub returns-in-Ahead-clause-order : goal.returns-in-Ahead-clause-order
returns-in-Ahead-clause-order g c =
    order_ahead _ _ g.S.Replaced.may_leave _ _ g.J.Replaced.may_leave _ _ g.K.Replaced.may_leave _ _ _ _ _ _ _ _ _ _ _ _
    (c.in-Err.ensures.ahead c.in-Ahead.is) c.in-Err.ensures.marks c.in-Err.ensures.seals c.take_back.ensures.crash

pub returns-in-Ahead-clause-taken : goal.returns-in-Ahead-clause-taken
returns-in-Ahead-clause-taken g c = λ e.
    taken_back _ _ g.S.Replaced.may_leave _ _ g.J.Replaced.may_leave _ _ g.K.Replaced.may_leave _ _ c.args.text.now c.args.alone.now _ _ _ _ _ _ _ _
    (c.in-Err.ensures.ahead c.in-Ahead.is) (c.take_back.ensures.taken e)

pub returns-in-Ahead-clause-unfinished : goal.returns-in-Ahead-clause-unfinished
returns-in-Ahead-clause-unfinished g c = λ e.
    unfinished_ahead _ _ g.S.Replaced.may_leave _ _ g.J.Replaced.may_leave _ _ g.K.Replaced.may_leave _ _ _ _ _ _ _ _ _ _ _ _
    (c.in-Err.ensures.ahead c.in-Ahead.is) (c.take_back.ensures.left e)

pub returns-in-Ahead-clause-unsaid : goal.returns-in-Ahead-clause-unsaid
returns-in-Ahead-clause-unsaid g c = λ e. absurd (c.take_back.ensures.kind e)

pub returns-in-Ahead-clause-silent : goal.returns-in-Ahead-clause-silent
returns-in-Ahead-clause-silent g c = λ _. refl

pub returns-in-Ahead-clause-only : goal.returns-in-Ahead-clause-only
returns-in-Ahead-clause-only g c = no_more_on _ _ _ c.in-Err.ensures.only c.take_back.ensures.only

pub returns-in-Ahead-clause-only_journal : goal.returns-in-Ahead-clause-only_journal
returns-in-Ahead-clause-only_journal g c = c.in-Err.ensures.only_journal

pub returns-in-Ahead-clause-only_seal : goal.returns-in-Ahead-clause-only_seal
returns-in-Ahead-clause-only_seal g c = c.in-Err.ensures.only_seal

pub returns-in-Ahead-clause-unsynced : goal.returns-in-Ahead-clause-unsynced
returns-in-Ahead-clause-unsynced g c =
    none_between (g.S.Replaced.synced c.args.seal.now) (g.S.Replaced.synced c.begin.new.seal) (g.S.Replaced.synced c.take_back.new.seal)
    c.in-Err.ensures.unsynced c.take_back.ensures.unsynced

pub returns-in-Ahead-clause-unsynced_both : goal.returns-in-Ahead-clause-unsynced_both
returns-in-Ahead-clause-unsynced_both g c = c.in-Err.ensures.unsynced_both

pub returns-in-Ahead-clause-first : goal.returns-in-Ahead-clause-first
returns-in-Ahead-clause-first g c = inl (c.in-Err.ensures.same c.in-Ahead.is)

pub returns-in-Ahead-clause-same : goal.returns-in-Ahead-clause-same
returns-in-Ahead-clause-same g c = λ _. c.in-Err.ensures.same c.in-Ahead.is

pub returns-in-Ahead-clause-told : goal.returns-in-Ahead-clause-told
returns-in-Ahead-clause-told g c = inl refl

-- ---- that name failed

pub returns-in-Behind-clause-order : goal.returns-in-Behind-clause-order
returns-in-Behind-clause-order g c =
    order_behind _ _ g.S.Replaced.may_leave _ _ g.J.Replaced.may_leave _ _ g.K.Replaced.may_leave _ _ _ _ _ _ _ _ _ _ _
    (c.in-Err.ensures.behind c.in-Behind.is) c.in-Err.ensures.journals

pub returns-in-Behind-clause-taken : goal.returns-in-Behind-clause-taken
returns-in-Behind-clause-taken g c = λ e. absurd (unfinished_not_back e)

pub returns-in-Behind-clause-unfinished : goal.returns-in-Behind-clause-unfinished
returns-in-Behind-clause-unfinished g c = λ _.
    unfinished_name _ _ g.S.Replaced.may_leave _ _ g.J.Replaced.may_leave _ _ g.K.Replaced.may_leave _ _ _ _ _ _ _ _ _ _ _
    (c.in-Err.ensures.behind c.in-Behind.is)

pub returns-in-Behind-clause-unsaid : goal.returns-in-Behind-clause-unsaid
returns-in-Behind-clause-unsaid g c = λ e. absurd (unfinished_not_unsaid e)

pub returns-in-Behind-clause-silent : goal.returns-in-Behind-clause-silent
returns-in-Behind-clause-silent g c = λ _. refl

pub returns-in-Behind-clause-only : goal.returns-in-Behind-clause-only
returns-in-Behind-clause-only g c = c.in-Err.ensures.only

pub returns-in-Behind-clause-only_journal : goal.returns-in-Behind-clause-only_journal
returns-in-Behind-clause-only_journal g c = c.in-Err.ensures.only_journal

pub returns-in-Behind-clause-only_seal : goal.returns-in-Behind-clause-only_seal
returns-in-Behind-clause-only_seal g c = c.in-Err.ensures.only_seal

pub returns-in-Behind-clause-unsynced : goal.returns-in-Behind-clause-unsynced
returns-in-Behind-clause-unsynced g c = c.in-Err.ensures.unsynced

pub returns-in-Behind-clause-unsynced_both : goal.returns-in-Behind-clause-unsynced_both
returns-in-Behind-clause-unsynced_both g c = c.in-Err.ensures.unsynced_both

pub returns-in-Behind-clause-first : goal.returns-in-Behind-clause-first
returns-in-Behind-clause-first g c = inr (c.in-Err.ensures.synced_mark c.in-Behind.is)

pub returns-in-Behind-clause-same : goal.returns-in-Behind-clause-same
returns-in-Behind-clause-same g c = λ e. absurd (unfinished_not_back e)

pub returns-in-Behind-clause-told : goal.returns-in-Behind-clause-told
returns-in-Behind-clause-told g c = inl refl

-- ---- all went well

pub returns-in-Ok-end-clause-ok : goal.returns-in-Ok-end-clause-ok
returns-in-Ok-end-clause-ok g c =
    handed_over _ _ _ _
    (handed _ g.S.Replaced.named g.S.Replaced.may_leave _ g.J.Replaced.named g.J.Replaced.may_leave _ g.K.Replaced.named g.K.Replaced.may_leave _ _ _ _ _ _ _
    _ _ _ _ c.in-Ok.ensures.ok c.in-Ok.ensures.put c.in-Ok.ensures.sealed c.in-Ok-end.ensures.put)
    c.in-Ok-end.ensures.ok

pub returns-in-Ok-end-clause-order : goal.returns-in-Ok-end-clause-order
returns-in-Ok-end-clause-order g c =
    order_closing _ _ g.S.Replaced.may_leave _ _ g.J.Replaced.may_leave _ _ g.K.Replaced.may_leave _ _ _ _ _ _ _ _ _ _ _ _ c.in-Ok.ensures.ok
    c.in-Ok.ensures.put c.in-Ok.ensures.sealed c.in-Ok-end.ensures.crash

pub returns-in-Ok-end-clause-only : goal.returns-in-Ok-end-clause-only
returns-in-Ok-end-clause-only g c = c.in-Ok.ensures.only

pub returns-in-Ok-end-clause-only_journal : goal.returns-in-Ok-end-clause-only_journal
returns-in-Ok-end-clause-only_journal g c = c.in-Ok.ensures.only_journal

pub returns-in-Ok-end-clause-only_seal : goal.returns-in-Ok-end-clause-only_seal
returns-in-Ok-end-clause-only_seal g c = no_more_on _ _ _ c.in-Ok.ensures.only_seal c.in-Ok-end.ensures.only

pub returns-in-Ok-end-clause-synced : goal.returns-in-Ok-end-clause-synced
returns-in-Ok-end-clause-synced g c = c.in-Ok.ensures.synced

pub returns-in-Ok-end-clause-synced_both : goal.returns-in-Ok-end-clause-synced_both
returns-in-Ok-end-clause-synced_both g c = (c.in-Ok.ensures.synced_both.0, c.in-Ok-end.ensures.synced)

pub returns-in-Ok-end-clause-unsynced : goal.returns-in-Ok-end-clause-unsynced
returns-in-Ok-end-clause-unsynced g c = c.in-Ok.ensures.unsynced

pub returns-in-Ok-end-clause-unsynced_both : goal.returns-in-Ok-end-clause-unsynced_both
returns-in-Ok-end-clause-unsynced_both g c = (
  c.in-Ok.ensures.unsynced_both.0,
  none_between (g.K.Replaced.synced c.args.new_seal.now) (g.K.Replaced.synced c.begin.new.new_seal) (g.K.Replaced.synced c.end.new.new_seal)
      c.in-Ok.ensures.unsynced_both.1 c.in-Ok-end.ensures.unsynced,
)

pub returns-in-Ok-end-clause-first : goal.returns-in-Ok-end-clause-first
returns-in-Ok-end-clause-first g c = inr c.in-Ok.ensures.synced

pub returns-in-Ok-end-clause-told : goal.returns-in-Ok-end-clause-told
returns-in-Ok-end-clause-told g c = inr (c.in-Ok.ensures.synced, (c.in-Ok.ensures.synced_both.0, c.in-Ok-end.ensures.synced))

-- ---- the newer journal's seal alone failed, or what is said

pub returns-in-Err-end-clause-order : goal.returns-in-Err-end-clause-order
returns-in-Err-end-clause-order g c =
    order_closing _ _ g.S.Replaced.may_leave _ _ g.J.Replaced.may_leave _ _ g.K.Replaced.may_leave _ _ _ _ _ _ _ _ _ _ _ _ c.in-Ok.ensures.ok
    c.in-Ok.ensures.put c.in-Ok.ensures.sealed c.in-Err-end.ensures.crash

pub returns-in-Err-end-clause-taken : goal.returns-in-Err-end-clause-taken
returns-in-Err-end-clause-taken g c = λ e. absurd (c.in-Err-end.ensures.kind e)

pub returns-in-Err-end-clause-unfinished : goal.returns-in-Err-end-clause-unfinished
returns-in-Err-end-clause-unfinished g c = λ e.
    unfinished_alone _ _ g.S.Replaced.may_leave _ _ g.J.Replaced.may_leave _ _ g.K.Replaced.may_leave _ _ _ _ _ _ _ _ _ _ _ _ c.in-Ok.ensures.ok
    c.in-Ok.ensures.put c.in-Ok.ensures.sealed (c.in-Err-end.ensures.failed e)

pub returns-in-Err-end-clause-unsaid : goal.returns-in-Err-end-clause-unsaid
returns-in-Err-end-clause-unsaid g c = λ e.
    unsaid _ _ _ _ _ _
    (handed _ g.S.Replaced.named g.S.Replaced.may_leave _ g.J.Replaced.named g.J.Replaced.may_leave _ g.K.Replaced.named g.K.Replaced.may_leave _ _ _ _ _ _ _
    _ _ _ _ c.in-Ok.ensures.ok c.in-Ok.ensures.put c.in-Ok.ensures.sealed (c.in-Err-end.ensures.put_unsaid e))
    (c.in-Err-end.ensures.unsaid e) (c.in-Err-end.ensures.begun e)

pub returns-in-Err-end-clause-silent : goal.returns-in-Err-end-clause-silent
returns-in-Err-end-clause-silent g c = c.in-Err-end.ensures.silent

pub returns-in-Err-end-clause-only : goal.returns-in-Err-end-clause-only
returns-in-Err-end-clause-only g c = c.in-Ok.ensures.only

pub returns-in-Err-end-clause-only_journal : goal.returns-in-Err-end-clause-only_journal
returns-in-Err-end-clause-only_journal g c = c.in-Ok.ensures.only_journal

pub returns-in-Err-end-clause-only_seal : goal.returns-in-Err-end-clause-only_seal
returns-in-Err-end-clause-only_seal g c = no_more_on _ _ _ c.in-Ok.ensures.only_seal c.in-Err-end.ensures.only

pub returns-in-Err-end-clause-unsynced : goal.returns-in-Err-end-clause-unsynced
returns-in-Err-end-clause-unsynced g c = c.in-Ok.ensures.unsynced

pub returns-in-Err-end-clause-unsynced_both : goal.returns-in-Err-end-clause-unsynced_both
returns-in-Err-end-clause-unsynced_both g c = (
  c.in-Ok.ensures.unsynced_both.0,
  none_between (g.K.Replaced.synced c.args.new_seal.now) (g.K.Replaced.synced c.begin.new.new_seal) (g.K.Replaced.synced c.end.new.new_seal)
      c.in-Ok.ensures.unsynced_both.1 c.in-Err-end.ensures.unsynced,
)

pub returns-in-Err-end-clause-first : goal.returns-in-Err-end-clause-first
returns-in-Err-end-clause-first g c = inr c.in-Ok.ensures.synced

pub returns-in-Err-end-clause-same : goal.returns-in-Err-end-clause-same
returns-in-Err-end-clause-same g c = λ e. absurd (c.in-Err-end.ensures.kind e)

pub returns-in-Err-end-clause-told : goal.returns-in-Err-end-clause-told
returns-in-Err-end-clause-told g c = with_both c.in-Ok.ensures.synced c.in-Ok.ensures.synced_both.0 c.in-Err-end.ensures.told
