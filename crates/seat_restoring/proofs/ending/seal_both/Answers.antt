use Rattle.std.proofs.Common.{inl, inr, refl, sym, ◌∙◌}
use Rattle.seat_disk.proofs.Keeping.{no_more}
use Rattle.seat_restoring.proofs.Ordered.{seals_both, seals_none}
use Rattle.seat_restoring.proofs.ending.seal_both.Goals as goal

pub returns-then-is_headless-clause-ahead : goal.returns-then-is_headless-clause-ahead
returns-then-is_headless-clause-ahead g c = seals_none c.args.both.now c.args.rest _ _ (g.K.Replaced.may_leave c.args.seals.now)

pub returns-then-is_headless-clause-only : goal.returns-then-is_headless-clause-only
returns-then-is_headless-clause-only g c = no_more (g.K.Replaced.kept_may_leave c.args.seals.now)

pub returns-then-is_headless-clause-less : goal.returns-then-is_headless-clause-less
returns-then-is_headless-clause-less g c = λ _ may. may

pub returns-in_default-clause-ahead : goal.returns-in_default-clause-ahead
returns-in_default-clause-ahead g c = seals_none c.args.both.now c.args.rest _ _ (g.K.Replaced.may_leave c.args.seals.now)

pub returns-in_default-clause-only : goal.returns-in_default-clause-only
returns-in_default-clause-only g c = no_more (g.K.Replaced.kept_may_leave c.args.seals.now)

pub returns-in-Ok-replace_whole-clause-ahead : goal.returns-in-Ok-replace_whole-clause-ahead
returns-in-Ok-replace_whole-clause-ahead g c = seals_both c.args.both.now c.args.rest _ _ _ _ (sym c.is_headless.ensures ∙ c.if-is_headless.false) c.in-Ok.ensures.kept c.replace_whole.ensures.crash

pub returns-in-Err-clause-ahead : goal.returns-in-Err-clause-ahead
returns-in-Err-clause-ahead g c = seals_both c.args.both.now c.args.rest _ _ _ _ (sym c.is_headless.ensures ∙ c.if-is_headless.false) c.in-Ok.ensures.kept c.replace_whole.ensures.crash

pub returns-in-Ok-replace_whole-clause-both : goal.returns-in-Ok-replace_whole-clause-both
returns-in-Ok-replace_whole-clause-both g c = inl (sym c.is_headless.ensures ∙ c.if-is_headless.false, c.in-Ok-replace_whole.ensures.kept, c.in-Ok.ensures.kept)

pub returns-in-Ok-replace_whole-clause-named : goal.returns-in-Ok-replace_whole-clause-named
returns-in-Ok-replace_whole-clause-named g c = inr c.in-Ok-replace_whole.ensures.ok

pub returns-in-Ok-replace_whole-clause-less : goal.returns-in-Ok-replace_whole-clause-less
returns-in-Ok-replace_whole-clause-less g c = c.sync.ensures.crash

pub returns-in-Ok-replace_whole-clause-same : goal.returns-in-Ok-replace_whole-clause-same
returns-in-Ok-replace_whole-clause-same g c = c.sync.ensures.same

pub returns-in-Err-clause-less : goal.returns-in-Err-clause-less
returns-in-Err-clause-less g c = c.sync.ensures.crash

pub returns-in-Err-clause-same : goal.returns-in-Err-clause-same
returns-in-Err-clause-same g c = c.sync.ensures.same

pub returns-in_default-clause-less : goal.returns-in_default-clause-less
returns-in_default-clause-less g c = c.sync.ensures.crash

pub returns-in_default-clause-same : goal.returns-in_default-clause-same
returns-in_default-clause-same g c = c.sync.ensures.same

pub returns-then-is_headless-clause-both : goal.returns-then-is_headless-clause-both
returns-then-is_headless-clause-both g c = inr (sym c.is_headless.ensures ∙ c.if-is_headless.true, λ _ may. may)

pub returns-then-is_headless-clause-named : goal.returns-then-is_headless-clause-named
returns-then-is_headless-clause-named g c = inl refl

pub returns-in-Ok-replace_whole-clause-only : goal.returns-in-Ok-replace_whole-clause-only
returns-in-Ok-replace_whole-clause-only g c = c.replace_whole.ensures.only

pub returns-in-Err-clause-only : goal.returns-in-Err-clause-only
returns-in-Err-clause-only g c = c.replace_whole.ensures.only
