use Rattle.std.proofs.Common.{sym, ap, subst, ◌∙◌}
use Rattle.seat_nesting.specs.declared.ladder.Step.{Step}
use Rattle.seat_nesting.specs.Nesting.{IsLadder}
use Rattle.seat_nesting.proofs.LimitChanges.{written_with, unwritten_with}
use Rattle.seat_nesting.proofs.ladder.Ladder.set_limit.Goals as goal

pub invariant_of-self : goal.invariant_of-self
invariant_of-self c =
    let is = written_with c.self.inside.steps.items c.deref_mut.result.now c.as_slice.result.now c.deref.result.now c.args.self.now c.args.class c.args.limit c.args.wait c.in-Some.rank c.index-deref-rank.result c.with_limit-step.result c.deref_mut.ensures.value c.as_slice.ensures.value c.deref.ensures.0 c.self.view_is c.self.invariant.distinct c.in-Some.ensures (c.with_limit-step.ensures ∙ ap (λ (s : Step). record s { limit = c.args.limit; wait = c.args.wait }) c.index-deref-rank.is) in
    subst IsLadder (sym is) c.requires

pub returns-in-Some : goal.returns-in-Some
returns-in-Some c =
    written_with c.self.inside.steps.items c.deref_mut.result.now c.as_slice.result.now c.deref.result.now c.args.self.now c.args.class c.args.limit c.args.wait c.in-Some.rank c.index-deref-rank.result c.with_limit-step.result c.deref_mut.ensures.value c.as_slice.ensures.value c.deref.ensures.0 c.self.view_is c.self.invariant.distinct c.in-Some.ensures
    (c.with_limit-step.ensures ∙ ap (λ (s : Step). record s { limit = c.args.limit; wait = c.args.wait }) c.index-deref-rank.is)

pub returns-in_default : goal.returns-in_default
returns-in_default c = unwritten_with c.self.inside.steps.items c.as_slice.result.now c.args.self.now c.args.class c.args.limit c.args.wait c.as_slice.ensures.value c.self.view_is c.in_default.ensures
