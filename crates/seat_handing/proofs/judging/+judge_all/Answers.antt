use Rattle.std.proofs.Common.{true, false, refl, sym, ◌∙◌}
use Rattle.std.proofs.lemmas.List.{nil_from_length}
use Rattle.seat_handing.specs.declared.judging.HandsRefusal.TheVariants.{Refused}
use Rattle.hand_steps.proofs.Faults.{when_ok}
use Rattle.seat_handing.proofs.Judged.{all_added, all_whole, here_refused, later_refused, none_added, none_left, none_refused, none_whole}
use Rattle.seat_handing.proofs.judging.+judge_all.Goals as goal

-- ---- none is left

pub returns-in_default-clause-none : goal.returns-in_default-clause-none
returns-in_default-clause-none t c = none_left _ _ _ _ _ _ _ _ (nil_from_length c.args.knowns.now c.in_default.ensures.cases)

pub returns-in_default-clause-hands : goal.returns-in_default-clause-hands
returns-in_default-clause-hands t c = none_added _ _ _ _ _ _ _ _ (nil_from_length c.args.knowns.now c.in_default.ensures.cases)

pub returns-in_default-clause-nothing : goal.returns-in_default-clause-nothing
returns-in_default-clause-nothing t c = none_whole _ _ _ _ _ _ _ (nil_from_length c.args.knowns.now c.in_default.ensures.cases)

-- ---- one is refused

pub returns-in-Err-clause-refused : goal.returns-in-Err-clause-refused
returns-in-Err-clause-refused t c =
    here_refused _ _ _ _ _ _ _ _ _ c.in-Some.ensures.cases.0 c.args.place c.in-Err.refusal (Refused c.args.place c.in-Err.refusal) refl c.in-Err.ensures

pub returns-in-Err-judge_all-clause-refused : goal.returns-in-Err-judge_all-clause-refused
returns-in-Err-judge_all-clause-refused t c =
    later_refused _ _ _ _ _ _ _ _ _ c.in-Some.ensures.cases.0 _ _ _ _ c.in-Some-checked_add.ensures.1 c.in-Ok.ensures c.in-Err-judge_all.ensures.refused

-- ---- or none is

pub returns-then-needs_nothing-clause-none : goal.returns-then-needs_nothing-clause-none
returns-then-needs_nothing-clause-none t c =
    none_refused _ _ _ _ _ _ _ _ _ c.in-Some.ensures.cases.0 _ _ _ c.in-Some-checked_add.ensures.1 c.in-Ok.ensures c.in-Ok-judge_all.ensures.none

pub returns-then-needs_nothing-clause-hands : goal.returns-then-needs_nothing-clause-hands
returns-then-needs_nothing-clause-hands t c =
    all_added _ _ _ _ _ _ _ _ _ c.in-Some.ensures.cases.0 _ _ _ _ _ c.in-Ok.ensures c.hand_or_finish.ensures
    (when_ok c.push.result _ (sym c.is_err.ensures.value ∙ c.if-is_err.false) c.push.ensures.ok) c.in-Ok-judge_all.ensures.hands

pub returns-then-needs_nothing-clause-nothing : goal.returns-then-needs_nothing-clause-nothing
returns-then-needs_nothing-clause-nothing t c =
    all_whole _ _ _ _ _ _ _ _ _ c.in-Some.ensures.cases.0 _ true _ c.in-Ok.ensures (sym c.if-needs_nothing.true ∙ c.needs_nothing.ensures)
    c.in-Ok-judge_all.ensures.nothing

pub returns-else-needs_nothing-clause-none : goal.returns-else-needs_nothing-clause-none
returns-else-needs_nothing-clause-none t c =
    none_refused _ _ _ _ _ _ _ _ _ c.in-Some.ensures.cases.0 _ _ _ c.in-Some-checked_add.ensures.1 c.in-Ok.ensures c.in-Ok-judge_all.ensures.none

pub returns-else-needs_nothing-clause-hands : goal.returns-else-needs_nothing-clause-hands
returns-else-needs_nothing-clause-hands t c =
    all_added _ _ _ _ _ _ _ _ _ c.in-Some.ensures.cases.0 _ _ _ _ _ c.in-Ok.ensures c.hand_or_finish.ensures
    (when_ok c.push.result _ (sym c.is_err.ensures.value ∙ c.if-is_err.false) c.push.ensures.ok) c.in-Ok-judge_all.ensures.hands

pub returns-else-needs_nothing-clause-nothing : goal.returns-else-needs_nothing-clause-nothing
returns-else-needs_nothing-clause-nothing t c =
    c.if-needs_nothing.false ∙ all_whole _ _ _ _ _ _ _ _ _ c.in-Some.ensures.cases.0 _ false c.in-Ok-judge_all.rest c.in-Ok.ensures
    (sym c.if-needs_nothing.false ∙ c.needs_nothing.ensures) c.in-Ok-judge_all.ensures.nothing
