use Rattle.std.proofs.Common.{◌<◌, length, sym, ◌∙◌, arith}
use Rattle.std.proofs.lemmas.Bool.{eqb-true, eqb-false}
use Rattle.seat_limits.proofs.LadderTexts.{read_more, read_all, read_none, bad_entry, entry_length, blank_length}
use Rattle.seat_limits.proofs.ladder_text.steps_of.Goals as goal

pub returns-then-is_empty : goal.returns-then-is_empty
returns-then-is_empty c =
    let all = read_all c.args.text.now c.loop-step.rest.now c.loop-step.steps.items c.in-Some.step c.in-Some.after.now c.loop-step.invariant.read (sym c.in-Some.ensures) (eqb-true _ _ (sym c.is_empty.ensures ∙ c.if-is_empty.true)) in
    rw c.push.ensures.items (sym all)

pub returns-in_default-byte_of : goal.returns-in_default-byte_of
returns-in_default-byte_of c =
    let ne = eqb-false (length c.in-Some.after.now) 0 (sym c.is_empty.ensures ∙ c.if-is_empty.false) in
    let some : 0 < length c.in-Some.after.now = omega arith in
    sym (read_none c.args.text.now c.loop-step.rest.now c.loop-step.steps.items c.loop-step.invariant.read (bad_entry c.loop-step.rest.now c.in-Some.step c.in-Some.after.now (sym c.in-Some.ensures) some (sym c.in_default-byte_of.ensures)))

pub loop-step-preserved : goal.loop-step-preserved
loop-step-preserved c =
    let more = read_more c.args.text.now c.loop-step.rest.now c.loop-step.steps.items c.in-Some.step c.in-Some.after.now c.in-Some-byte_of.next.now c.loop-step.invariant.read (sym c.in-Some.ensures) (sym c.in-Some-byte_of.ensures) in
    let eight = entry_length c.loop-step.rest.now c.in-Some.step c.in-Some.after.now (sym c.in-Some.ensures) in
    let one = blank_length c.in-Some.after.now c.in-Some-byte_of.next.now (sym c.in-Some-byte_of.ensures) in
    record {
      read = rw c.push.ensures.items more;
      short = omega (arith, eight, one, c.push.ensures.len, c.loop-step.invariant.short);
    }
