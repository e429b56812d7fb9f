use Rattle.std.proofs.Common.{is_some, refl, sym, ap, ◌∙◌, arith, rules}
use Rattle.std.proofs.lemmas.Bool.{eqb-true}
use Rattle.seat_limits.proofs.LadderTexts.{bad_entry, blank_length, entry_length, is_more, last_entry, no_entry}
use Rattle.seat_limits.proofs.ladder_text.are_entries.Goals as goal

pub returns-then-is_empty : goal.returns-then-is_empty
returns-then-is_empty c = sym (c.loop-after.invariant ∙ ap is_some (last_entry c.loop-after.rest.now c.in-Some.field-0-0 c.in-Some.after.now (sym c.in-Some.ensures) (eqb-true _ _ (sym c.is_empty.ensures ∙ c.if-is_empty.true))))

pub loop-after-preserved : goal.loop-after-preserved
loop-after-preserved c = c.loop-after.invariant ∙ is_more c.loop-after.rest.now c.in-Some.field-0-0 c.in-Some.after.now c.in-Some-byte_of.next.now (sym c.in-Some.ensures) (sym c.in-Some-byte_of.ensures)

pub loop-after-init : goal.loop-after-init
loop-after-init c = refl

pub loop-after-smaller : goal.loop-after-smaller
loop-after-smaller c =
    let entry = entry_length c.loop-after.rest.now c.in-Some.field-0-0 c.in-Some.after.now (sym c.in-Some.ensures) in
    let blank = blank_length c.in-Some.after.now c.in-Some-byte_of.next.now (sym c.in-Some-byte_of.ensures) in
    omega (arith, entry, blank)

pub returns-in_default-byte_of : goal.returns-in_default-byte_of
returns-in_default-byte_of c =
    sym (c.loop-after.invariant ∙ ap is_some (bad_entry c.loop-after.rest.now c.in-Some.field-0-0 c.in-Some.after.now (sym c.in-Some.ensures) (search rules)
    (sym c.in_default-byte_of.ensures)))

pub returns : goal.returns
returns c = sym (c.loop-after.invariant ∙ ap is_some (no_entry c.loop-after.rest.now (sym c.in_default.ensures)))
