use Rattle.std.proofs.Common.{◌++◌, ap, refl, ◌∙◌}
use Rattle.limit_changes.specs.declared.legs.NamedLeg.{NamedLeg}
use Rattle.limit_changes.proofs.Keeping.{part_more, parts_whole}
use Rattle.carry_limits.specs.Overs.{leg_over, over_on}
use Rattle.carry_limits.proofs.counting.add_legs.Goals as goal

pub loop-j-preserved : goal.loop-j-preserved
loop-j-preserved c =
    part_more (leg_over c.args.file.now c.args.by.now c.args.index c.args.flight.now) c.loop-j.j _ c.loop-j.j c.as_slice-legs.result.now c.index-legs-j.result c.loop-j.all.items c.add_leg.new.all.items _
    c.loop-j.invariant c.loop-j-test.true c.index-legs-j.is
    (c.in_ok-add_leg.ensures ∙ ap (λ (leg : NamedLeg). c.loop-j.all.items ++ over_on c.args.file.now c.args.by.now leg) c.named_leg.ensures) refl

pub returns : goal.returns
returns c =
    parts_whole (leg_over c.args.file.now c.args.by.now c.args.index c.args.flight.now) c.loop-j.j c.loop-j.j _ c.as_slice-legs.result.now c.loop-j.all.items _ c.loop-j.invariant refl c.loop-j-test.false
