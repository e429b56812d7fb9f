use Rattle.std.proofs.Common.{◌++◌, ◌∷◌, [], ap, refl, ◌∙◌}
use Rattle.limit_changes.specs.Legs.{named_alone}
use Rattle.limit_changes.specs.declared.legs.NamedLeg.{NamedLeg}
use Rattle.limit_changes.proofs.Keeping.{part_more, parts_whole}
use Rattle.limit_changes.proofs.legs.add_each.Goals as goal

pub loop-j-preserved : goal.loop-j-preserved
loop-j-preserved c =
    part_more (named_alone c.args.index c.args.flight.now) c.loop-j.j _ c.loop-j.j c.as_slice-legs.result.now c.index-legs-j.result c.loop-j.all.items c.push_leg.new.all.items _
    c.loop-j.invariant c.loop-j-test.true c.index-legs-j.is
    (c.in_ok-push_leg.ensures ∙ ap (λ (leg : NamedLeg). c.loop-j.all.items ++ leg ∷ []) c.named_leg.ensures) refl

pub returns : goal.returns
returns c =
    parts_whole (named_alone c.args.index c.args.flight.now) c.loop-j.j c.loop-j.j _ c.as_slice-legs.result.now c.loop-j.all.items _ c.loop-j.invariant refl c.loop-j-test.false
