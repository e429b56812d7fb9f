use Rattle.std.proofs.Common.{◌++◌, ◌∷◌, [], List, ap, refl, subst}
use Rattle.ssim_flights.specs.declared.flight.DatedLeg.{DatedLeg}
use Rattle.seat_rules.specs.Sequential.{state_of}
use Rattle.limit_changes.specs.Legs.{each_from, legs_on, named_alone}
use Rattle.limit_changes.specs.declared.legs.NamedLeg.{NamedLeg}
use Rattle.carry_limits.specs.Filed.{HaveRowsOf}
use Rattle.carry_limits.proofs.Unlifted.{rows_more, rows_self, rows_whole}
use Rattle.carry_limits.proofs.changing.add_lifted.Goals as goal

pub loop-j-init : goal.loop-j-init
loop-j-init c =
    rows_self c.args.lifted.now (state_of c.args.file.now []) (c.args.all.now.items ++ each_from (named_alone c.args.index c.args.flight.now) 0 c.as_slice-legs.result.now)
    (c.args.all.now.items ++ legs_on c.args.index c.args.flight.now)
    (ap (λ (l : List DatedLeg). c.args.all.now.items ++ each_from (named_alone c.args.index c.args.flight.now) 0 l) c.as_slice-legs.ensures)

pub loop-j-preserved : goal.loop-j-preserved
loop-j-preserved c =
    rows_more c.args.lifted.now (state_of c.args.file.now []) (named_alone c.args.index c.args.flight.now) c.loop-j.j _ c.loop-j.j
    c.as_slice-legs.result.now c.index-legs-j.result c.loop-j.all.items c.add_leg.new.all.items _ c.loop-j.invariant c.loop-j-test.true c.index-legs-j.is
    (subst (λ (leg : NamedLeg). HaveRowsOf c.args.lifted.now (state_of c.args.file.now []) c.add_leg.new.all.items (c.loop-j.all.items ++ leg ∷ []))
    c.named_leg.ensures c.in_ok-add_leg.ensures) refl

pub returns : goal.returns
returns c =
    rows_whole c.args.lifted.now (state_of c.args.file.now []) (named_alone c.args.index c.args.flight.now) c.loop-j.j c.loop-j.j _
    c.as_slice-legs.result.now c.loop-j.all.items _ c.loop-j.invariant refl c.loop-j-test.false
