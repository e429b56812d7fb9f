use Rattle.std.proofs.Common.{◌≤◌, ◌∙◌, List, arith, ap, length, refl, subst, sym}
use Rattle.ssim_flights.specs.declared.flight.DatedLeg.{DatedLeg}
use Rattle.seat_rules.specs.Inventory.{state_now}
use Rattle.seat_loads.specs.Sums.{on_leg, sum_from}
use Rattle.seat_loads.proofs.Adding.{sum_more, sum_none, sum_whole}
use Rattle.table_questions.specs.SumRows.{class_count}
use Rattle.table_questions.proofs.by_class.legs_count.Goals as goal

pub loop-j-init : goal.loop-j-init
loop-j-init c = record {
  value = sum_none (on_leg c.args.asked.now (class_count c.args.count (state_now c.args.core.now) c.args.class) c.args.index) c.as_slice-legs.result.now 0 refl;
  few = omega arith;
}

pub loop-j-preserved : goal.loop-j-preserved
loop-j-preserved c = record {
  value =
      sum_more (on_leg c.args.asked.now (class_count c.args.count (state_now c.args.core.now) c.args.class) c.args.index) c.loop-j.j c.as_slice-legs.result.now c.index-legs-j.result
      c.loop-j.total c.leg_count-total.result _ _ c.loop-j.invariant.value c.loop-j-test.true c.index-legs-j.is c.leg_count-total.ensures.value refl;
  few = omega (arith, c.loop-j.invariant.few, c.leg_count-total.ensures.few);
}
