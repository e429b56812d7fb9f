use Rattle.std.proofs.Common.{arith, sym}
use Rattle.ssim_records.proofs.Cuts.{cut_shorter, cut_takes}
use Rattle.ssim_records.proofs.SetReaches.{step_more, reach_none}
use Rattle.ssim_records.proofs.set_reading.read_records.Goals as goal

pub loop-rest-init : goal.loop-rest-init
loop-rest-init c = record { reached = rw c.new.ensures (reach_none c.args.most c.args.bytes.now); from_one = omega arith; below = omega arith; counted = (omega arith, omega arith) }

pub loop-rest-smaller : goal.loop-rest-smaller
loop-rest-smaller c = cut_shorter c.loop-rest.rest.now c.in-Ok.parts.0.now c.in-Ok.parts.1.now (sym c.in-Ok.ensures)

pub loop-rest-preserved : goal.loop-rest-preserved
loop-rest-preserved c = record {
  reached = step_more c.args.most c.args.bytes.now c.loop-rest.nth c.loop-rest.reader c.take.new.reader c.loop-rest.rest.now c.in-Ok.parts.0.now c.in-Ok.parts.1.now c.loop-rest.invariant.from_one c.loop-rest.invariant.reached (sym c.in-Ok.ensures) c.in_default.ensures.taken;
  from_one = omega arith;
  below = omega (arith, c.loop-rest.invariant.below, cut_shorter c.loop-rest.rest.now c.in-Ok.parts.0.now c.in-Ok.parts.1.now (sym c.in-Ok.ensures));
  counted = c.in_default.ensures.counted;
}

pub take-requires : goal.take-requires
take-requires c = (c.requires.most, (cut_takes c.loop-rest.rest.now c.in-Ok.parts.0.now c.in-Ok.parts.1.now (sym c.in-Ok.ensures)).1, c.loop-rest.invariant.counted)
