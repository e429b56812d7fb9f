use Rattle.std.proofs.Common.{ℕ, arith, subst, sym, zero-add}
use Rattle.seat_desk.proofs.Texts.{put_more}
use Rattle.seat_questions.specs.Cover.{IsLegPartBy}
use Rattle.seat_questions.specs.Coverage.{finds_row}
use Rattle.seat_questions.proofs.Covers.{at_most_one, one_more}
use Rattle.seat_questions.proofs.cover.put_legs.Goals as goal

pub loop-j-preserved : goal.loop-j-preserved
loop-j-preserved c =
    let leg = c.in_ok-count.ensures.put in
    let test = finds_row c.args.coverage.now in
    record {
      put = put_more (IsLegPartBy test c.args.index c.args.flight.now) 0 c.loop-j.j c.as_slice-legs.result.now c.index-legs-j.result c.args.text.now.items c.loop-j.text.items c.put_leg.new.text.items
          leg.part c.loop-j.invariant.put c.loop-j-test.true c.index-legs-j.is
          (subst (λ (k : ℕ). IsLegPartBy test c.args.index c.args.flight.now k c.index-legs-j.result leg.part) (sym (zero-add c.loop-j.j)) leg.is_part) leg.written;
      total = one_more (test c.args.flight.now) c.as_slice-legs.result.now c.loop-j.j c.index-legs-j.result c.loop-j.count c.in_ok-count.field-0 c.loop-j.invariant.total c.loop-j-test.true c.index-legs-j.is c.in_ok-count.ensures.count;
      bound = omega (arith, c.loop-j.invariant.bound, at_most_one (test c.args.flight.now c.index-legs-j.result) c.in_ok-count.field-0 c.in_ok-count.ensures.count);
    }
