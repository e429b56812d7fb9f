use Rattle.std.proofs.Common.{arith, ℕ, subst, sym, zero-add}
use Rattle.seat_desk.proofs.Texts.{put_more}
use Rattle.seat_questions.specs.Cover.{IsFlightPartBy, covered_by}
use Rattle.seat_questions.specs.Coverage.{finds_row}
use Rattle.seat_questions.proofs.Covers.{sum_flight, there, here}
use Rattle.seat_questions.proofs.cover.put_flights.Goals as goal

pub loop-i-preserved : goal.loop-i-preserved
loop-i-preserved c =
    let legs = c.in_ok-count.ensures.put in record {
      put = put_more (IsFlightPartBy (finds_row c.args.coverage.now)) 0 c.loop-i.i c.args.flights.now c.flight.result c.args.text.now.items c.loop-i.text.items c.put_legs.new.text.items legs.part
          c.loop-i.invariant.put (there c.args.flights.now c.loop-i.i c.flight.result c.flight.ensures.value) (here c.args.flights.now c.loop-i.i c.flight.result c.flight.ensures.value)
          (subst (λ (k : ℕ). IsFlightPartBy (finds_row c.args.coverage.now) k c.flight.result legs.part) (sym (zero-add c.loop-i.i)) legs.is_text) legs.written;
      total = sum_flight (covered_by (finds_row c.args.coverage.now)) c.args.flights.now c.loop-i.i c.flight.result c.loop-i.count c.in_ok-count.field-0 c.loop-i.invariant.total c.flight.ensures.value c.in_ok-count.ensures.count;
      bound = omega (arith, c.loop-i.invariant.bound, c.in_ok-count.ensures.few);
    }
