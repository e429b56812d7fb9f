use Rattle.std.proofs.Common.{arith, refl}
use Rattle.desk_serving.proofs.Days.{days_on}
use Rattle.desk_serving.proofs.Hearing.{hears_more, lived_on, same_on}
use Rattle.desk_serving.proofs.piece.hear_piece.Goals as goal

pub loop-byte-preserved : goal.loop-byte-preserved
loop-byte-preserved g c = (
  hears_more c.args.feed.now c.loop-byte.feed c.hear_byte.new.feed c.args.line.now.items c.loop-byte.line.items c.hear_byte.new.line.items
      c.args.piece.now c.loop-byte.byte-index _ c.loop-byte.invariant.0 (omega (arith, c.loop-byte-test.true)) refl c.in-Ok.ensures.hears,
  lived_on c.args.feed.now c.loop-byte.feed c.hear_byte.new.feed c.loop-byte.invariant.1 c.hear_byte.ensures.lived,
  same_on c.args.feed.now c.loop-byte.feed c.hear_byte.new.feed c.loop-byte.invariant.2 c.hear_byte.ensures.same,
  days_on c.args.feed.now.reading.today c.loop-byte.feed.reading.today c.hear_byte.new.feed.reading.today c.loop-byte.invariant.3
      c.hear_byte.ensures.days,
)

pub returns-in-Err-clause-days : goal.returns-in-Err-clause-days
returns-in-Err-clause-days g c =
    days_on c.args.feed.now.reading.today c.loop-byte.feed.reading.today c.hear_byte.new.feed.reading.today c.loop-byte.invariant.3
    c.hear_byte.ensures.days
