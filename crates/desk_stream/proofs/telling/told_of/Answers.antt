use Rattle.desk_stream.proofs.Told.{turn_more}
use Rattle.desk_stream.proofs.telling.told_of.Goals as goal

pub loop-turn-preserved : goal.loop-turn-preserved
loop-turn-preserved g c = (
  turn_more c.args.flights.now c.args.serving.now.grid c.args.serving.now.journal c.loop-turn.turn-index c.args.turns.now c.turn-item.result
      c.loop-turn.text.items c.in_ok-part.part.items c.add_part.new.text.items c.loop-turn.invariant.0 c.loop-turn-test.true c.turn-item.is
      c.in_ok-part.ensures.told c.in_ok-add_part.ensures,
  c.turn_told.ensures.calls,
)
