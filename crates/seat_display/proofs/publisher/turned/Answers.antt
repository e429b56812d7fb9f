use Rattle.seat_display.proofs.Steps.{follows_as, turns}
use Rattle.seat_display.proofs.publisher.turned.Goals as goal

pub publish_as-requires : goal.publish_as-requires
publish_as-requires g c next is = turns _ _ c.args.writer.desk.shown.value next (follows_as _ _ _ next is c.requires)
