use Rattle.seat_display.proofs.Steps.{looks}
use Rattle.seat_display.proofs.viewer.find.Goals as goal

pub enter_as-requires : goal.enter_as-requires
enter_as-requires g c x = looks _ _ x
