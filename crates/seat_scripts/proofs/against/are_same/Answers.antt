use Rattle.seat_scripts.proofs.Comparing.{commands_same}
use Rattle.seat_scripts.proofs.against.are_same.Goals as goal

pub returns : goal.returns
returns c = commands_same c.args.a.now c.args.b.now c.agree.result c.agree.ensures
