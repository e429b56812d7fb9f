use Rattle.seat_sealing.proofs.Denials.{no_crash_denies as in_each_step}
use Rattle.seat_sealing.proofs.laws.no_crash_denies.Goals as goal

pub returns : goal.returns
returns g c = in_each_step c.args.older.now c.args.newer.now c.args.text.now _ _ _ _
