use Rattle.std.proofs.Common.{◌≡◌, rules}
use Rattle.std.proofs.lemmas.Bool.{OnTrue_from}
use Rattle.std.proofs.lemmas.Slice.Eq.{slice_eq-Decides}
use Rattle.seat_limits.proofs.limit_row.are_same.Goals as goal

pub returns : goal.returns
returns c = OnTrue_from c.eq.result (c.args.left.now ≡ c.args.right.now) (slice_eq-Decides (search rules) c.args.left.now c.args.right.now c.eq.result c.eq.ensures).0
