use Rattle.std.proofs.Common.{◌≡◌, rules}
use Rattle.std.proofs.lemmas.Bool.{OnTrue_from}
use Rattle.std.proofs.lemmas.Slice.Eq.{slice_eq-Decides}
use Rattle.carry_limits.proofs.lifting.is_very.Goals as goal

pub returns : goal.returns
returns c = OnTrue_from c.eq.result (c.args.file.now ≡ c.args.steps.now) (slice_eq-Decides (search rules) c.args.file.now c.args.steps.now c.eq.result c.eq.ensures).0
