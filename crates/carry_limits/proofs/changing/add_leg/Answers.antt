use Rattle.std.proofs.lemmas.Bool.{OnTrue_at}
use Rattle.carry_limits.proofs.Unlifted.{leg_same}
use Rattle.carry_limits.proofs.changing.add_leg.Goals as goal

pub returns-then-is_very : goal.returns-then-is_very
returns-then-is_very c =
    leg_same c.args.lifted.now c.args.file.now c.args.leg c.args.all.now.items c.steps-steps.result.now c.steps.result.now c.requires.nested
    c.steps-steps.ensures.value c.steps.ensures.value (OnTrue_at c.if-is_very.true c.is_very.ensures)
