use Rattle.seat_rules.proofs.Step.Effect.{applying_is_the_step}
use Rattle.seat_rules.proofs.laws.applying_is_the_step.Goals as goal

pub returns : goal.returns
returns c = applying_is_the_step
