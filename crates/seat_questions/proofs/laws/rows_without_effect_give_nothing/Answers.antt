use Rattle.seat_questions.proofs.Effects.{rows_without_effect_give_nothing}
use Rattle.seat_questions.proofs.laws.rows_without_effect_give_nothing.Goals as goal

pub returns : goal.returns
returns c = rows_without_effect_give_nothing
