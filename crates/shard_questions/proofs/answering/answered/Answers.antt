use Rattle.std.proofs.Common.{map}
use Rattle.shard_questions.proofs.Grounds.{refused_over_ground}
use Rattle.shard_questions.proofs.answering.answered.Goals as goal

pub returns-in-Err-answered_over-clause-fault : goal.returns-in-Err-answered_over-clause-fault
returns-in-Err-answered_over-clause-fault g c =
    refused_over_ground (g.Q.Question.refuses c.args.question.now) g.I.Read.remaining g.I.Read.remaining c.args.inputs.now
    (map g.I.Read.remaining c.args.journals.now) _ _ _ c.in-Err-answered_over.fault c.in-Ok.ensures.rows c.in-Ok.ensures.ladders
    c.in-Err-answered_over.ensures.fault
