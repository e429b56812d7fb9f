use Rattle.std.proofs.lemmas.Result.{IfOk-weaker}
use Rattle.seat_rules.specs.Inventory.{IsReplayed}
use Rattle.carry_lines.specs.Carried.{AnswersByRoom, AreShut, HasLineEach, HasTheVery, KeepsAll, LosesNobody, carried_lines}
use Rattle.carry_lines.proofs.Promises.{answered, are_shut, has_line_each, has_the_very, keeps_all, loses_nobody}
use Rattle.carry_lines.proofs.carrying.carried.Goals as goal

pub returns-clause-nobody : goal.returns-clause-nobody
returns-clause-nobody c =
    IfOk-weaker c.carried_within.result (λ new. IsReplayed new c.args.grid c.args.cap (carried_lines c.args.grid c.args.rows.now c.args.live.now c.args.marks.now))
    (λ new. LosesNobody c.args.grid c.args.rows.now c.args.live.now new)
    (λ new is. loses_nobody c.args.grid c.args.cap c.args.rows.now c.args.live.now c.args.marks.now new is) c.carried_within.ensures.lines

pub returns-clause-very : goal.returns-clause-very
returns-clause-very c =
    IfOk-weaker c.carried_within.result (λ new. IsReplayed new c.args.grid c.args.cap (carried_lines c.args.grid c.args.rows.now c.args.live.now c.args.marks.now))
    (λ new. HasTheVery c.args.grid c.args.rows.now c.args.live.now new)
    (λ new is. has_the_very c.args.grid c.args.cap c.args.rows.now c.args.live.now c.args.marks.now new is) c.carried_within.ensures.lines

pub returns-clause-keeps : goal.returns-clause-keeps
returns-clause-keeps c =
    IfOk-weaker c.carried_within.result (λ new. IsReplayed new c.args.grid c.args.cap (carried_lines c.args.grid c.args.rows.now c.args.live.now c.args.marks.now))
    (λ new. KeepsAll c.args.grid c.args.rows.now c.args.live.now new)
    (λ new is. keeps_all c.args.grid c.args.cap c.args.rows.now c.args.live.now c.args.marks.now new is) c.carried_within.ensures.lines

pub returns-clause-own : goal.returns-clause-own
returns-clause-own c =
    IfOk-weaker c.carried_within.result (λ new. IsReplayed new c.args.grid c.args.cap (carried_lines c.args.grid c.args.rows.now c.args.live.now c.args.marks.now))
    (λ new. HasLineEach c.args.rows.now c.args.live.now new.journal)
    (λ new is. has_line_each c.args.grid c.args.cap c.args.rows.now c.args.live.now c.args.marks.now new is) c.carried_within.ensures.lines

pub returns-clause-answers : goal.returns-clause-answers
returns-clause-answers c =
    IfOk-weaker c.carried_within.result (λ new. IsReplayed new c.args.grid c.args.cap (carried_lines c.args.grid c.args.rows.now c.args.live.now c.args.marks.now))
    (λ new. AnswersByRoom c.args.grid c.args.rows.now c.args.live.now new)
    (λ new is. answered c.args.grid c.args.cap c.args.rows.now c.args.live.now c.args.marks.now new is) c.carried_within.ensures.lines

pub returns-clause-shut : goal.returns-clause-shut
returns-clause-shut c =
    IfOk-weaker c.carried_within.result (λ new. IsReplayed new c.args.grid c.args.cap (carried_lines c.args.grid c.args.rows.now c.args.live.now c.args.marks.now))
    (λ new. AreShut c.args.marks.now new.journal)
    (λ new is. are_shut c.args.grid c.args.cap c.args.rows.now c.args.live.now c.args.marks.now new is) c.carried_within.ensures.lines
