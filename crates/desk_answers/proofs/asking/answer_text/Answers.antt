use Rattle.std.proofs.Common.{[], ◌∷◌, List, sym, subst}
use Rattle.seat_journal.specs.declared.entry.Entry.{Entry}
use Rattle.seat_replies.specs.Answering.{IsAnswerable}
use Rattle.desk_answers.proofs.Wishes.{answerable}
use Rattle.desk_answers.proofs.asking.answer_text.Goals as goal

pub put_answer-requires : goal.put_answer-requires
put_answer-requires g c =
    subst (λ (l : List Entry). IsAnswerable c.args.flights.now (c.args.wish.now ∷ []) l 0 c.args.line.now) (sym c.journal.ensures.value)
    (answerable c.args.flights.now c.args.serving.now.grid c.args.serving.now.journal c.args.wish.now c.args.line.now c.requires.grid c.journal.ensures.legal c.requires.last)
