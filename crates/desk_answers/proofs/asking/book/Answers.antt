use Rattle.std.proofs.Common.{◌≡◌, ◌∙◌, ◌<◌, ◌∷◌, [], List, ap, arith, get_or, length, rules, sym, subst}
use Rattle.std.proofs.lemmas.List.{nil_from_length}
use Rattle.seat_journal.specs.declared.entry.Entry.{Entry}
use Rattle.seat_replies.specs.RunDesk.{IsAnswer}
use Rattle.desk_answers.specs.Hosts.{IsReady}
use Rattle.desk_answers.proofs.Wishes.{no_line, one_right, only_first}
use Rattle.desk_answers.proofs.asking.book.Goals as goal

pub answer-requires-clause-right : goal.answer-requires-clause-right
answer-requires-clause-right g c = one_right c.args.serving.now.grid c.args.asked c.requires.right

pub answer_text-requires-clause-last : goal.answer_text-requires-clause-last
answer_text-requires-clause-last g c =
    let some : 0 < length c.in-Ok.answered.lines = omega (arith, c.in-len1-up.len_at_least, ap length c.as_slice.ensures) in
    let here : c.line-item.result ≡ get_or c.as_slice.result.now 0 c.line-item.result = search rules in
    (only_first c.args.serving.now.grid c.args.serving.now.journal c.answer.new.self.journal c.args.asked c.in-Ok.answered.lines c.line-item.result
    c.in-Ok.ensures.lines c.in-Ok.ensures.journal some
    (here ∙ ap (λ (l : List Entry). get_or l 0 c.line-item.result) c.as_slice.ensures)).last

pub returns-in-Ok-answer_text-clause-booked : goal.returns-in-Ok-answer_text-clause-booked
returns-in-Ok-answer_text-clause-booked g c =
    let some : 0 < length c.in-Ok.answered.lines = omega (arith, c.in-len1-up.len_at_least, ap length c.as_slice.ensures) in
    let here : c.line-item.result ≡ get_or c.as_slice.result.now 0 c.line-item.result = search rules in
    let only = only_first c.args.serving.now.grid c.args.serving.now.journal c.answer.new.self.journal c.args.asked c.in-Ok.answered.lines c.line-item.result
    c.in-Ok.ensures.lines c.in-Ok.ensures.journal some
    (here ∙ ap (λ (l : List Entry). get_or l 0 c.line-item.result) c.as_slice.ensures) in
    record {
      line_is = only.journal_is;
      answer = subst (λ (e : Entry). IsAnswer c.args.flights.now (c.args.wish.now ∷ []) c.answer.new.self.journal 0 e c.in-Ok-answer_text.text.items)
          only.line_is c.in-Ok-answer_text.ensures;
    }

pub returns-in-len1-up-clause-untold : goal.returns-in-len1-up-clause-untold
returns-in-len1-up-clause-untold g c = λ is.
    let some : 0 < length c.in-Ok.answered.lines = omega (arith, c.in-len1-up.len_at_least, ap length c.as_slice.ensures) in
    let here : c.line-item.result ≡ get_or c.as_slice.result.now 0 c.line-item.result = search rules in
    (only_first c.args.serving.now.grid c.args.serving.now.journal c.answer.new.self.journal c.args.asked c.in-Ok.answered.lines c.line-item.result
    c.in-Ok.ensures.lines c.in-Ok.ensures.journal some
    (here ∙ ap (λ (l : List Entry). get_or l 0 c.line-item.result) c.as_slice.ensures)).journal_is

pub returns-in-Ok-answer_text-clause-ready : goal.returns-in-Ok-answer_text-clause-ready
returns-in-Ok-answer_text-clause-ready g c = record { is_open = c.in-Ok.ensures.open; kept_is = c.in-Ok.ensures.kept; disk = c.in-Ok.ensures.disk; synced = c.in-Ok.ensures.synced }

pub returns-in-Ok-answer_text-clause-same : goal.returns-in-Ok-answer_text-clause-same
returns-in-Ok-answer_text-clause-same g c = (c.answer.ensures.same.1, c.answer.ensures.same.2)

pub returns-in-Ok-answer_text-clause-front : goal.returns-in-Ok-answer_text-clause-front
returns-in-Ok-answer_text-clause-front g c = c.answer.ensures.front

pub returns-in-Ok-answer_text-clause-told : goal.returns-in-Ok-answer_text-clause-told
returns-in-Ok-answer_text-clause-told g c = c.answer.ensures.told

pub returns-in-Ok-answer_text-clause-counted : goal.returns-in-Ok-answer_text-clause-counted
returns-in-Ok-answer_text-clause-counted g c = c.in-Ok.ensures.counted

pub returns-in-len1-up-clause-still : goal.returns-in-len1-up-clause-still
returns-in-len1-up-clause-still g c = λ _. record { is_open = c.in-Ok.ensures.open; kept_is = c.in-Ok.ensures.kept; disk = c.in-Ok.ensures.disk; synced = c.in-Ok.ensures.synced }

pub returns-in-len1-up-clause-uncounted : goal.returns-in-len1-up-clause-uncounted
returns-in-len1-up-clause-uncounted g c = λ _. c.in-Ok.ensures.counted

pub returns-in-len1-up-clause-same : goal.returns-in-len1-up-clause-same
returns-in-len1-up-clause-same g c = (c.answer.ensures.same.1, c.answer.ensures.same.2)

pub returns-clause-still : goal.returns-clause-still
returns-clause-still g c = λ _. record { is_open = c.in-Ok.ensures.open; kept_is = c.in-Ok.ensures.kept; disk = c.in-Ok.ensures.disk; synced = c.in-Ok.ensures.synced }

pub returns-clause-uncounted : goal.returns-clause-uncounted
returns-clause-uncounted g c = λ _. c.in-Ok.ensures.counted

pub returns-clause-same : goal.returns-clause-same
returns-clause-same g c = (c.answer.ensures.same.1, c.answer.ensures.same.2)

pub returns-clause-memory : goal.returns-clause-memory
returns-clause-memory g c = λ _.
    let none : length c.in-Ok.answered.lines ≡ 0 = omega (arith, c.in-empty.len_below, ap length c.as_slice.ensures) in
    no_line c.args.serving.now.journal c.answer.new.self.journal c.in-Ok.answered.lines c.in-Ok.ensures.journal
    (nil_from_length c.in-Ok.answered.lines none)

pub returns-in-Err-Memory-clause-still : goal.returns-in-Err-Memory-clause-still
returns-in-Err-Memory-clause-still g c = λ _.
    subst (IsReady g.D.Tape.seen g.D.Tape.may_leave g.D.Tape.unsynced) (sym (c.in-Err-Memory.ensures.memory c.in-Err-Memory.field-0-is)) c.requires.ready

pub returns-in-Err-Memory-clause-memory : goal.returns-in-Err-Memory-clause-memory
returns-in-Err-Memory-clause-memory g c = λ _. λ i. (c.in-Err-Memory.ensures.memory c.in-Err-Memory.field-0-is i).journal

pub returns-in-Err-Memory-clause-uncounted : goal.returns-in-Err-Memory-clause-uncounted
returns-in-Err-Memory-clause-uncounted g c = λ _. λ i. g.D.Failures.failure_count (c.in-Err-Memory.ensures.memory c.in-Err-Memory.field-0-is i).tape

pub returns-in-Err-Memory-clause-same : goal.returns-in-Err-Memory-clause-same
returns-in-Err-Memory-clause-same g c = (c.answer.ensures.same.1, c.answer.ensures.same.2)

pub returns-in-Err-Device-clause-device : goal.returns-in-Err-Device-clause-device
returns-in-Err-Device-clause-device g c = λ _. c.in-Err-Device.ensures.device c.in-Err-Device.field-0-is

pub returns-in-Err-Device-clause-same : goal.returns-in-Err-Device-clause-same
returns-in-Err-Device-clause-same g c = (c.answer.ensures.same.1, c.answer.ensures.same.2)
