use Rattle.std.proofs.lemmas.Result.{err_from_is_err_and}
use Rattle.std.proofs.Common.{◌∙◌, ◌<◌, List, arith, subst, sym}
use Rattle.seat_serving.specs.Answering.{AreRight}
use Rattle.seat_serving.specs.declared.asked.Asked.{Asked}
use Rattle.desk_hall.proofs.Groups.{behind_taken, no_lines, right_front, taken_few}
use Rattle.desk_hall.proofs.booking.book_group.Goals as goal

pub returns-clause-booked : goal.returns-clause-booked
returns-clause-booked g c =
    behind_taken c.args.serving.now.grid c.args.serving.now.journal c.answer.new.self.journal c.in_ok-answered.answered.lines c.args.asked.now
    c.group_of-group.result.now 4096 c.len-count.result c.group_of-group.ensures.first c.in_ok-answered.ensures.lines
    c.in_ok-answered.ensures.journal c.len-count.ensures

pub returns-clause-some : goal.returns-clause-some
returns-clause-some g c =
    let some : 0 < c.len-count.result = omega (arith, c.if-count-eq0.false) in (
      some,
      taken_few c.args.serving.now.grid c.args.serving.now.journal c.in_ok-answered.answered.lines c.args.asked.now c.group_of-group.result.now
          4096 c.len-count.result c.group_of-group.ensures.first c.in_ok-answered.ensures.lines c.len-count.ensures,
    )

pub answer-requires-clause-right : goal.answer-requires-clause-right
answer-requires-clause-right g c =
    subst (λ (l : List Asked). AreRight c.args.serving.now.grid l) (sym c.group_of-group.ensures.first)
    (right_front c.args.serving.now.grid 4096 c.args.asked.now c.requires.right)

pub returns-then-count-eq0-clause-memory : goal.returns-then-count-eq0-clause-memory
returns-then-count-eq0-clause-memory g c = λ _. (
  record {
    is_open = c.in_ok-answered.ensures.open;
    kept_is = c.in_ok-answered.ensures.kept;
    disk = c.in_ok-answered.ensures.disk;
    synced = c.in_ok-answered.ensures.synced;
  },
  no_lines c.args.serving.now.journal c.answer.new.self.journal c.in_ok-answered.answered.lines c.in_ok-answered.ensures.journal
      (sym c.len-count.ensures ∙ c.if-count-eq0.true),
)

pub answer-requires-clause-few : goal.answer-requires-clause-few
answer-requires-clause-few g c = c.group_of-group.ensures.few

pub answer-requires-clause-room : goal.answer-requires-clause-room
answer-requires-clause-room g c = omega (arith, c.requires.room, c.group_of-group.ensures.within)

pub returns-clause-counted : goal.returns-clause-counted
returns-clause-counted g c = c.in_ok-answered.ensures.counted

pub returns-clause-front : goal.returns-clause-front
returns-clause-front g c = c.in_ok-answered.ensures.front

pub returns-clause-ready : goal.returns-clause-ready
returns-clause-ready g c = (record { is_open = c.in_ok-answered.ensures.open; kept_is = c.in_ok-answered.ensures.kept; disk = c.in_ok-answered.ensures.disk; synced = c.in_ok-answered.ensures.synced })

pub returns-clause-same : goal.returns-clause-same
returns-clause-same g c = (c.in_ok-answered.ensures.same.1, c.in_ok-answered.ensures.same.2)

pub returns-clause-told : goal.returns-clause-told
returns-clause-told g c = c.in_ok-answered.ensures.told

pub returns-in_err-answered-clause-booked : goal.returns-in_err-answered-clause-booked
returns-in_err-answered-clause-booked g c =
    let p = err_from_is_err_and c.from_residual.result c.from_residual.ensures.1 in
    rw p.1 tt

pub returns-in_err-answered-clause-some : goal.returns-in_err-answered-clause-some
returns-in_err-answered-clause-some g c =
    let p = err_from_is_err_and c.from_residual.result c.from_residual.ensures.1 in
    rw p.1 tt

pub returns-in_err-answered-clause-counted : goal.returns-in_err-answered-clause-counted
returns-in_err-answered-clause-counted g c =
    let p = err_from_is_err_and c.from_residual.result c.from_residual.ensures.1 in
    rw p.1 tt

pub returns-in_err-answered-clause-ready : goal.returns-in_err-answered-clause-ready
returns-in_err-answered-clause-ready g c =
    let p = err_from_is_err_and c.from_residual.result c.from_residual.ensures.1 in
    rw p.1 tt

pub returns-in_err-answered-clause-front : goal.returns-in_err-answered-clause-front
returns-in_err-answered-clause-front g c = c.in_err-answered.ensures.front

pub returns-in_err-answered-clause-told : goal.returns-in_err-answered-clause-told
returns-in_err-answered-clause-told g c = c.in_err-answered.ensures.told

pub returns-in_err-answered-clause-same : goal.returns-in_err-answered-clause-same
returns-in_err-answered-clause-same g c = (c.in_err-answered.ensures.same.1, c.in_err-answered.ensures.same.2)

pub returns-in_err-answered-clause-device : goal.returns-in_err-answered-clause-device
returns-in_err-answered-clause-device g c =
    let p = err_from_is_err_and c.from_residual.result c.from_residual.ensures.1 in
    rw (p.1, p.2) (λ device. ((c.in_err-answered.ensures.device device).0, (c.in_err-answered.ensures.device device).2))

pub returns-then-count-eq0-clause-front : goal.returns-then-count-eq0-clause-front
returns-then-count-eq0-clause-front g c = c.in_ok-answered.ensures.front

pub returns-then-count-eq0-clause-same : goal.returns-then-count-eq0-clause-same
returns-then-count-eq0-clause-same g c = (c.in_ok-answered.ensures.same.1, c.in_ok-answered.ensures.same.2)

pub returns-then-count-eq0-clause-told : goal.returns-then-count-eq0-clause-told
returns-then-count-eq0-clause-told g c = c.in_ok-answered.ensures.told
