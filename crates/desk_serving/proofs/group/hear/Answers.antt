use Rattle.desk_serving.proofs.Passes.{heard_behind, ordered_behind}
use Rattle.std.proofs.Common.{◌≡◌, ap, length, ◌∙◌}
use Rattle.std.specs.Prelude.{Result, Ok, Err, OnErr}
use Rattle.desk_serving.proofs.Daily.{passed_day, unheard_day, unordered_day}
use Rattle.desk_serving.proofs.Groups.{passed_manager, passed_told, unheard, unordered}
use Rattle.airline_base.proofs.Sending.{on_err_any}
use Rattle.desk_hall.specs.Halls.{IsUnordered}
use Rattle.desk_serving.specs.Groups.{IsForgotten}
use Rattle.desk_serving.proofs.group.hear.Goals as goal

on_err : {A E : Type 0} (r : Result A E) (P Q : Type 0) → (P → Q) → OnErr r P → OnErr r Q
on_err (Ok x) P Q f p = tt
on_err (Err e) P Q f p = f p

pub returns-then-session-eq0-clause-heard : goal.returns-then-session-eq0-clause-heard
returns-then-session-eq0-clause-heard g c =
    ordered_behind c.args.is_earlier c.args.hall.now c.pass.new.self c.hear_manager.new.self c.args.session c.args.passed c.args.line.now
    c.pass.ensures.counted c.hear_manager.result c.if-session-eq0.true c.hear_manager.ensures.ordered

pub returns-clause-heard : goal.returns-clause-heard
returns-clause-heard g c =
    heard_behind c.args.is_earlier c.args.hall.now c.pass.new.self c.hear.new.self c.args.session c.args.passed c.args.line.now
    c.pass.ensures.counted c.if-session-eq0.false c.in_ok-hear.ensures.heard

pub pass-requires : goal.pass-requires
pass-requires g c = record { session = c.requires.session }

pub hear_manager-requires : goal.hear_manager-requires
hear_manager-requires g c =
    record { told = passed_manager c.args.hall.now c.pass.new.self c.args.session c.args.passed c.pass.ensures.counted c.requires.told c.if-session-eq0.true }

pub hear-requires-clause-told : goal.hear-requires-clause-told
hear-requires-clause-told g c = passed_told c.args.hall.now c.pass.new.self c.args.session c.args.passed c.pass.ensures.counted c.requires.told

pub returns-then-session-eq0-clause-same : goal.returns-then-session-eq0-clause-same
returns-then-session-eq0-clause-same g c = c.hear_manager.ensures.unbooked.0 ∙ c.pass.ensures.counted.same_host.serving_is

pub returns-then-session-eq0-clause-count : goal.returns-then-session-eq0-clause-count
returns-then-session-eq0-clause-count g c = ap length c.hear_manager.ensures.unbooked.1 ∙ c.pass.ensures.counted.count_is

pub returns-clause-same : goal.returns-clause-same
returns-clause-same g c = c.hear.ensures.unbooked.0 ∙ c.pass.ensures.counted.same_host.serving_is

pub returns-clause-count : goal.returns-clause-count
returns-clause-count g c = c.hear.ensures.unbooked.1 ∙ c.pass.ensures.counted.count_is

pub returns-in_err-hear-clause-forgotten : goal.returns-in_err-hear-clause-forgotten
returns-in_err-hear-clause-forgotten g c =
    on_err_any c.from_residual.result (IsForgotten c.args.hall.now c.hear.new.self c.args.session c.args.passed c.args.line.now)
    (unheard c.args.hall.now c.pass.new.self c.hear.new.self c.args.session c.args.passed c.args.line.now c.if-session-eq0.false c.pass.ensures.counted
    c.in_err-hear.ensures.memory)

pub returns-in_err-hear-clause-memory : goal.returns-in_err-hear-clause-memory
returns-in_err-hear-clause-memory g c =
    on_err_any c.from_residual.result (c.hear.new.self.today ≡ c.args.hall.now.today)
    (unheard_day c.pass.new.self c.hear.new.self c.args.session c.args.line.now c.in_err-hear.ensures.memory ∙ passed_day c.args.hall.now c.pass.new.self
    c.args.session c.args.passed c.pass.ensures.counted)

pub returns-in_err-hear-clause-same : goal.returns-in_err-hear-clause-same
returns-in_err-hear-clause-same g c = c.hear.ensures.unbooked.0 ∙ c.pass.ensures.counted.same_host.serving_is

pub returns-in_err-hear-clause-count : goal.returns-in_err-hear-clause-count
returns-in_err-hear-clause-count g c = c.hear.ensures.unbooked.1 ∙ c.pass.ensures.counted.count_is

pub returns-then-session-eq0-clause-forgotten : goal.returns-then-session-eq0-clause-forgotten
returns-then-session-eq0-clause-forgotten g c =
    on_err c.hear_manager.result (IsUnordered c.pass.new.self c.hear_manager.new.self)
    (IsForgotten c.args.hall.now c.hear_manager.new.self c.args.session c.args.passed c.args.line.now)
    (unordered c.args.hall.now c.pass.new.self c.hear_manager.new.self c.args.session c.args.passed c.args.line.now c.if-session-eq0.true
    c.pass.ensures.counted)
    c.hear_manager.ensures.memory

pub returns-then-session-eq0-clause-memory : goal.returns-then-session-eq0-clause-memory
returns-then-session-eq0-clause-memory g c =
    on_err c.hear_manager.result (IsUnordered c.pass.new.self c.hear_manager.new.self) (c.hear_manager.new.self.today ≡ c.args.hall.now.today)
    (λ is. unordered_day c.pass.new.self c.hear_manager.new.self is ∙ passed_day c.args.hall.now c.pass.new.self c.args.session c.args.passed
    c.pass.ensures.counted)
    c.hear_manager.ensures.memory
