-- Those so far have their notices.
use Rattle.std.proofs.Common.{◌≡◌}
use Rattle.desk_serving.specs.Groups.{AreNotices}
use Rattle.desk_serving.proofs.telling.notices_of.Given as goal

abbrev pub invariant-loop-session : goal.invariant-loop-session
invariant-loop-session g l = (l.hall ≡ l.initial.hall) × AreNotices l.initial.hall l.session l.notices.items
