use Rattle.std.proofs.Common.{sym, ◌∙◌}
use Rattle.seat_display.proofs.Steps.{begins, empty_alike}
use Rattle.seat_display.proofs.opening.open.Goals as goal

pub new-requires-clause-rule : goal.new-requires-clause-rule
new-requires-clause-rule g c = begins _ _ _ c.in-Ok.ensures.empty

pub new-requires-clause-alike : goal.new-requires-clause-alike
new-requires-clause-alike g c = empty_alike _ _ _ _ c.in-Ok.ensures.empty c.in-Ok-empty.ensures.empty (c.in-Ok.ensures.seen ∙ sym c.in-Ok-empty.ensures.seen) (c.in-Ok.ensures.counts ∙ sym c.in-Ok-empty.ensures.counts)
