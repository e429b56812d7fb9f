use Rattle.std.proofs.Common.{refl, sym, ◌∙◌}
use Rattle.seat_core.proofs.reply.may_list.Goals as goal

pub returns-then-not-is_listed_at : goal.returns-then-not-is_listed_at
returns-then-not-is_listed_at c = rw (sym c.is_listed_at.ensures ∙ c.if-not-is_listed_at.true) refl

pub returns : goal.returns
returns c = rw (sym c.is_listed_at.ensures ∙ c.if-not-is_listed_at.false) c.may_queue.ensures
