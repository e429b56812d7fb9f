use Rattle.std.proofs.Common.{ℕ, ◌+◌, ◌∙◌, ap}
use Rattle.seat_host.proofs.settling.gather.Goals as goal

pub returns-then-not-are_all-clause-kept : goal.returns-then-not-are_all-clause-kept
returns-then-not-are_all-clause-kept g c = c.refused.ensures.kept

pub returns-then-not-are_all-clause-same : goal.returns-then-not-are_all-clause-same
returns-then-not-are_all-clause-same g c = c.refused.ensures.same

pub returns-in_default-clause-kept : goal.returns-in_default-clause-kept
returns-in_default-clause-kept g c = c.refused-in_default.ensures.kept

pub returns-in_default-clause-same : goal.returns-in_default-clause-same
returns-in_default-clause-same g c = c.refused-in_default.ensures.same

pub settle-requires-clause-slots : goal.settle-requires-clause-slots
settle-requires-clause-slots g c = c.in-Ok.ensures ∙ ap (λ (n : ℕ). n + 1) c.sessions-2.ensures

pub returns-clause-headline : goal.returns-clause-headline
returns-clause-headline g c = c.settle.ensures.headline

pub returns-clause-handed : goal.returns-clause-handed
returns-clause-handed g c = c.settle.ensures.handed

pub returns-clause-manager : goal.returns-clause-manager
returns-clause-manager g c = c.settle.ensures.number
