use Rattle.std.proofs.Common.{inl, inr, refl}
use Rattle.seatdesk.proofs.Words.{placed, unplaced}
use Rattle.seatdesk.proofs.meaning.without_place.Goals as goal

pub returns-in-len1-up : goal.returns-in-len1-up
returns-in-len1-up c = unplaced c.args.line.now _ c.in-len1-up.len_at_least (inl (c.if-is_place.ensures refl))

pub returns-in_default : goal.returns-in_default
returns-in_default c = placed _

pub returns-in-len1-up-2 : goal.returns-in-len1-up-2
returns-in-len1-up-2 c = unplaced c.args.line.now _ c.in-len1-up.len_at_least (inr (c.if-is_lead.ensures refl))

pub returns-in_default-2 : goal.returns-in_default-2
returns-in_default-2 c = placed _

pub returns-in_default-3 : goal.returns-in_default-3
returns-in_default-3 c = placed _
