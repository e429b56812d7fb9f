use Rattle.seat_reports.proofs.Audits.{audits_are_answered, refusals_are_audits, too_large_is_audits}
use Rattle.seat_reports.proofs.laws.audits_are_answered.Goals as goal

pub returns-clause-answered : goal.returns-clause-answered
returns-clause-answered c = audits_are_answered

pub returns-clause-refused : goal.returns-clause-refused
returns-clause-refused c = refusals_are_audits

pub returns-clause-large : goal.returns-clause-large
returns-clause-large c = too_large_is_audits
