use Rattle.seat_open.proofs.Ended.{ended_is_journal}
use Rattle.seat_open.proofs.Found.{journal_is_found}
use Rattle.seat_open.proofs.laws.open_journals_are_one.Goals as goal

pub returns-clause-ended : goal.returns-clause-ended
returns-clause-ended c = ended_is_journal

pub returns-clause-found : goal.returns-clause-found
returns-clause-found c = journal_is_found c.entries_are_their_lines.ensures.read
