use Rattle.seat_handing.proofs.handing.take_back.Goals as goal

pub returns-clause-taken : goal.returns-clause-taken
returns-clause-taken g c = rw c.is_taken_back.ensures at c.take_back.ensures.taken

pub returns-clause-left : goal.returns-clause-left
returns-clause-left g c = rw c.is_taken_back.ensures at c.take_back.ensures.left

pub returns-clause-kind : goal.returns-clause-kind
returns-clause-kind g c = c.take_back.ensures.kind

pub returns-clause-crash : goal.returns-clause-crash
returns-clause-crash g c = rw c.is_taken_back.ensures at c.take_back.ensures.crash

pub returns-clause-only : goal.returns-clause-only
returns-clause-only g c = c.take_back.ensures.only

pub returns-clause-unsynced : goal.returns-clause-unsynced
returns-clause-unsynced g c = c.take_back.ensures.unsynced
