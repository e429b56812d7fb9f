use Rattle.std.proofs.Common.{sym}
use Rattle.seat_restoring.proofs.Passing.{differs_so, passes_so}
use Rattle.seat_restoring.proofs.comparing.passed.Goals as goal

pub returns-in-None-clause-ok : goal.returns-in-None-clause-ok
returns-in-None-clause-ok c = passes_so c.args.seal.now c.args.basis.now c.args.journal.now c.fault_ahead-first.result c.known_of-known.result c.fault_ahead-first.ensures c.known_of-known.ensures (sym c.in-None.ensures)

pub returns-in-Some-clause-fault : goal.returns-in-Some-clause-fault
returns-in-Some-clause-fault c = differs_so c.args.seal.now c.args.basis.now c.args.journal.now c.fault_ahead-first.result c.known_of-known.result c.in-Some.fault c.fault_ahead-first.ensures c.known_of-known.ensures (sym c.in-Some.ensures)
