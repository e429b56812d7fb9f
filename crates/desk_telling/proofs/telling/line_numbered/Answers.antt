use Rattle.std.proofs.Common.{ℕ, ap}
use Rattle.desk_telling.specs.Telling.{line_numbered}
use Rattle.desk_telling.proofs.Places.{line_past, line_there}
use Rattle.desk_telling.proofs.telling.line_numbered.Goals as goal

pub returns-then-number-eq0-clause-none : goal.returns-then-number-eq0-clause-none
returns-then-number-eq0-clause-none c = ap (λ (n : ℕ). line_numbered c.args.journal.now n) c.if-number-eq0.true

pub returns-clause-none : goal.returns-clause-none
returns-clause-none c = line_past c.args.journal.now c.args.number c.get.result c.if-number-eq0.false c.get.ensures.lookup

pub returns-clause-found : goal.returns-clause-found
returns-clause-found c = line_there c.args.journal.now c.args.number c.get.result c.if-number-eq0.false c.get.ensures.lookup
