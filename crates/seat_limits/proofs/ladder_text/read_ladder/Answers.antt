use Rattle.std.proofs.Common.{◌∙◌}
use Rattle.seat_limits.proofs.LadderLaws.{is_found, is_only, is_fault}
use Rattle.seat_limits.proofs.ladder_text.read_ladder.Goals as goal

pub returns-clause-found : goal.returns-clause-found
returns-clause-found c = rw c.ladder_of.ensures (is_found c.args.text.now)

pub returns-clause-only : goal.returns-clause-only
returns-clause-only c = λ l spelled is. c.ladder_of.ensures ∙ is_only c.args.text.now l spelled is

pub returns-clause-fault : goal.returns-clause-fault
returns-clause-fault c = rw c.ladder_of.ensures (is_fault c.args.text.now)
