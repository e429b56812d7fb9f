-- All differences, and how many lines have none.
use Rattle.std.proofs.Common.{rules, length}
use Rattle.partner_questions.proofs.Compares.{all_differences, all_same}
use Rattle.partner_questions.proofs.comparing.differences.Goals as goal

pub returns-clause-all : goal.returns-clause-all
returns-clause-all c =
    all_differences c.args.flights.now c.args.journal.now c.args.ours.now c.args.theirs.now c.in_ok-listed.listed c.in_ok-here.here c.in_ok-lines.lines
    c.put_theirs.new.all.items c.put_ours.new.all.items (search rules) (search rules) (search rules) (search rules) (search rules)

pub returns-clause-same : goal.returns-clause-same
returns-clause-same c =
    all_same c.args.flights.now c.args.journal.now c.args.ours.now c.args.theirs.now c.in_ok-here.here c.in_ok-lines.lines
    c.put_theirs.new.all.items (length c.args.theirs.now) (length c.put_theirs.new.all.items) c.saturating_sub-same.result
    (search rules) (search rules) (search rules) (search rules) (search rules) (search rules)
