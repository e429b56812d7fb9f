use Rattle.desk_serving.proofs.Days.{day_read}
use Rattle.desk_serving.proofs.Hearing.{line_heard, line_lived, same_but, same_lived, stops_at, wants_at}
use Rattle.desk_serving.proofs.piece.hear_line.Goals as goal

pub returns-in-Ok-clause-heard : goal.returns-in-Ok-clause-heard
returns-in-Ok-clause-heard g c =
    line_heard c.args.feed.now c.hear.new.self c.args.line.now c.in-Ok.ensures.heard c.hear.ensures.unbooked

pub returns-in-Ok-clause-lived : goal.returns-in-Ok-clause-lived
returns-in-Ok-clause-lived g c =
    line_lived c.args.feed.now c.hear.new.self c.args.line.now c.in-Ok.ensures.heard c.hear.ensures.unbooked

pub returns-in-Ok-clause-days : goal.returns-in-Ok-clause-days
returns-in-Ok-clause-days g c = day_read c.args.feed.now c.hear.new.self c.args.line.now c.hear.ensures.read

pub returns-in-Ok-clause-same : goal.returns-in-Ok-clause-same
returns-in-Ok-clause-same g c = same_but c.args.feed.now c.hear.new.self c.hear.ensures.unbooked

pub returns-in-Err-clause-lived : goal.returns-in-Err-clause-lived
returns-in-Err-clause-lived g c = same_lived c.args.feed.now c.hear.new.self c.in-Err.ensures.same c.hear.ensures.unbooked

pub returns-in-Err-clause-strange : goal.returns-in-Err-clause-strange
returns-in-Err-clause-strange g c =
    stops_at c.args.feed.now c.hear.new.self c.args.line.now c.in-Err.fault c.in-Err.ensures.strange c.in-Err.ensures.same
    c.hear.ensures.unbooked c.hear.ensures.read

pub returns-in-Err-clause-memory : goal.returns-in-Err-clause-memory
returns-in-Err-clause-memory g c =
    wants_at c.args.feed.now c.hear.new.self c.args.line.now c.in-Err.fault c.in-Err.ensures.memory c.in-Err.ensures.same
    c.hear.ensures.unbooked c.hear.ensures.read

pub returns-in-Err-clause-days : goal.returns-in-Err-clause-days
returns-in-Err-clause-days g c = day_read c.args.feed.now c.hear.new.self c.args.line.now c.hear.ensures.read

pub returns-in-Err-clause-same : goal.returns-in-Err-clause-same
returns-in-Err-clause-same g c = same_but c.args.feed.now c.hear.new.self c.hear.ensures.unbooked
