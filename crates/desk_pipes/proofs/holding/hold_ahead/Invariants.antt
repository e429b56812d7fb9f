-- What was read so far is held, and the mark does not stand in it.
use Rattle.std.proofs.Common.{◌≡◌, ◌<◌}
use Rattle.std.specs.Io.KnownBytes.{Consumes}
use Rattle.desk_pipes.specs.Marks.{IsSeen}
use Rattle.desk_pipes.proofs.holding.hold_ahead.Given as goal

abbrev pub invariant-pieces : goal.invariant-pieces
invariant-pieces g l = Consumes (g.I.Read.remaining l.initial.input) (g.I.Read.remaining l.input) l.held.items
    × IsSeen l.ahead.mark.bytes l.held.items l.ahead.seen × (l.ahead.seen < 24) × (l.ahead.mark ≡ l.fn.mark)
