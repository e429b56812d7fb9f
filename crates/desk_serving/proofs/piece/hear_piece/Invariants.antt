-- The bytes so far were heard.
use Rattle.std.proofs.Common.{take}
use Rattle.desk_serving.specs.Streaming.{Hears, IsNoEarlierDay, IsSameBut, Lived}
use Rattle.desk_serving.proofs.piece.hear_piece.Given as goal

abbrev pub invariant-loop-byte : goal.invariant-loop-byte
invariant-loop-byte g l = Hears l.initial.feed l.initial.line.items (take l.byte-index l.piece) l.feed l.line.items
    × Lived l.initial.feed l.feed × IsSameBut l.initial.feed l.feed × IsNoEarlierDay l.initial.feed.reading.today l.feed.reading.today
