-- The bytes that are left have as many lines of entries as are still looked for, or fewer, as the text has.
use Rattle.std.proofs.Common.{◌≡◌, false, drop, nat_lt}
use Rattle.desk_serving.specs.Opening.{entries_in, left_behind}
use Rattle.desk_serving.proofs.feed_opening.looks_fewer.Given as goal

abbrev pub invariant-loop-byte : goal.invariant-loop-byte
invariant-loop-byte l = nat_lt (entries_in false false l.text) l.lines ≡ left_behind l.looking (drop l.byte-index l.text)
