-- The bytes are written so many times.
use Rattle.std.proofs.Common.{◌≡◌, ◌++◌}
use Rattle.seat_questions.specs.Rooms.{times}
use Rattle.seat_questions.proofs.rooms.put_times.Given as goal

abbrev pub invariant-loop-i : goal.invariant-loop-i
invariant-loop-i l = l.text.items ≡ l.initial.text.items ++ times l.i l.bytes
