-- The bytes so far are led.
use Rattle.desk_stream.proofs.Leading.{IsLedSoFar}
use Rattle.desk_stream.proofs.telling.led.Given as goal

abbrev pub invariant-loop-byte : goal.invariant-loop-byte
invariant-loop-byte l = IsLedSoFar l.session l.begins l.byte-index l.lines l.text.items
