-- None so far goes where its class is not sold.
use Rattle.std.proofs.Common.{◌≡◌, drop}
use Rattle.carry_protections.specs.Refusing.{lacking}
use Rattle.carry_protections.proofs.refusing.lacking.Given as goal

abbrev pub invariant-loop-booking : goal.invariant-loop-booking
invariant-loop-booking l = lacking l.courses l.journal l.flights l.new l.today l.file l.live ≡ lacking l.courses l.journal l.flights l.new l.today l.file (drop l.booking-index l.live)
