use Rattle.std.proofs.Common.{◌≡◌, length}
use Rattle.seat_season.specs.Line.{texts}
use Rattle.seat_season.specs.declared.awaits.Awaits.TheVariants.{Nothing}
use Rattle.seat_season.specs.Options.{has_option}
use Rattle.seat_season.proofs.options.has_option.Given as goal

abbrev pub invariant-loop-rest : goal.invariant-loop-rest
invariant-loop-rest l = has_option l.option l.awaits (texts l.rest) ≡ has_option l.option Nothing (texts l.words)

abbrev pub decreases-loop-rest : goal.decreases-loop-rest
decreases-loop-rest l = length l.rest
