use Rattle.std.proofs.Common.{◌≡◌, length}
use Rattle.seat_season.specs.Line.{texts}
use Rattle.seat_season.specs.declared.awaits.Awaits.TheVariants.{Nothing}
use Rattle.seat_season.specs.Options.{season_from}
use Rattle.seat_season.proofs.options.season_behind.Given as goal

abbrev pub invariant-loop-rest : goal.invariant-loop-rest
invariant-loop-rest l = season_from l.awaits (texts l.rest) ≡ season_from Nothing (texts l.words)

abbrev pub decreases-loop-rest : goal.decreases-loop-rest
decreases-loop-rest l = length l.rest
