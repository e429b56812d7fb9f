use Rattle.std.proofs.Common.{◌≡◌, length}
use Rattle.std.proofs.Common.{◌++◌}
use Rattle.toml.specs.View.{items_view}
use Rattle.seat_season.specs.Line.{texts}
use Rattle.seat_season.specs.Words.{renamed_by, words_texts}
use Rattle.seat_season.specs.declared.awaits.Awaits.TheVariants.{Nothing}
use Rattle.seat_season.proofs.words.put_renamed.Given as goal

abbrev pub invariant-loop-rest : goal.invariant-loop-rest
invariant-loop-rest l = words_texts l.words ++ renamed_by (items_view l.names) l.awaits (texts l.rest) ≡ words_texts l.fn.words ++ renamed_by (items_view l.names) Nothing (texts l.behind)

abbrev pub decreases-loop-rest : goal.decreases-loop-rest
decreases-loop-rest l = length l.rest
