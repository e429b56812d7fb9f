-- The printed text of a refused ladder.
use Rattle.std.specs.Prelude.{ℕ, List, codes}
use Rattle.seat_nesting.specs.declared.ladder.LadderFault.{LadderFault}
use Rattle.seat_nesting.specs.declared.ladder.LadderFault.TheVariants as faults

abbrev pub ladder_code : LadderFault → List ℕ
ladder_code faults.Empty = codes "L1"
ladder_code faults.RepeatedClass = codes "L2"
ladder_code faults.Rising = codes "L3"
ladder_code faults.TooLarge = codes "L4"
