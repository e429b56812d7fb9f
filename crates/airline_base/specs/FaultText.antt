-- The printed text of what is refused.
use Rattle.std.specs.Prelude.{ℕ, List, codes}
use Rattle.airline_base.specs.declared.reading.ReadFault.{ReadFault}
use Rattle.airline_base.specs.declared.reading.ReadFault.TheVariants as reads

abbrev pub read_code_of : ReadFault → List ℕ
read_code_of reads.Device = codes "R1"
read_code_of reads.TooLarge = codes "R2"
read_code_of reads.Memory = codes "R3"
