-- The texts of a desk's faults.
use Rattle.std.specs.Prelude.{ℕ, List, codes}
use Rattle.airimp_lines.specs.FaultText.{kind_text}
use Rattle.desk_lines.specs.declared.desk.Wrong.{Wrong}
use Rattle.desk_lines.specs.declared.desk.Wrong.TheVariants as faults

-- a line is too long, is no word to the host, has the number of another call or of none, comes ahead of a hello, has a number that is another
-- journal's, or is a wrong line of a message
abbrev pub wrong_text : Wrong → List ℕ
wrong_text faults.TooLong = codes "H1"
wrong_text faults.Word = codes "H2"
wrong_text faults.Other = codes "H3"
wrong_text faults.Beyond = codes "H4"
wrong_text faults.NoHello = codes "H5"
wrong_text faults.Epoch = codes "H6"
wrong_text (faults.Line kind) = kind_text kind
