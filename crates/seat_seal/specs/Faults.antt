-- The printed text of a seal's fault.
use Rattle.std.specs.Prelude.{ℕ, List, codes}
use Rattle.seat_seal.specs.declared.comparing.SealFault.{SealFault}
use Rattle.seat_seal.specs.declared.comparing.SealFault.TheVariants as faults

abbrev pub words_of : SealFault → List ℕ
words_of faults.Missing = codes "SEAL none"
words_of faults.Form = codes "SEAL form"
words_of faults.Set = codes "SEAL set"
words_of faults.Limits = codes "SEAL limits"
words_of faults.First = codes "SEAL first"
words_of faults.Days = codes "SEAL days"
words_of faults.Journal = codes "SEAL journal"
words_of faults.Again = codes "SEAL again"
words_of faults.Behind = codes "SEAL behind"
words_of faults.Several = codes "SEAL runs"
words_of faults.Carried = codes "SEAL carried"
