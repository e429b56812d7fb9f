-- The printed text of a refused line of a partner's list.
use Rattle.std.specs.Prelude.{ℕ, List, ◌++◌, codes}
use Rattle.std.specs.Fmt.{decimal}
use Rattle.airimp_lines.specs.FaultText.{line_code}
use Rattle.partner_lists.specs.declared.fault.PartnerKind.{PartnerKind}
use Rattle.partner_lists.specs.declared.fault.PartnerKind.TheVariants as kinds
use Rattle.partner_lists.specs.declared.fault.PartnerFault.{PartnerFault}

abbrev pub kind_text : PartnerKind → List ℕ
kind_text kinds.Locator = codes "T1"
kind_text (kinds.Line fault) = codes "T2 " ++ line_code fault
kind_text kinds.Status = codes "T3"
kind_text kinds.Twice = codes "T4"
kind_text kinds.Memory = codes "MEMORY"

-- the kind, a blank and the line
abbrev pub fault_text : PartnerFault → List ℕ
fault_text f = kind_text f.kind ++ codes " " ++ decimal f.line
