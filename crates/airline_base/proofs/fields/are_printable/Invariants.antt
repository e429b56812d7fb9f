use Rattle.std.proofs.Common.{◌≡◌, take}
use Rattle.std.specs.List.{list_all}
use Rattle.airline_base.specs.Bytes.{is_printable}
use Rattle.airline_base.proofs.fields.are_printable.Given as goal

abbrev pub invariant-loop-c : goal.invariant-loop-c
invariant-loop-c l = l.all ≡ list_all is_printable (take l.c-index l.text)
