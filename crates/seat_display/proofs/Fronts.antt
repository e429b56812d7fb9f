-- Beginnings, as the history tells them and as contracts do.
use Rattle.std.proofs.Common.{List, sym}
use mathlib.Core.List.{IsPrefix}
use Rattle.seat_journal.specs.declared.entry.Entry.{Entry}
use Rattle.seat_rules.specs.Prefixes.{Begins}

pub begins_of : (xs ys : List Entry) → IsPrefix xs ys → Begins xs ys
begins_of xs ys p = record { rest = p.0; is = sym p.1 }
