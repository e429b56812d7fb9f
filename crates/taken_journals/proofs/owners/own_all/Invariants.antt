use Rattle.std.proofs.Common.{◌≡◌, length, take}
use Rattle.taken_journals.specs.Owners.{OwnsToo}
use Rattle.taken_journals.proofs.owners.own_all.Given as goal

abbrev pub invariant-loop-entry : goal.invariant-loop-entry
invariant-loop-entry l =
    OwnsToo l.place l.fn.owners.items l.owners.items (take l.entry-index l.entries)
    × (length l.owners.items ≡ length l.fn.owners.items)
