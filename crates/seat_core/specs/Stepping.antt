-- What a step leaves, once the line that it lends is given back.
use Rattle.std.specs.Prelude.{ℕ, Result, MatchResult, ⊤}
use Rattle.std.specs.Borrow.{follows_so, Fml, Bor, MutBor}
use mathlib.Core.Option.{none}
use Rattle.seat_journal.specs.declared.entry.Work.{Work}
use Rattle.seat_journal.specs.declared.entry.Entry.{Entry}
use Rattle.seat_rules.specs.Inventory.{Inventory, HasLine, IsCommitted, IsUnchanged}
use Rattle.seat_core.specs.contracts.inventory.Core.{the_row}

-- one more line where it is Ok, and else nothing
abbrev pub GivesLine : {E : Type 0} → MutBor Inventory → ℕ → ℕ → Work → Result (Bor Entry) E → Fml
GivesLine core session call work result =
    follows_so the_row the_row core.ghost_name none (λ _ _. ⊤)
    (λ n. MatchResult result (λ _. HasLine core.now n session call work) (λ _. IsUnchanged core.now n))

-- one more line
abbrev pub Commits : MutBor Inventory → Entry → Fml
Commits core line = follows_so the_row the_row core.ghost_name none (λ _ _. ⊤) (λ n. IsCommitted core.now n line)
