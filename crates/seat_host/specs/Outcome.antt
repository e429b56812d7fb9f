-- What a host comes to, with receipts as the numbers of their lines.
use Rattle.std.specs.Prelude.{ℕ, Option, None, Some, IsSome, List, [], ◌∷◌}
use Rattle.std.specs.List.{AllByRecursion}
use Rattle.seat_journal.specs.declared.entry.Entry.{Entry}
use Rattle.seat_rules.specs.declared.totals.Totals.{Totals}
use Rattle.seat_rules.specs.Agreement.{nth}

-- its lines, what they come to, and the receipts of the manager, of session 1, and so on
pub record Outcome : Type 0 where
  pub journal : List Entry
  pub totals : Totals
  pub receipts : List (List Entry)

abbrev pub with_found : Option Entry → List Entry → List Entry
with_found None lines = lines
with_found (Some line) lines = line ∷ lines

-- the lines of these numbers
abbrev pub lines_at : List Entry → List ℕ → List Entry
lines_at journal [] = []
lines_at journal (number ∷ numbers) = with_found (nth journal number) (lines_at journal numbers)

-- each of these is the number of a line
abbrev pub AreLines : List Entry → List ℕ → Type 0
AreLines journal numbers = AllByRecursion (λ (number : ℕ). IsSome (nth journal number)) numbers
