-- The laws of journals of hosts that have different flights.
use Rattle.std.specs.Prelude.{◌≡◌, ℕ, List, length}
use Rattle.std.specs.List.{sum_by}
use Rattle.seat_nesting.specs.Nesting.{Ladders}
use Rattle.seat_journal.specs.declared.entry.Entry.{Entry}
use Rattle.seat_rules.specs.Journal.{IsLegal}
use Rattle.seat_rules.specs.Totals.{totals_of}
use Rattle.seat_rules.specs.Agreement.{totals_in}
use Rattle.seat_shards.specs.Shards.{AreShards, IsMix, Tagged, merged}

-- lines of hosts that have different flights, in one journal that keeps the order of each host's, are a legal history, as long as theirs are together
abbrev pub MergedIsLegal : Type 0
MergedIsLegal = (grid : Ladders) (cap : ℕ) (journals : List (List Entry)) (mix : List Tagged) → AreShards grid cap journals
    → IsMix journals mix
    → IsLegal grid (merged mix) × (length (merged mix) ≡ sum_by (λ (journal : List Entry). length journal) journals)

-- and its totals are the sums of theirs
abbrev pub MergedTotals : Type 0
MergedTotals = (journals : List (List Entry)) (mix : List Tagged) → IsMix journals mix
    → totals_of (merged mix) ≡ totals_in journals
