-- Journals of hosts that have different flights, and one journal of all their lines.
use Rattle.std.specs.Prelude.{◌≡◌, ◌≢◌, ◌==◌, ℕ, ◌+◌, ◌-◌, ◌≤◌, false, List, [], ◌∷◌, ◌++◌, filter, length, map, if◌then◌else◌}
use Rattle.std.specs.List.{slice_index_or}
use Rattle.seat_nesting.specs.Nesting.{Ladders}
use Rattle.seat_journal.specs.declared.entry.Entry.{Entry}
use Rattle.seat_rules.specs.Flights.{line_anew}
use Rattle.seat_rules.specs.Journal.{IsLegal}
use Rattle.seat_parts.specs.OwnLines.{of_flight}

-- a journal of these, counted from 0; one beyond the last has no line
abbrev pub journal_at : List (List Entry) → ℕ → List Entry
journal_at journals i = slice_index_or journals i []

-- no two have a line of one flight
pub record AreApart (journals : List (List Entry)) : Type 0 where
  pub each : (a b flight : ℕ) → (a == b) ≡ false → of_flight flight (journal_at journals a) ≢ []
      → of_flight flight (journal_at journals b) ≡ []

-- each is a legal history over the limits, of at most `cap` lines, and no two have a line of one flight
pub record AreShards (grid : Ladders) (cap : ℕ) (journals : List (List Entry)) : Type 0 where
  pub legal : (i : ℕ) → IsLegal grid (journal_at journals i)
  pub few : (i : ℕ) → length (journal_at journals i) ≤ cap
  pub apart : AreApart journals

-- a line, and of which journal it is
pub record Tagged : Type 0 where
  pub shard : ℕ
  pub line : Entry

-- the lines of one journal, in order
abbrev pub lines_of : ℕ → List Tagged → List Entry
lines_of shard mix = map (λ t. t.line) (filter (λ t. t.shard == shard) mix)

-- all lines of the journals, those of each in its own order
pub record IsMix (journals : List (List Entry)) (mix : List Tagged) : Type 0 where
  pub each : (shard : ℕ) → lines_of shard mix ≡ journal_at journals shard

-- where line n of a journal stands in the mix, both counted from 1
abbrev pub place_in : List Tagged → ℕ → ℕ → ℕ
place_in [] shard n = 0
place_in (t ∷ mix) shard n =
    (if t.shard == shard then (if n == 1 then 1 else place_in mix shard (n - 1) + 1) else place_in mix shard n + 1)

-- these lines, and after them the mixed ones, with lines, calls and the booking numbers of advices counted anew
abbrev pub merged_after : (ℕ → ℕ → ℕ) → List Entry → List Tagged → List Entry
merged_after anew done [] = done
merged_after anew done (t ∷ mix) = merged_after anew (done ++ line_anew (anew t.shard) done t.line ∷ []) mix

-- the mixed lines as one journal
abbrev pub merged : List Tagged → List Entry
merged mix = merged_after (place_in mix) [] mix
