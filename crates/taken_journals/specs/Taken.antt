-- Journals of hosts that have different flights, taken one behind the other, and what they come to together.
use Rattle.std.specs.Prelude.{◌≡◌, ◌≤◌, ◌⊎◌, ◌^◌, ℕ, ◌+◌, List, [], length, None, Some}
use Rattle.seat_journal.specs.declared.entry.Entry.{Entry}
use Rattle.seat_rules.specs.Agreement.{totals_in}
use Rattle.seat_rules.specs.declared.totals.Totals.{Totals}
use Rattle.taken_journals.specs.declared.taken.NotTaken.{NotTaken}
use Rattle.taken_journals.specs.declared.taken.NotTaken.TheVariants.{Beyond, Shared}
use Rattle.taken_journals.specs.declared.taken.Taken.{Taken}
use Rattle.taken_journals.specs.Owners.{first_owned, OwnsNone, OwnsToo}

-- so many flights have a place among those that journals have
pub record HasPlaces (flights : ℕ) (taken : Taken) : Type 0 where
  pub enough : flights ≤ length taken.owners.items

-- no journal is taken yet
pub record IsNone (taken : Taken) : Type 0 where
  pub owners : OwnsNone taken.owners.items
  pub count : taken.count ≡ 0
  pub totals : taken.totals ≡ totals_in []

abbrev pub both_of : Totals → Totals → Totals
both_of a b = record { lines = a.lines + b.lines; confirmed = a.confirmed + b.confirmed; released = a.released + b.released }

-- one of the sums is beyond its type
abbrev pub HasNoSum : Totals → Totals → Type 0
HasNoSum a b = (2 ^ 32 ≤ a.lines + b.lines) ⊎ ((2 ^ 64 ≤ a.confirmed + b.confirmed) ⊎ (2 ^ 64 ≤ a.released + b.released))

-- one journal more is taken: these lines, none on a flight of the others, which come to this
pub record TakesToo (old new : Taken) (entries : List Entry) (own : Totals) : Type 0 where
  pub apart : first_owned old.owners.items entries ≡ None
  pub owners : OwnsToo (old.count + 1) old.owners.items new.owners.items entries
  pub long : length new.owners.items ≡ length old.owners.items
  pub count : new.count ≡ old.count + 1
  pub sums : new.totals ≡ both_of old.totals own

-- it is not: its first line on a flight of the others is this one, or there is none, and the sums are beyond their types
abbrev pub IsNotTaken : Taken → List Entry → Totals → NotTaken → Type 0
IsNotTaken taken entries own (Shared number other) = first_owned taken.owners.items entries ≡ Some (number, other)
IsNotTaken taken entries own Beyond = (first_owned taken.owners.items entries ≡ None) × HasNoSum taken.totals own
