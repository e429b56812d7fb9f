-- One look at a text.
use Rattle.std.specs.Prelude.{◌≤◌, ℕ, List, length, take}
use Rattle.seat_seal.specs.Imprints.{HasTaken}
use Rattle.booked_texts.specs.declared.beginning.Beginning.{Beginning}

-- it has taken so many of the text's first bytes
pub record IsAt (beginning : Beginning) (text : List ℕ) : Type 0 where
  pub within : beginning.count ≤ length text
  pub taken : HasTaken beginning.tally (take beginning.count text)
