-- Journals of hosts that have different flights, one behind the other, as one journal.
use Rattle.std.specs.Prelude.{◌≡◌, ℕ, ◌+◌, ◌<◌, List, [], ◌∷◌, ◌++◌, length, map}
use Rattle.seat_nesting.specs.Nesting.{Ladders}
use Rattle.seat_journal.specs.declared.entry.Entry.{Entry}
use Rattle.seat_desk.specs.AuditDesk.{most_lines}
use Rattle.seat_shards.specs.Shards.{AreShards, Tagged, merged}
use Rattle.seat_shards.specs.Taking.{AreTexts}

-- a line of the journal at this place, counted from 0
abbrev pub tagged : ℕ → Entry → Tagged
tagged place e = record { shard = place; line = e }

-- the lines of the first journal and then those of the next ones, where the first of them is at this place
abbrev pub in_turn_from : ℕ → List (List Entry) → List Tagged
in_turn_from place [] = []
in_turn_from place (journal ∷ journals) = map (tagged place) journal ++ in_turn_from (place + 1) journals

abbrev pub in_turn : List (List Entry) → List Tagged
in_turn journals = in_turn_from 0 journals

-- one journal of all their lines, in turn, with lines, calls and the booking numbers of advices counted anew
abbrev pub joined : List (List Entry) → List Entry
joined journals = merged (in_turn journals)

-- the texts are those of legal histories over these limits, no two of which have a line of one flight, and these are their lines, in turn
pub record AreJoined (grid : Ladders) (texts : List (List ℕ)) (lines : List Entry) : Type 0 where
  pub journals : List (List Entry)
  pub are_texts : AreTexts texts journals
  pub shards : AreShards grid most_lines journals
  pub is : lines ≡ joined journals

-- so many lines are ahead of a journal's, and the one on this line of its text is the first for which one journal of all has no room: the
-- text begins with a line of its own
pub record IsBeyond (before : ℕ) (entries : List Entry) (line : ℕ) : Type 0 where
  pub ahead : ℕ
  pub more : ahead < length entries
  pub full : before + ahead ≡ most_lines
  pub is : line ≡ ahead + 2
