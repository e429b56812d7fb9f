-- Journals taken one behind the other, whose requests one host answers once more.
use Rattle.std.specs.Prelude.{◌≡◌, ◌⊎◌, ℕ, ◌+◌, List, [], ◌∷◌, ◌++◌, length, Option, IfSome}
use Rattle.seat_nesting.specs.Nesting.{Ladders}
use Rattle.seat_journal.specs.declared.entry.Entry.{Entry}
use Rattle.seat_rules.specs.Journal.{calls_of, next_line}
use Rattle.seat_desk.specs.declared.fault.DeskFault.TheVariants.{Full}
use Rattle.seat_shards.specs.declared.fault.ShardFault.{ShardFault}
use Rattle.seat_shards.specs.declared.fault.ShardFault.TheVariants.{Journal}
use Rattle.taken_journals.specs.declared.taken.Taken.{Taken}
use Rattle.seat_shards.specs.Taking.{IsTakenWith, IsTextOf, RefusesMore}
use Rattle.shard_questions.specs.Joined.{IsBeyond}

-- what a line asks for, as the next line after these
abbrev pub once_more : Ladders → List Entry → Entry → Entry
once_more grid done e = next_line grid done e.session (calls_of done e.session + 1) e.work

-- these lines, and after them what those ask for, one by one
abbrev pub carried : Ladders → List Entry → List Entry → List Entry
carried grid done [] = done
carried grid done (e ∷ es) = carried grid (done ++ once_more grid done e ∷ []) es

-- the lines of a text are carried out behind these
pub record IsCarriedTo (grid : Ladders) (done next : List Entry) (text : List ℕ) : Type 0 where
  pub entries : List Entry
  pub is_text : IsTextOf text entries
  pub is : next ≡ carried grid done entries

-- behind so many lines a line of the journal at this place is the first for which there is no room
pub record IsCarriedFull (place before : ℕ) (entries : List Entry) (fault : ShardFault) : Type 0 where
  pub line : ℕ
  pub beyond : IsBeyond before entries line
  pub is : fault ≡ Journal place (Full line)

-- and the lines are those of a text
pub record IsFullAt (place : ℕ) (done : List Entry) (fault : ShardFault) (text : List ℕ) : Type 0 where
  pub entries : List Entry
  pub is_text : IsTextOf text entries
  pub full : IsCarriedFull place (length done) entries fault

-- all are carried out, one behind the other, where their bytes are known
abbrev pub JoinedOn : Ladders → List (Option (List ℕ)) → List Entry → List Entry → Type 0
JoinedOn grid [] old new = new ≡ old
JoinedOn grid (text ∷ texts) old new =
    (mid : List Entry) × IfSome text (IsCarriedTo grid old mid) × JoinedOn grid texts mid new

pub record AreJoinedOn (grid : Ladders) (texts : List (Option (List ℕ))) (old new : List Entry) : Type 0 where
  pub each : JoinedOn grid texts old new

-- those before the first that is refused, or has no room, are taken and carried out
abbrev pub StoppedOn : Ladders → List (Option (List ℕ)) → Taken → List Entry → ShardFault → Type 0
StoppedOn grid [] old done fault = ⊥
StoppedOn grid (text ∷ texts) old done fault =
    IfSome text (RefusesMore grid old fault)
    ⊎ (((mid : Taken) × IfSome text (IsTakenWith grid old mid) × IfSome text (IsFullAt mid.count done fault))
    ⊎ ((mid : Taken) × (next : List Entry) × IfSome text (IsTakenWith grid old mid) × IfSome text (IsCarriedTo grid done next)
    × StoppedOn grid texts mid next fault))

pub record IsStoppedOn (grid : Ladders) (texts : List (Option (List ℕ))) (old : Taken) (done : List Entry) (fault : ShardFault) : Type 0 where
  pub first : StoppedOn grid texts old done fault
