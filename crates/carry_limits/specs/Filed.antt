-- Where the file's limits of a leg are wanted as they are, and where they have room as they are.
use Rattle.std.specs.Prelude.{◌≡◌, ◌≤◌, ◌==◌, ◌&&◌, ℕ, Bool, true, false, List, [], ◌∷◌, Option, Some, None, flat_map}
use Rattle.std.specs.List.{list_any}
use Rattle.airline_base.specs.declared.place.Place.{Place}
use Rattle.seat_journal.specs.declared.entry.Entry.{Entry}
use Rattle.seat_journal.specs.declared.entry.Work.{Work}
use Rattle.seat_journal.specs.declared.entry.Work.TheVariants.{Limit, Sale, Seats}
use Rattle.seat_nesting.specs.Nesting.{ByClass, Ladders, Steps, held_from, ladder_at}
use Rattle.seat_nesting.specs.declared.ladder.Step.{Step}
use Rattle.seat_rules.specs.Inventory.{Inventory, state_now}
use Rattle.seat_rules.specs.Sequential.{State}
use Rattle.limit_changes.specs.Laws.{AreLadders}
use Rattle.limit_changes.specs.Rows.{cuts_of, raises_of}
use Rattle.limit_changes.specs.declared.legs.NamedLeg.{NamedLeg}

-- ---- limits that a journal doesn't change

-- a line that sets a limit
abbrev pub is_limit : Work → Bool
is_limit (Seats c) = false
is_limit (Limit c) = true
is_limit (Sale c) = false

abbrev pub sets_limits : List Entry → Bool
sets_limits journal = list_any (λ e. is_limit e.work) journal

-- the same class, with the same limit and the same wait
abbrev pub same_limit : Step → Step → Bool
same_limit a b = (a.class == b.class) && ((a.limit == b.limit) && (a.wait == b.wait))

-- the same classes in the same order, each with the same limit and the same wait
abbrev pub same_limits : Steps → Steps → Bool
same_limits [] [] = true
same_limits [] (b ∷ others) = false
same_limits (a ∷ steps) [] = false
same_limits (a ∷ steps) (b ∷ others) = same_limit a b && same_limits steps others

-- each leg has the limits now that it had when the journal began
pub record AreAsBegun (before : Inventory) : Type 0 where
  pub each : (flight leg : ℕ) → same_limits (ladder_at before.grid flight leg) (ladder_at (state_now before).grid flight leg) ≡ true

-- this leg has, where there is one
pub record IsAsBegun (before : Inventory) (old : Option Place) : Type 0 where
  pub each : (p : Place) → old ≡ Some p
      → same_limits (ladder_at before.grid p.flight p.from) (ladder_at (state_now before).grid p.flight p.from) ≡ true

-- what is found is this leg; where nothing is, the leg has the limits now that it had when the journal began, or is none
pub record IsChanged (before : Inventory) (old found : Option Place) : Type 0 where
  pub is : (p : Place) → found ≡ Some p → old ≡ Some p
  pub kept : found ≡ None → IsAsBegun before old

-- ---- limits with room

-- each rank has room for what is held in it and below it, and for what waits in it
abbrev pub HaveRoom : ByClass → ByClass → Steps → Type 0
HaveRoom seats waits [] = Unit {0}
HaveRoom seats waits (s ∷ lower) =
    (held_from seats (s ∷ lower) ≤ s.limit) × (waits s.class ≤ s.wait) × HaveRoom seats waits lower

pub record IsRoomy (steps : Steps) (seats waits : ByClass) : Type 0 where
  pub rooms : HaveRoom seats waits steps

-- the same, and so many seats are held in all ranks
pub record HoldsRoomy (steps : Steps) (seats waits : ByClass) (count : ℕ) : Type 0 where
  pub held : count ≡ held_from seats steps
  pub rooms : HaveRoom seats waits steps

-- ---- legs that are left out

-- each leg has a ladder or none
pub record IsNested (grid : Ladders) : Type 0 where
  pub ladders : AreLadders grid

-- these legs have the rows of all of them
pub record HaveRowsOf (wanted : Ladders) (s : State) (legs all : List NamedLeg) : Type 0 where
  pub cuts : flat_map (cuts_of wanted s) legs ≡ flat_map (cuts_of wanted s) all
  pub raises : flat_map (raises_of wanted s) legs ≡ flat_map (raises_of wanted s) all
