-- Limits lifted to what is held: a booking limit is a decision of sale, and no one who holds a seat is put out by it.
use Rattle.std.specs.Prelude.{◌≡◌, ◌≤◌, ◌==◌, ◌&&◌, ℕ, min, max, true, [], ◌∷◌, Option, Some, None, if◌then◌else◌}
use Rattle.seat_nesting.specs.declared.ladder.Step.{Step}
use Rattle.seat_nesting.specs.Nesting.{ByClass, IsNotRising, IsWithin, Steps, has_class, held_from}
use Rattle.seat_nesting.specs.Changing.{step_of}
use Rattle.seat_carrying.specs.Carrying.{wait_of}

-- the limit of the highest rank: in a file of limits the authorised seats of the leg
abbrev pub top_of : Steps → ℕ
top_of [] = 0
top_of (s ∷ lower) = s.limit

-- ---- what is wanted

-- what a journal's changes set of a class: its limit and its wait at the end, where they are not those at the beginning
abbrev pub changed_step : Option Step → Option Step → Option Step
changed_step None now = None
changed_step (Some begun) None = None
changed_step (Some begun) (Some now) = (if (begun.limit == now.limit) && (begun.wait == now.wait) then None else Some now)

abbrev pub with_change : Option Step → Step → Step
with_change None s = s
with_change (Some now) s = record s { limit = now.limit; wait = now.wait }

-- a step of the new file with what was set of its class, under a limit
abbrev pub step_wanted : ℕ → Steps → Steps → Step → Step
step_wanted most begun now s =
    let set = with_change (changed_step (step_of begun s.class) (step_of now s.class)) s in
    record set { limit = min set.limit most }

-- each limit is brought under the one above it, the highest under so many seats
abbrev pub wanted_under : ℕ → Steps → Steps → Steps → Steps
wanted_under most begun now [] = []
wanted_under most begun now (s ∷ lower) =
    step_wanted most begun now s ∷ wanted_under (step_wanted most begun now s).limit begun now lower

-- the new file's limits, with what the old journal's changes set of classes that are still there
abbrev pub wanted : Steps → Steps → Steps → Steps
wanted file begun now = wanted_under (top_of file) begun now file

-- ---- what is lifted

-- a rank that has room for what is held in it and below it, as far as the leg has seats, and for what waits in it
abbrev pub lifted_step : ℕ → ByClass → ByClass → Steps → Step → Step
lifted_step top seats waits lower s = record s {
  limit = min top (max s.limit (held_from seats (s ∷ lower)));
  wait = min 999 (max s.wait (waits s.class));
}

-- each rank of the wanted limits of a leg that has so many seats
abbrev pub lifted : ℕ → ByClass → ByClass → Steps → Steps
lifted top seats waits [] = []
lifted top seats waits (s ∷ lower) = lifted_step top seats waits lower s ∷ lifted top seats waits lower

-- each limit and each wait is no less than it was
abbrev pub IsNoLess : Steps → Steps → Type 0
IsNoLess [] new = new ≡ []
IsNoLess (s ∷ lower) [] = ⊥
IsNoLess (s ∷ lower) (t ∷ new) = (t.class ≡ s.class) × (s.limit ≤ t.limit) × (s.wait ≤ t.wait) × IsNoLess lower new

-- the new limits nest, have room for all that is held and all that waits, and take nothing from the wanted ones
pub record HasRoomAt (steps new : Steps) (seats waits : ByClass) : Type 0 where
  pub within : IsWithin new seats
  pub not_rising : IsNotRising new
  pub waits_there : (class : ℕ) → has_class steps class ≡ true → waits class ≤ wait_of new class
  pub no_less : IsNoLess steps new
