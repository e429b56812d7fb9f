-- A host that goes on answering, or fails.
use Rattle.std.specs.Prelude.{◌≡◌, ℕ, false, Option, None, Some, List, ◌==◌, ◌&&◌, if◌then◌else◌, Bool, true, [], ◌∷◌, codes, nat_eq}
use Rattle.std.specs.List.{starts_with}
use Rattle.airline_base.specs.Noting.{noted}
use Rattle.desk_answers.specs.Hosts.{IsReady}
use Rattle.desk_hall.specs.Halls.{Hallful, IsHeardBy, IsOrdered, IsPassed}
use Rattle.seat_disk.specs.Growing.{KeepsFront}
use Rattle.seat_recovery.specs.OpenText.{open_text}
use Rattle.seat_rules.specs.Prefixes.{Begins}
use Rattle.seat_serving.specs.Served.{Served}
use Rattle.seat_serving.specs.declared.serving.ServeFault.{ServeFault}
use Rattle.seat_serving.specs.declared.serving.ServeFault.TheVariants.{Device, Memory as NoMemory}

-- it answers: all its lines are on the disk, what was kept is at their front, and no call of its file failed
pub record GoesOn {D : Type 0} (seen : D → Option (List ℕ)) (leaves : D → List ℕ → Type 0) (unsynced failures : D → ℕ)
    (old new : Served D) : Type 0 where
  pub is_ready : IsReady seen leaves unsynced new
  pub grows : Begins old.kept new.kept
  pub counted : failures new.tape ≡ failures old.tape
  pub grid_is : new.grid ≡ old.grid
  pub cap_is : new.cap ≡ old.cap

-- it does not: what was kept is still there. Where memory was wanting its lines are on the disk, and else a call of its file failed
pub record Fails {D : Type 0} (seen : D → Option (List ℕ)) (leaves : D → List ℕ → Type 0) (unsynced failures : D → ℕ)
    (old new : Served D) (fault : ServeFault) : Type 0 where
  pub grows : Begins old.kept new.kept
  pub told : KeepsFront (open_text old.kept) (leaves new.tape)
  pub memory : fault ≡ NoMemory → IsReady seen leaves unsynced new
  pub device : fault ≡ Device → failures new.tape ≡ noted (failures old.tape)

-- the manager's line, or that of a session's desk, is heard
abbrev pub IsHeardAs : {D : Type 0} → Bool → Bool → Hallful D → Hallful D → ℕ → List ℕ → Bool → Type 0
IsHeardAs true is_earlier old new session line goes = IsOrdered is_earlier old new line goes
IsHeardAs false is_earlier old new session line goes = IsHeardBy old new session line × (goes ≡ true)

-- it counts behind so many lines of it that were answered where they were read
pub record IsHeardBehind {D : Type 0} (is_earlier : Bool) (old new : Hallful D) (session passed : ℕ) (line : List ℕ) (goes : Bool)
    : Type 0 where
  pub mid : Hallful D
  pub is_passed : IsPassed old mid session passed
  pub is_heard : IsHeardAs (session == 0) is_earlier mid new session line goes

-- a word to the host that is no look: it begins with ? and no blank
abbrev pub is_apart : List ℕ → Bool
is_apart [] = false
is_apart (c ∷ []) = false
is_apart (c ∷ d ∷ rest) = (c == 63) && (if d == 32 then false else true)

-- a client says hello
unfoldable pub is_hello : List ℕ → Bool
is_hello line = starts_with nat_eq line (codes "?HELLO ")

-- for a line that says hello its session's client has begun
abbrev pub IsBegunFor : Bool → ℕ → Option ℕ → Type 0
IsBegunFor true session None = ⊥
IsBegunFor true session (Some begun) = begun ≡ session
IsBegunFor false session begun = begun ≡ None
