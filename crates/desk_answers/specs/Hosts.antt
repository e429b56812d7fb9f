-- An open host and the desk that talks with it.
use Rattle.std.specs.Prelude.{◌≡◌, ◌≤◌, ℕ, All, IsTrue, List, Option}
use Rattle.logbook.specs.Pages.{Book}
use Rattle.airline_base.specs.Days.{IsCenturyDay}
use Rattle.desk_lines.specs.declared.desk.Desk.{Desk}
use Rattle.ssim_flights.specs.declared.flight.Flight.{Flight as Flown}
use Rattle.seat_desk.specs.Loading.{IsGridOf}
use Rattle.seat_display.specs.Faces.{opened, Viewed}
use Rattle.seat_nesting.specs.Nesting.{Ladders}
use Rattle.seat_serving.specs.Served.{Served, IsOnDisk}

-- what contracts see of it: the flights, the desk, its session, and the inventory with its file
pub record Attended (D : Type 0) : Type 0 where
  pub flights : List Flown
  pub session : ℕ
  pub desk : Desk
  pub serving : Served D

-- the inventory is over the legs of these flights, and the desk's lines are a session's
pub record IsAttended (flights served : List Flown) (grid : Ladders) (session : ℕ) (desk : Desk) : Type 0 where
  pub served_is : served ≡ flights
  pub grid_is : IsGridOf flights grid
  pub session_is : (1 ≤ session) × (session ≤ 8)
  pub today_is : IsCenturyDay desk.today

-- it answers, and all its lines are on the disk and told: the file is their text, where it is known, and a crash leaves nothing else
pub record IsReady {D : Type 0} (seen : D → Option (List ℕ)) (leaves : D → List ℕ → Type 0) (unsynced : D → ℕ) (s : Served D)
    : Type 0 where
  pub is_open : IsTrue s.is_open
  pub kept_is : s.kept ≡ s.journal
  pub disk : IsOnDisk s.journal (seen s.tape) (leaves s.tape)
  pub synced : unsynced s.tape ≡ 0

-- viewers of one table over these limits, which have seen nothing
pub record AreViewers (grid : Ladders) (viewers : List Viewed) : Type 0 where
  pub book : Book
  pub each : All (λ v. v ≡ opened book grid) viewers
