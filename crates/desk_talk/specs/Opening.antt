-- A host that opens over the journal that a file has.
use Rattle.std.specs.Prelude.{◌≡◌, ◌⊎◌, ℕ, false, Option, List, length, drop}
use Rattle.desk_lines.specs.declared.desk.Standing.TheVariants.{Between}
use Rattle.ssim_flights.specs.declared.flight.Flight.{Flight as Flown}
use Rattle.seat_nesting.specs.Nesting.{Ladders}
use Rattle.seat_journal.specs.declared.entry.Entry.{Entry}
use Rattle.seat_recovery.specs.OpenText.{open_text}
use Rattle.seat_recovery.specs.declared.rest.Rest.{Rest}
use Rattle.seat_recovery.specs.Recovering.{IsRecovered}
use Rattle.seat_serving.specs.GoingOn.{GoesAside, StoodBehind}
use Rattle.seat_seal.specs.declared.beside.Basis.{Basis}
use Rattle.seat_seal.specs.declared.beside.Beside.{Beside}
use Rattle.seat_seal.specs.declared.seal.JournalState.TheVariants.{Open}
use Rattle.seat_desk.specs.AuditDesk.{most_lines}
use Rattle.seat_restoring.specs.Restoring.{HasLongTail}
use Rattle.seat_restoring.specs.Sealing.{HasNoSeal}
use Rattle.desk_answers.specs.Hosts.{Attended}

-- over these flights and limits, for session 1, whose desk has said nothing on this day, and whose client is for this journal
pub record IsOpened {D : Type 0} (flights : List Flown) (grid : Ladders) (cap today : ℕ) (host : Attended D) : Type 0 where
  pub flights_are : host.flights ≡ flights
  pub session_is : host.session ≡ 1
  pub today_is : host.desk.today ≡ today
  pub standing_is : host.desk.standing ≡ Between
  pub lines_are : host.desk.lines ≡ 0
  pub client_is : host.desk.is_stranger ≡ false
  pub grid_is : host.serving.grid ≡ grid
  pub cap_is : host.serving.cap ≡ cap

-- what stood behind these lines might be cut with nobody's word; a torn tail is kept in the file beside, and else nothing is
pub record IsCutTo {B : Type 0} (seen : B → Option (List ℕ)) (leaves : B → List ℕ → Type 0) (unsynced : B → ℕ) (grid : Ladders) (cap : ℕ)
    (file : List ℕ) (kept : List Entry) (old new : B) : Type 0 where
  pub rest : Rest
  pub behind : StoodBehind grid cap file false kept rest
  pub aside : GoesAside seen leaves unsynced old new rest (drop (length (open_text kept)) file)

-- the longest journal that the file begins with is one of which no seal may have the entry
pub record HasNoEntry (grid : Ladders) (beside : Beside) (basis : Basis) (file : List ℕ) : Type 0 where
  pub journal : List Entry
  pub recovered : IsRecovered grid most_lines file journal
  pub no_seal : HasNoSeal Open beside basis file journal

-- or a longer tail stands behind it than a group has
abbrev pub IsTooLong : Ladders → Beside → Basis → List ℕ → Type 0
IsTooLong grid beside basis file = HasLongTail grid false file ⊎ HasNoEntry grid beside basis file
