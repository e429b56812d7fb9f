-- What holds of all that desks are told.
use Rattle.std.specs.Prelude.{◌≡◌, ◌≤◌, ℕ, List, ◌++◌, take, length, Some}
use Rattle.std.specs.List.{AllByRecursion, Contains}
use Rattle.ssim_flights.specs.declared.flight.Flight.{Flight as Flown}
use Rattle.seat_journal.specs.declared.entry.Advice.{Advice}
use Rattle.seat_journal.specs.declared.entry.Command.{Command}
use Rattle.seat_journal.specs.declared.entry.Entry.{Entry}
use Rattle.seat_journal.specs.declared.entry.Work.TheVariants.{Seats}
use Rattle.desk_telling.specs.Telling.{AreTold, Advised, Replied, Telling, line_numbered, told_behind, told_of, told_of_each}

-- the command made the booking of an advice, and was asked by a line of the desk's session
pub record IsOwnBooking (journal : List Entry) (desk : ℕ) (a : Advice) (c : Command) : Type 0 where
  pub line : Entry
  pub numbered : line_numbered journal a.number ≡ Some line
  pub asked : line.work ≡ Seats c
  pub own : line.session ≡ desk

-- the reply is that to this line, which the desk asked for; or the advice is one of this line, and its booking the desk's
abbrev pub IsOwn : List Entry → ℕ → Entry → Telling → Type 0
IsOwn journal desk e (Replied line) = (line ≡ e) × (e.session ≡ desk)
IsOwn journal desk e (Advised line a c) = (line ≡ e) × Contains e.advices a × IsOwnBooking journal desk a c

-- a desk sees its own replies and advices alone
abbrev pub OwnIsTold : Type 0
OwnIsTold = (journal : List Entry) (desk : ℕ) (e : Entry) →
    AllByRecursion (IsOwn journal desk e) (told_of journal desk e)

-- what is told of a journal is what is told of its first n lines, and then what is told behind them
abbrev pub ToldGoesOn : Type 0
ToldGoesOn = (flights : List Flown) (journal : List Entry) (desk n : ℕ) (front rest : List ℕ) →
    AreTold flights desk (told_of_each journal desk (take n journal)) front
    → AreTold flights desk (told_behind journal desk n) rest
    → AreTold flights desk (told_of_each journal desk journal) (front ++ rest)

-- and what is told of lines whose bookings are there stays as it is when more lines are added
abbrev pub ToldStays : Type 0
ToldStays = (journal more : List Entry) (desk : ℕ) (e : Entry) →
    AllByRecursion (λ (a : Advice). a.number ≤ length journal) e.advices
    → told_of (journal ++ more) desk e ≡ told_of journal desk e
