-- A desk that is told the journal again, piece by piece.
use Rattle.std.specs.Prelude.{◌≡◌, ◌≤◌, ℕ, ◌+◌, ◌-◌, min, nat_lt, List, [], ◌∷◌, ◌++◌, take, drop, length, set, slice_get, Option, Some, None, if◌then◌else◌}
use Rattle.std.specs.List.{AllByRecursion}
use Rattle.desk_lines.specs.declared.desk.Meaning.{Meaning}
use Rattle.desk_lines.specs.declared.desk.Meaning.TheVariants.{Again}
use Rattle.desk_hall.specs.declared.backlog.Asking.{Asking}
use Rattle.desk_hall.specs.declared.turn.Turn.{Turn}
use Rattle.desk_hall.specs.declared.turn.Turn.TheVariants.{Quiet}
use Rattle.desk_telling.specs.Telling.{AreTold, Telling, told_behind, told_of_each}
use Rattle.seat_journal.specs.declared.entry.Advice.{Advice}
use Rattle.seat_journal.specs.declared.entry.Entry.{Entry}
use Rattle.ssim_flights.specs.declared.flight.Flight.{Flight as Flown}

-- ---- what is told

-- the lines of a journal behind so many, up to the one of this number
abbrev pub lines_between : List Entry → ℕ → ℕ → List Entry
lines_between journal from upto = take (upto - from) (drop from journal)

-- what a desk is told of them
abbrev pub told_between : List Entry → ℕ → ℕ → ℕ → List Telling
told_between journal session from upto = told_of_each journal session (lines_between journal from upto)

-- up to where a piece goes of so many lines at most
abbrev pub piece_end : ℕ → ℕ → ℕ → ℕ
piece_end from most lines = from + min most (lines - from)

-- ---- who is

-- from where a session's desk, or the manager, is still to be told again, where it is
abbrev pub backlog_at : Option (Option ℕ) → Option ℕ
backlog_at None = None
backlog_at (Some backlog) = backlog

abbrev pub backlog_of : List (Option ℕ) → ℕ → Option ℕ
backlog_of backlogs session = backlog_at (slice_get backlogs session)

-- and behind a piece: up to the last line of the journal
abbrev pub backlog_behind : ℕ → ℕ → Option ℕ
backlog_behind upto lines = if nat_lt upto lines then Some upto else None

-- ---- who asks for it

-- a desk asks to be told again behind a line
abbrev pub again_by : ℕ → Meaning → Option Asking
again_by asker (Again from) = Some (record { asker = asker; from = from })
again_by asker meaning = None

abbrev pub again_in : Turn → Option Asking
again_in (Quiet asker desk meaning) = again_by asker meaning
again_in turn = None

-- nothing else was heard
abbrev pub again_asked : List Turn → Option Asking
again_asked [] = None
again_asked (turn ∷ []) = again_in turn
again_asked (turn ∷ more ∷ turns) = None

-- ---- laws

-- pieces one behind the other are what is told of all their lines at once
abbrev pub PiecesAreTheWhole : Type 0
PiecesAreTheWhole = (flights : List Flown) (journal : List Entry) (session from mid upto : ℕ) (front rest : List ℕ) → from ≤ mid → mid ≤ upto
    → AreTold flights session (told_between journal session from mid) front
    → AreTold flights session (told_between journal session mid upto) rest
    → AreTold flights session (told_between journal session from upto) (front ++ rest)

-- and up to the last line that is what is told behind a line
abbrev pub AllIsToldBehind : Type 0
AllIsToldBehind = (journal : List Entry) (session from : ℕ)
    → told_between journal session from (length journal) ≡ told_behind journal session from

-- a piece is the same whatever lines come behind it, where its bookings are there
abbrev pub PiecesStay : Type 0
PiecesStay = (journal more : List Entry) (session from upto : ℕ) → from ≤ upto → upto ≤ length journal
    → AllByRecursion (λ (e : Entry). AllByRecursion (λ (a : Advice). a.number ≤ length journal) e.advices) (lines_between journal from upto)
    → told_between (journal ++ more) session from upto ≡ told_between journal session from upto
