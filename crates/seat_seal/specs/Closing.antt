-- The entry of a journal, by the state that it is in.
use Rattle.std.specs.Prelude.{◌≡◌, ℕ, nat_le, List, filter}
use Rattle.airline_base.specs.Days.{IsDate}
use Rattle.seat_seal.specs.declared.beside.Basis.{Basis}
use Rattle.seat_seal.specs.declared.imprint.Imprint.{Imprint}
use Rattle.seat_seal.specs.declared.run.Run.{Run}
use Rattle.seat_seal.specs.declared.seal.JournalState.{JournalState}
use Rattle.seat_seal.specs.declared.seal.JournalState.TheVariants.{Open, Closed}
use Rattle.seat_seal.specs.declared.seal.Sealed.{Sealed as Belonging}

-- the runs that began behind no more than so many lines
abbrev pub runs_within : ℕ → List Run → List Run
runs_within lines runs = filter (λ r. nat_le r.behind lines) runs

-- it is of that basis and of a journal with so many lines, in this state, and with these runs
pub record IsEntryIn (state : JournalState) (basis : Basis) (imprint : Imprint) (lines : ℕ) (runs : List Run) (entry : Belonging)
    : Type 0 where
  pub set : entry.set ≡ basis.set
  pub limits : entry.limits ≡ basis.limits
  pub first : IsDate entry.first.year entry.first.month entry.first.day basis.first
  pub days : entry.days ≡ basis.days
  pub imprint_is : entry.journal.imprint ≡ imprint
  pub lines_are : entry.journal.lines ≡ lines
  pub state_is : entry.journal.state ≡ state
  pub runs_are : entry.runs ≡ runs

-- of a journal to which lines are added, and of one to which none is any more
abbrev pub IsOpenEntry : Basis → Imprint → ℕ → List Run → Belonging → Type 0
IsOpenEntry = IsEntryIn Open

abbrev pub IsClosedEntry : Basis → Imprint → ℕ → List Run → Belonging → Type 0
IsClosedEntry = IsEntryIn Closed
