-- What the seal of a run's journal says.
use Rattle.std.specs.Prelude.{◌≡◌, ◌+◌, ◌++◌, ℕ, List, [], ◌∷◌, Option, None, Some}
use Rattle.airline_base.specs.Days.{IsDate}
use Rattle.seat_seal.specs.Fronts.{front_of}
use Rattle.seat_seal.specs.Imprints.{imprint_of}
use Rattle.seat_seal.specs.Runs.{runs_with}
use Rattle.seat_seal.specs.declared.beside.Basis.{Basis}
use Rattle.seat_seal.specs.declared.imprint.Imprint.{Imprint}
use Rattle.seat_seal.specs.declared.known.Carried.{Carried}
use Rattle.seat_seal.specs.declared.run.Run.{Run}
use Rattle.seat_seal.specs.declared.scripts.Script.{Script}
use Rattle.seat_seal.specs.declared.seal.JournalState.TheVariants.{Closed}
use Rattle.seat_seal.specs.declared.seal.Sealed.{Sealed as Belonging}

-- a session's script, where its text has an imprint
abbrev pub named : ℕ → Option Imprint → List Script
named session None = []
named session (Some imprint) = record { session = session; imprint = imprint } ∷ []

-- the scripts of which these are the imprints; the first is that of this session
abbrev pub named_from : ℕ → List (Option Imprint) → List Script
named_from session [] = []
named_from session (imprint ∷ more) = named session imprint ++ named_from (session + 1) more

-- the run behind so many lines, on that day, by these scripts and changes
pub record IsRun (imprints : List (Option Imprint)) (changes : Option Imprint) (behind today : ℕ) (run : Run) : Type 0 where
  pub behind_is : run.behind ≡ behind
  pub today_is : IsDate run.today.year run.today.month run.today.day today
  pub scripts_are : run.scripts ≡ named_from 1 imprints
  pub changes_is : run.changes ≡ changes

-- the entry of a journal of this text: of that basis, closed, with so many lines, of the era that was, and with this run behind the earlier ones
pub record IsEntryOfRun (basis : Basis) (imprints : List (Option Imprint)) (changes : Option Imprint) (behind lines today : ℕ)
    (earlier : Carried) (text : List ℕ) (entry : Belonging) : Type 0 where
  pub set : entry.set ≡ basis.set
  pub limits : entry.limits ≡ basis.limits
  pub first : IsDate entry.first.year entry.first.month entry.first.day basis.first
  pub days : entry.days ≡ basis.days
  pub era_is : entry.era ≡ earlier.era
  pub imprint_is : entry.journal.imprint ≡ imprint_of (front_of text)
  pub lines_are : entry.journal.lines ≡ lines
  pub state : entry.journal.state ≡ Closed
  pub run : Run
  pub is_run : IsRun imprints changes behind today run
  pub runs_are : entry.runs ≡ runs_with earlier.runs run
