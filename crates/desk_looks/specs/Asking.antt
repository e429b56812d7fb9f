-- A look, and what comes of it.
use Rattle.std.specs.Prelude.{◌≡◌, ◌<◌, length}
use Rattle.airline_base.specs.Noting.{noted}
use Rattle.airimp_lines.specs.declared.look.Look.{Look}
use Rattle.desk_looks.specs.Windows.{Flown, Windowed}
use Rattle.desk_looks.specs.declared.question.Unseen.{Unseen}
use Rattle.desk_looks.specs.declared.question.Unseen.TheVariants.{Refused, Late}

-- what is looked at, on which flights
pub record Asked : Type 0 where
  pub flown : Flown
  pub look : Look

-- nothing was seen, which counts; or lines came in between
abbrev pub IsUnseen : Windowed → Windowed → Unseen → Type 0
IsUnseen old new Refused = new.refused ≡ noted old.refused
IsUnseen old new Late = (length old.front < length new.front) × (new.refused ≡ old.refused)
