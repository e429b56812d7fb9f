-- The day on which a host reads lines, and the era that the seal of its journal has.
use Rattle.std.specs.Prelude.{◌≡◌, ◌≤◌, ℕ, true, nat_lt, if◌then◌else◌, List, Option, None, Some, Result, Ok, Err}
use Rattle.seat_disk.specs.Leaving.{Only}
use Rattle.seat_journal.specs.declared.entry.Entry.{Entry}
use Rattle.seat_recovery.specs.OpenText.{open_text}
use Rattle.seat_seal.specs.Eras.{IsDateOf, IsEraOn, day_of_era}
use Rattle.seat_seal.specs.Imprints.{imprint_of}
use Rattle.seat_seal.specs.Known.{IsEraOf}
use Rattle.seat_seal.specs.Rules.{is_sealed}
use Rattle.seat_seal.specs.declared.beside.Beside.{Beside}
use Rattle.seat_seal.specs.declared.date.Date.{Date}
use Rattle.seat_seal.specs.declared.era.Era.{Era}
use Rattle.seat_seal.specs.declared.seal.JournalState.TheVariants.{Open}
use Rattle.seat_seal.specs.declared.seal.Sealed.{Sealed as Belonging}
use Rattle.seat_sealing.specs.Steps.{alone_text}
use Rattle.seat_restoring.specs.Serving.{NamesAll}
use Rattle.seat_restoring.specs.declared.dating.NoDay.{NoDay}
use Rattle.seat_restoring.specs.declared.dating.NoDay.TheVariants.{Missing, Earlier, Refused}

-- the day that is known and the one that is said: where both are there the latter, unless it is earlier
abbrev pub day_for : Option ℕ → Option ℕ → Result ℕ NoDay
day_for None None = Err Missing
day_for (Some known) None = Ok known
day_for None (Some said) = Ok said
day_for (Some known) (Some said) = if nat_lt said known then Err (Earlier known) else Ok said

-- no earlier than the day that is known
abbrev pub IsSince : Option ℕ → ℕ → Type 0
IsSince None day = Unit {0}
IsSince (Some known) day = known ≤ day

-- by what the seal beside a file knows
pub record IsNotEarlier (beside : Beside) (file : List ℕ) (day : ℕ) : Type 0 where
  pub era : Era
  pub is_era : IsEraOf beside file era
  pub since : IsSince (day_of_era era) day

-- it is the day that is wanting, and not the seal that is wrong
abbrev pub IsOfDay : NoDay → Type 0
IsOfDay Missing = Unit {0}
IsOfDay (Earlier known) = Unit {0}
IsOfDay (Refused fault) = ⊥

-- the known one is that of the seal beside a file
pub record IsDayFor (beside : Beside) (file : List ℕ) (said : Option ℕ) (answer : Result ℕ NoDay) : Type 0 where
  pub era : Era
  pub is_era : IsEraOf beside file era
  pub answer_is : answer ≡ day_for (day_of_era era) said

-- the era that the seal beside a file knows, on this day
pub record IsEraOver (beside : Beside) (file : List ℕ) (day : ℕ) (era : Era) : Type 0 where
  pub known : Era
  pub is_known : IsEraOf beside file known
  pub is_on : IsEraOn known day era

-- the text is that of a seal of one journal, of this era
pub record IsOfEra (era : Era) (seal : List ℕ) : Type 0 where
  pub entry : Belonging
  pub is_text : seal ≡ alone_text entry
  pub era_is : entry.era ≡ era

-- the era has this day
pub record IsDated (day : ℕ) (era : Era) : Type 0 where
  pub date : Date
  pub is_date : IsDateOf day date
  pub today_is : era.today ≡ Some date

-- the seal of this entry stands there and nothing else, of the open journal that these lines begin
pub record Stands (entry : Belonging) (lines : List Entry) (seals : List ℕ → Type 0) : Type 0 where
  pub rules : is_sealed entry ≡ true
  pub state_is : entry.journal.state ≡ Open
  pub imprint_is : entry.journal.imprint ≡ imprint_of (open_text lines)
  pub only : Only (alone_text entry) seals

-- the seal of another entry took its place, of the same journal
pub record TakesPlace (old new : Belonging) (seals_old seals_new : List ℕ → Type 0) : Type 0 where
  pub each : (lines : List Entry) → Stands old lines seals_old → Stands new lines seals_new

-- one or the other stands there
pub record NamesStill (old : Belonging) (seals_old seals_new : List ℕ → Type 0) : Type 0 where
  pub each : (lines : List Entry) → Stands old lines seals_old → NamesAll lines seals_old → NamesAll lines seals_new

-- whatever a crash leaves of the seal is of this era
pub record AreOfEra (era : Era) (seals : List ℕ → Type 0) : Type 0 where
  pub each : (seal : List ℕ) → seals seal → IsOfEra era seal
