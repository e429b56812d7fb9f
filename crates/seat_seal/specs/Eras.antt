-- The era of a journal: its epoch, the day of its host, and the journal to which its bookings were carried.
use Rattle.std.specs.Prelude.{◌≡◌, ℕ, Bool, ◌&&◌, nat_eq, Option, None, Some, is_some}
use Rattle.std.specs.Option.{is_none}
use Rattle.airline_base.specs.Days.{IsDate}
use Rattle.seat_seal.specs.declared.date.Date.{Date}
use Rattle.seat_seal.specs.declared.era.Era.{Era}
use Rattle.seat_seal.specs.declared.imprint.Imprint.{Imprint}
use Rattle.seat_seal.specs.Dates.{day_in}

-- of a journal that no host has had
abbrev pub first_era : Era
first_era = record { epoch = 1; today = None; carried = None }

abbrev pub is_first : Era → Bool
is_first era = nat_eq era.epoch 1 && is_none era.today && is_none era.carried

-- its bookings were carried to another journal
abbrev pub is_carried : Era → Bool
is_carried era = is_some era.carried

-- they are carried to this one
abbrev pub carried_to : Era → Imprint → Era
carried_to era journal = record era { carried = Some journal }

abbrev pub day_said : Option Date → Option ℕ
day_said None = None
day_said (Some date) = day_in date

-- the day of the host, where one had the journal
abbrev pub day_of_era : Era → Option ℕ
day_of_era era = day_said era.today

-- the date is that of the day
pub record IsDateOf (day : ℕ) (date : Date) : Type 0 where
  pub is_date : IsDate date.year date.month date.day day

-- the epoch is that of this era, and the host's day is this one
pub record IsEraOn (old : Era) (day : ℕ) (new : Era) : Type 0 where
  pub epoch_is : new.epoch ≡ old.epoch
  pub date : Date
  pub is_date : IsDateOf day date
  pub today_is : new.today ≡ Some date
  pub carried_is : new.carried ≡ old.carried
