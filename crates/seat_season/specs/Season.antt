-- What a season file says, as a function of the table that its text is.
use Rattle.std.specs.Prelude.{ℕ, ◌==◌, ◌&&◌, ◌||◌, nat_le, if◌then◌else◌, List, length, ℤ, pos, negsuc, Option, Some, None, is_some, option_map, option_and_then, Result, Ok, Err}
use Rattle.toml.specs.Data.{Data, Items, Members, no_members, member, as_str, as_integer, as_datetime, as_array, get_member}
use Rattle.toml.specs.View.{items_view}
use Rattle.toml_datetime.specs.declared.datetime.Date.{Date}
use Rattle.toml_datetime.specs.declared.datetime.Datetime.{Datetime}
use Rattle.airline_base.specs.Chains.{◌>>=◌, want}
use Rattle.seat_season.specs.declared.fault.SeasonFault.{SeasonFault}
use Rattle.seat_season.specs.declared.fault.SeasonFault.TheVariants as faults
use Rattle.seat_season.specs.declared.key.Key.{Key}
use Rattle.seat_season.specs.declared.key.Key.TheVariants.{Set, Limits, First, Days, Journal, Desks}
use Rattle.seat_season.specs.declared.season.Season.{Season}
use Rattle.seat_season.specs.declared.season.Values as code_values
use Rattle.seat_season.specs.Desks.{are_desks}
use Rattle.seat_season.specs.Keys.{is_key, key_text}

abbrev pub Text : Type 0
Text = List ℕ

-- ---- the values

-- a name of a file: a text that is not empty
abbrev pub name_in : Data → Option Text
name_in d = option_and_then (λ text. if length text == 0 then None else Some text) (as_str d)

-- a day of the years 2000 to 2099
abbrev pub of_century : Date → Option Date
of_century date = if nat_le 2000 date.year && nat_le date.year 2099 then Some date else None

-- a date without a time of day
abbrev pub plain_date : Datetime → Option Date
plain_date dt = if is_some dt.time || is_some dt.offset then None else dt.date

abbrev pub first_in : Data → Option Date
first_in d = option_and_then of_century (option_and_then plain_date (as_datetime d))

-- a number of 1 to 366
abbrev pub days_number : ℤ → Option ℕ
days_number (pos n) = if nat_le 1 n && nat_le n 366 then Some n else None
days_number (negsuc n) = None

abbrev pub days_in : Data → Option ℕ
days_in d = option_and_then days_number (as_integer d)

-- names of desks, the nth that of session n
abbrev pub desks_in : Data → Option Items
desks_in d = option_and_then (λ names. if are_desks names then Some names else None) (as_array d)

-- ---- the whole

-- what a season says
pub record Said : Type 0 where
  pub set : Text
  pub limits : Text
  pub first : Date
  pub days : ℕ
  pub journal : Option Text
  pub desks : Option Items

pub data Fault : Type 0 where
  unknown : Text → Fault
  wrong : Key → Fault
  missing : Key → Fault

-- a key that no season has, the first of the alphabet
abbrev pub unknown_in : Members → Option Text
unknown_in no_members = None
unknown_in (member key d ms) = if is_key key then unknown_in ms else Some key

abbrev pub only_known : Option Text → Result (Unit {0}) Fault
only_known None = Ok tt
only_known (Some key) = Err (unknown key)

-- a value that is there has to be one that the key may have
abbrev pub read_from : {A : Type 0} → Key → (Data → Option A) → Option Data → Result (Option A) Fault
read_from key read None = Ok None
read_from key read (Some d) = want (wrong key) (read d) >>= (λ value. Ok (Some value))

abbrev pub read_at : {A : Type 0} → Key → (Data → Option A) → Members → Result (Option A) Fault
read_at key read ms = read_from key read (get_member (key_text key) ms)

-- what the values are, of which none need be there
pub record Values : Type 0 where
  pub set : Option Text
  pub limits : Option Text
  pub first : Option Date
  pub days : Option ℕ
  pub journal : Option Text
  pub desks : Option Items

unfoldable pub values_in : Members → Result Values Fault
values_in ms = do
  set ← read_at Set name_in ms
  limits ← read_at Limits name_in ms
  first ← read_at First first_in ms
  days ← read_at Days days_in ms
  journal ← read_at Journal name_in ms
  desks ← read_at Desks desks_in ms
  Ok (record { set = set; limits = limits; first = first; days = days; journal = journal; desks = desks })

unfoldable pub whole_in : Values → Result Said Fault
whole_in values = do
  set ← want (missing Set) values.set
  limits ← want (missing Limits) values.limits
  first ← want (missing First) values.first
  days ← want (missing Days) values.days
  Ok (record { set = set; limits = limits; first = first; days = days; journal = values.journal; desks = values.desks })

-- no key but a season's; then each value that is there; then each key that must be there
unfoldable pub season_in : Members → Result Said Fault
season_in ms = do
  known ← only_known (unknown_in ms)
  values ← values_in ms
  whole_in values

-- ---- the same of what the code has

abbrev pub said : Season → Said
said s = record {
  set = s.set.now;
  limits = s.limits.now;
  first = s.first;
  days = s.days;
  journal = option_map (λ text. text.now) s.journal;
  desks = option_map (λ names. items_view names.now) s.desks;
}

abbrev pub values_said : code_values.Values → Values
values_said v = record {
  set = option_map (λ text. text.now) v.set;
  limits = option_map (λ text. text.now) v.limits;
  first = v.first;
  days = v.days;
  journal = option_map (λ text. text.now) v.journal;
  desks = option_map (λ names. items_view names.now) v.desks;
}

abbrev pub told : SeasonFault → Fault
told (faults.Unknown key) = unknown key.now
told (faults.Wrong key) = wrong key
told (faults.Missing key) = missing key
