-- What a seal may say.
use Rattle.std.specs.Prelude.{ℕ, Bool, true, ◌&&◌, nat_le, nat_lt, List, [], ◌∷◌, length, Option, None, Some, IfSome, IsTrue}
use Rattle.std.specs.List.{AllByRecursion, list_all}
use Rattle.seat_seal.specs.declared.date.Date.{Date}
use Rattle.seat_seal.specs.declared.era.Era.{Era}
use Rattle.seat_seal.specs.declared.imprint.Imprint.{Imprint}
use Rattle.seat_seal.specs.declared.run.Run.{Run}
use Rattle.seat_seal.specs.declared.scripts.Script.{Script}
use Rattle.seat_seal.specs.declared.seal.SealedJournal.{SealedJournal}
use Rattle.seat_seal.specs.declared.seal.Sealed.{Sealed as Belonging}
use Rattle.seat_seal.specs.declared.seal.SealEntry.{SealEntry}
use Rattle.seat_seal.specs.declared.seal.SealEntry.TheVariants.{Sealed, Other}
use Rattle.seat_seal.specs.declared.seal.Seal.{Seal}
use Rattle.seat_seal.specs.Dates.{is_date}
use Rattle.seat_seal.specs.Digests.{IsDigest}
use Rattle.seat_seal.specs.Text.{most_runs}

-- at most ten digits
abbrev pub is_imprint : Imprint → Bool
is_imprint i = nat_le i.bytes 9_999_999_999

abbrev pub is_journal : SealedJournal → Bool
is_journal j = is_imprint j.imprint && nat_le j.lines 999_999

abbrev pub is_today : Option Date → Bool
is_today None = true
is_today (Some date) = is_date date

abbrev pub is_carried_to : Option Imprint → Bool
is_carried_to None = true
is_carried_to (Some imprint) = is_imprint imprint

-- an epoch of 1 to 999,999, a date, and an imprint
abbrev pub is_era : Era → Bool
is_era e = nat_le 1 e.epoch && nat_le e.epoch 999_999 && is_today e.today && is_carried_to e.carried

-- sessions above this one, each above the one before it and none above 8
abbrev pub are_rising : ℕ → List Script → Bool
are_rising last [] = true
are_rising last (s ∷ more) = nat_lt last s.session && nat_le s.session 8 && are_rising s.session more

abbrev pub is_script : Script → Bool
is_script s = is_imprint s.imprint

abbrev pub are_changes : Option Imprint → Bool
are_changes None = true
are_changes (Some imprint) = is_imprint imprint

-- a run of a journal with so many lines: it began behind no more than these, its scripts are of sessions 1 to 8 in order
unfoldable pub is_run : ℕ → Run → Bool
is_run lines r =
    nat_le r.behind lines && is_date r.today && are_rising 0 r.scripts && list_all is_script r.scripts
    && are_changes r.changes

-- the rules of an entry: 1 to 366 days, and not too many runs
unfoldable pub is_sealed : Belonging → Bool
is_sealed s =
    is_date s.first && nat_le 1 s.days && nat_le s.days 366 && is_journal s.journal && is_era s.era
    && nat_le (length s.runs) most_runs && list_all (is_run s.journal.lines) s.runs

abbrev pub is_entry : SealEntry → Bool
is_entry (Sealed s) = is_sealed s
is_entry (Other i) = is_imprint i

abbrev pub is_second : Option SealEntry → Bool
is_second None = true
is_second (Some entry) = is_entry entry

unfoldable pub is_seal : Seal → Bool
is_seal s = is_entry s.first && is_second s.second

-- ---- the values of the fields' types

abbrev pub IsScript : Script → Type 0
IsScript s = IsDigest s.imprint.digest

abbrev pub IsChanges : Imprint → Type 0
IsChanges imprint = IsDigest imprint.digest

-- the journal to which the bookings were carried
abbrev pub IsCarriedTo : Imprint → Type 0
IsCarriedTo imprint = IsDigest imprint.digest

pub record IsNamed (r : Run) : Type 0 where
  pub scripts : AllByRecursion IsScript r.scripts
  pub changes : IfSome r.changes IsChanges

pub record HasDigests (s : Belonging) : Type 0 where
  pub set : IsDigest s.set
  pub limits : IsDigest s.limits
  pub carried : IfSome s.era.carried IsCarriedTo
  pub journal : IsDigest s.journal.imprint.digest
  pub runs : AllByRecursion IsNamed s.runs

abbrev pub HasTypes : SealEntry → Type 0
HasTypes (Sealed s) = HasDigests s
HasTypes (Other i) = IsDigest i.digest

-- what a seal may be
pub record IsSeal (s : Seal) : Type 0 where
  pub first : HasTypes s.first
  pub second : IfSome s.second HasTypes
  pub rules : IsTrue (is_seal s)
