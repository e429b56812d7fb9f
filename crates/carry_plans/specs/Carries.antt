-- What a carry answers to its inputs.
use Rattle.std.specs.Prelude.{◌≡◌, ◌≢◌, ◌+◌, ℕ, min, false, List, [], length, Option, Some, None, IfSome}
use Rattle.ssim_flights.specs.declared.flight.Flight.{Flight as Flown}
use Rattle.seat_journal.specs.Text.{journal_text}
use Rattle.seat_limits.specs.Authorised.{authorised_grid}
use Rattle.seat_limits.specs.declared.limit_row.LimitRow.{LimitRow}
use Rattle.seat_nesting.specs.Nesting.{Ladders}
use Rattle.seat_rules.specs.Inventory.{Inventory}
use Rattle.seat_desk.specs.Answering.{IsAnswerOf, IsFirstTooLargeOf, IsRefusedAnswerOf}
use Rattle.seat_desk.specs.AuditDesk.{IsReplayOf, IsUnlawful}
use Rattle.seat_desk.specs.Desk.{IsOfInput}
use Rattle.seat_desk.specs.Loading.{Bytes, IsGround}
use Rattle.seat_desk.specs.Sealing.{basis_of}
use Rattle.seat_desk.specs.declared.fault.DeskFault.TheVariants as desk
use Rattle.seat_desk.specs.declared.inputs.Inputs.{Inputs}
use Rattle.seat_seal.specs.Closing.{IsClosedEntry}
use Rattle.seat_sealing.specs.Steps.{alone_text}
use Rattle.seat_seal.specs.Eras.{IsDateOf}
use Rattle.seat_seal.specs.Fronts.{front_of}
use Rattle.seat_seal.specs.Imprints.{imprint_of}
use Rattle.seat_seal.specs.Known.{IsKnown}
use Rattle.seat_seal.specs.declared.beside.Basis.{Basis}
use Rattle.seat_seal.specs.declared.beside.Beside.{Beside}
use Rattle.seat_seal.specs.declared.date.Date.{Date}
use Rattle.seat_seal.specs.declared.era.Era.{Era}
use Rattle.seat_seal.specs.declared.seal.Sealed.{Sealed as Belonging}
use Rattle.season_changes.specs.Seasons.{IsRefusedOf, IsTooLargeOf}
use Rattle.season_changes.specs.declared.fault.SeasonFault.{SeasonFault}
use Rattle.carry_plans.specs.Plans.{IsUnplanned}
use Rattle.carry_plans.specs.Parting.{IsPlanFor}
use Rattle.carry_plans.specs.declared.asked.CarryAsked.{CarryAsked}
use Rattle.carry_plans.specs.declared.carriage.Carriage.{Carriage}
use Rattle.carry_plans.specs.declared.reading.OldRead.{OldRead}
use Rattle.carry_plans.specs.declared.fault.CarryFault.{CarryFault}
use Rattle.carry_plans.specs.declared.fault.CarryFault.TheVariants.{Season, Unsealed, Row, Over, Full, Memory}

-- ---- the new seal

-- the epoch behind this one, as far as 32 bits count
abbrev pub next_epoch : ℕ → ℕ
next_epoch epoch = min (epoch + 1) 4294967295

-- the era behind one of this epoch, which begins on a day, of a journal whose bookings were carried nowhere
pub record IsNextEra (epoch today : ℕ) (new : Era) : Type 0 where
  pub epoch_is : new.epoch ≡ next_epoch epoch
  pub date : Date
  pub is_date : IsDateOf today date
  pub today_is : new.today ≡ Some date
  pub carried_is : new.carried ≡ None

-- the seal of the journal that all hosts would have together: on this basis, a closed one without runs, of the era behind this epoch. It names the season,
-- so what two seasons make of one text is two
pub record IsSealOfWhole (today : ℕ) (basis : Basis) (epoch : ℕ) (whole : Inventory) (text : List ℕ) : Type 0 where
  pub entry : Belonging
  pub closed : IsClosedEntry basis (imprint_of (front_of (journal_text whole.journal))) (length whole.journal) [] entry
  pub era : IsNextEra epoch today entry.era
  pub text_is : text ≡ alone_text entry

-- where there is one
abbrev pub AreSealed : ℕ → Basis → ℕ → Option Inventory → Option (List ℕ) → Type 0
AreSealed today basis epoch None None = Unit {0}
AreSealed today basis epoch None (Some text) = ⊥
AreSealed today basis epoch (Some whole) None = ⊥
AreSealed today basis epoch (Some whole) (Some text) = IsSealOfWhole today basis epoch whole text

-- of which the mark in the older journal's seal is: of the new journal's own text, or of the seal of that of all hosts together
abbrev pub text_for : List ℕ → Option (List ℕ) → List ℕ
text_for own None = own
text_for own (Some whole) = whole

abbrev pub marked_text : Carriage → List ℕ
marked_text c = text_for c.text c.whole

-- the text is that of the inventory's journal, and the entry is its own on this basis, a closed one without runs, of the era behind this epoch
pub record IsPut (today : ℕ) (basis : Basis) (epoch : ℕ) (known : Belonging) (after : Inventory) (report : List ℕ)
    (whole : Option Inventory) (c : Carriage) : Type 0 where
  pub text_is : c.text ≡ journal_text after.journal
  pub entry : IsClosedEntry basis (imprint_of (front_of c.text)) (length after.journal) [] c.entry
  pub era : IsNextEra epoch today c.entry.era
  pub report_is : c.report ≡ report
  pub known_is : c.known ≡ known
  pub whole_is : AreSealed today basis epoch whole c.whole

-- ---- what is made

-- of an inventory over the old limits
pub record IsMadeFrom (asked : CarryAsked) (news : List Flown) (file : Ladders) (basis : Basis) (olds : List Flown) (before : Inventory)
    (epoch : ℕ) (known : Belonging) (c : Carriage) : Type 0 where
  pub after : Inventory
  pub report : List ℕ
  pub whole : Option Inventory
  pub planned : IsPlanFor asked.part asked olds before news file after report whole
  pub put : IsPut asked.today basis epoch known after report whole c

-- of a journal that is a legal history over the old limits
pub record IsMadeOf (asked : CarryAsked) (news : List Flown) (file : Ladders) (basis : Basis) (olds : List Flown) (grid : Ladders)
    (bytes : List ℕ) (known : Belonging) (c : Carriage) : Type 0 where
  pub before : Inventory
  pub replayed : IsReplayOf grid bytes before
  pub from : IsMadeFrom asked news file basis olds before known.era.epoch known c

-- and of what its seal knows
pub record IsMade (asked : CarryAsked) (beside : Beside) (news : List Flown) (file : Ladders) (basis : Basis) (olds : List Flown)
    (grid : Ladders) (bytes : List ℕ) (c : Carriage) : Type 0 where
  pub known : Belonging
  pub is_known : IsKnown beside bytes (Some known)
  pub made : IsMadeOf asked news file basis olds grid bytes known c

-- ---- why nothing is made

-- the journal is a legal history, but its bookings are not carried
pub record IsUnmadeOf (asked : CarryAsked) (news : List Flown) (file : Ladders) (olds : List Flown) (grid : Ladders) (bytes : List ℕ)
    (fault : CarryFault) : Type 0 where
  pub before : Inventory
  pub replayed : IsReplayOf grid bytes before
  pub unplanned : IsUnplanned asked olds before news file fault

-- the journal's own fault stands behind the old season
pub record IsOfJournal (grid : Ladders) (bytes : List ℕ) (fault : SeasonFault) : Type 0 where
  pub is_old : fault.is_new ≡ false
  pub kind : (fault.fault ≢ desk.Device) × (fault.fault ≢ desk.TooLarge)
  pub unlawful : fault.fault ≢ desk.Memory → IsUnlawful grid fault.fault bytes

abbrev pub IsUnmade : CarryAsked → List Flown → Ladders → List Flown → Ladders → List ℕ → CarryFault → Type 0
IsUnmade asked news file olds grid bytes (Season fault) = IsOfJournal grid bytes fault
IsUnmade asked news file olds grid bytes Unsealed = ⊥
IsUnmade asked news file olds grid bytes (Over text) = IsUnmadeOf asked news file olds grid bytes (Over text)
IsUnmade asked news file olds grid bytes (Row f) = IsUnmadeOf asked news file olds grid bytes (Row f)
IsUnmade asked news file olds grid bytes Full = IsUnmadeOf asked news file olds grid bytes Full
IsUnmade asked news file olds grid bytes Memory = Unit {0}

-- ---- both seasons

-- this holds of the flights, the limits and the digests of a season that is right
pub record IsOnto (set limits : List ℕ) (first days : ℕ) (holds : List Flown → Ladders → Basis → Type 0) : Type 0 where
  pub flights : List Flown
  pub rows : List LimitRow
  pub is_ground : IsGround set limits first days flights rows
  pub held : holds flights (authorised_grid rows flights) (basis_of set limits first days)

-- where its bytes are known
abbrev pub IsOntoOf : {S L : Type 0} → Bytes S → Bytes L → Inputs S L → (List Flown → Ladders → Basis → Type 0) → Type 0
IsOntoOf set limits to holds =
    IfSome (set to.set) (λ xs. IfSome (limits to.limits) (λ ys. IsOnto xs ys to.first to.days holds))

-- this holds of what a journal, which agrees with what stands beside it, is over the old season
abbrev pub IsFrom : {S L : Type 0} → Bytes S → Bytes L → Inputs S L → Option (List ℕ) → Beside
    → (List Flown → Ladders → List ℕ → Type 0) → Type 0
IsFrom set limits from journal beside holds =
    IsAnswerOf (λ olds rows grid bytes text. holds olds grid bytes) beside set limits from journal []

-- the new season and the old one are right, and so is the journal: this carries its live bookings
abbrev pub IsCarryOf : {S L : Type 0} → Bytes S → Bytes L → Inputs S L → Inputs S L → Option (List ℕ) → Beside → CarryAsked → Carriage → Type 0
IsCarryOf set limits from to journal beside asked c =
    IsOntoOf set limits to (λ news file basis.
    IsFrom set limits from journal beside (λ olds grid bytes. IsMade asked beside news file basis olds grid bytes c))

-- what was read of the old season, of its journal and of what the seal knows
pub record IsOldRead (beside : Beside) (r : OldRead) (olds : List Flown) (grid : Ladders) (bytes : List ℕ) : Type 0 where
  pub flights_are : olds ≡ r.loaded.flights
  pub grid_is : grid ≡ r.loaded.grid
  pub bytes_are : bytes ≡ r.bytes.items
  pub is_known : IsKnown beside bytes (Some r.known)

-- ---- faults

-- the first input of the old season that is not right is at fault, or what stands beside the journal, or the journal
pub record IsUnreadOld {S L : Type 0} (set : Bytes S) (limits : Bytes L) (from : Inputs S L) (journal : Option (List ℕ)) (beside : Beside)
    (fault : SeasonFault) : Type 0 where
  pub is_old : fault.is_new ≡ false
  pub refused : IsOfInput fault.fault
      → IsRefusedAnswerOf (λ grid f bytes. IsUnlawful grid f bytes) beside set limits from journal fault.fault
  pub large : fault.fault ≡ desk.TooLarge → IsFirstTooLargeOf set limits from journal

-- so it is; or no more is known of the journal than its bytes
abbrev pub IsUnread : {S L : Type 0} → Bytes S → Bytes L → Inputs S L → Option (List ℕ) → Beside → CarryFault → Type 0
IsUnread set limits from journal beside (Season fault) = IsUnreadOld set limits from journal beside fault
IsUnread set limits from journal beside Unsealed = IsFrom set limits from journal beside (λ olds grid bytes. IsKnown beside bytes None)
IsUnread set limits from journal beside Memory = Unit {0}
IsUnread set limits from journal beside (Over text) = ⊥
IsUnread set limits from journal beside Full = ⊥
IsUnread set limits from journal beside (Row f) = ⊥

-- the first season that is not right is at fault, and of it the first input
pub record IsUnreadSeason {S L : Type 0} (set : Bytes S) (limits : Bytes L) (from to : Inputs S L) (journal : Option (List ℕ)) (beside : Beside)
    (fault : SeasonFault) : Type 0 where
  pub refused : IsRefusedOf set limits from to journal beside fault.is_new fault.fault
  pub large : fault.fault ≡ desk.TooLarge → IsTooLargeOf set limits from to journal fault.is_new

-- the first season that is not right is at fault, or what stands beside the journal, or the journal; or all are right, and no more is known of the
-- journal than its bytes, or a row is wrong, or a leg has too few seats, or there are too many lines
abbrev pub IsUncarried : {S L : Type 0} → Bytes S → Bytes L → Inputs S L → Inputs S L → Option (List ℕ) → Beside → CarryAsked → CarryFault → Type 0
IsUncarried set limits from to journal beside asked (Season fault) = IsUnreadSeason set limits from to journal beside fault
IsUncarried set limits from to journal beside asked Unsealed =
    IsOntoOf set limits to (λ news file basis. IsFrom set limits from journal beside (λ olds grid bytes. IsKnown beside bytes None))
IsUncarried set limits from to journal beside asked (Over text) =
    IsOntoOf set limits to (λ news file basis.
    IsFrom set limits from journal beside (λ olds grid bytes. IsUnmadeOf asked news file olds grid bytes (Over text)))
IsUncarried set limits from to journal beside asked (Row f) =
    IsOntoOf set limits to (λ news file basis.
    IsFrom set limits from journal beside (λ olds grid bytes. IsUnmadeOf asked news file olds grid bytes (Row f)))
IsUncarried set limits from to journal beside asked Full =
    IsOntoOf set limits to (λ news file basis.
    IsFrom set limits from journal beside (λ olds grid bytes. IsUnmadeOf asked news file olds grid bytes Full))
IsUncarried set limits from to journal beside asked Memory = Unit {0}
