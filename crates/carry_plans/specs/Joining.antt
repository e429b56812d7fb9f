-- What a carry of several journals answers to its inputs.
use Rattle.std.specs.Borrow.{Bor}
use Rattle.std.specs.Prelude.{◌≡◌, ◌≤◌, ℕ, Bool, true, false, List, [], ◌∷◌, ◌++◌, length, Option, IfSome}
use Rattle.airline_base.specs.Counting.{counted_inner}
use Rattle.airline_base.specs.declared.counted.Counted.{Counted}
use Rattle.ssim_flights.specs.declared.flight.Flight.{Flight as Flown}
use Rattle.seat_limits.specs.Authorised.{authorised_grid}
use Rattle.seat_limits.specs.declared.limit_row.LimitRow.{LimitRow}
use Rattle.seat_nesting.specs.Nesting.{Ladders}
use Rattle.seat_rules.specs.Inventory.{Inventory}
use Rattle.seat_desk.specs.Answering.{HasGroundOf}
use Rattle.seat_desk.specs.AuditDesk.{most_lines}
use Rattle.seat_desk.specs.Desk.{IsOfInput}
use Rattle.seat_desk.specs.Loading.{Bytes, HasFirstLoadFailed, IsFirstTooLargeLoadOf, IsGroundOf, IsRefusedLoadOf}
use Rattle.seat_desk.specs.Sealing.{IsBasisOf}
use Rattle.seat_desk.specs.declared.fault.DeskFault.{DeskFault}
use Rattle.seat_desk.specs.declared.fault.DeskFault.TheVariants as desk
use Rattle.seat_desk.specs.declared.inputs.Inputs.{Inputs}
use Rattle.seat_seal.specs.declared.beside.Basis.{Basis}
use Rattle.seat_seal.specs.declared.beside.Beside.{Beside}
use Rattle.seat_seal.specs.declared.seal.Sealed.{Sealed as Belonging}
use Rattle.seat_shards.specs.Taking.{known}
use Rattle.seat_shards.specs.declared.fault.ShardFault.{ShardFault}
use Rattle.seat_shards.specs.declared.fault.ShardFault.TheVariants as shards
use Rattle.season_changes.specs.declared.fault.SeasonFault.{SeasonFault}
use Rattle.shard_questions.specs.Counting.{AreCounts}
use Rattle.shard_questions.specs.Joined.{AreJoined}
use Rattle.shard_questions.specs.Together.{IsFirstStopped}
use Rattle.carry_plans.specs.Carries.{IsMadeFrom, IsOntoOf}
use Rattle.carry_plans.specs.Plans.{IsUnplanned}
use Rattle.carry_plans.specs.declared.asked.CarryAsked.{CarryAsked}
use Rattle.carry_plans.specs.declared.fault.CarryFault.{CarryFault}
use Rattle.carry_plans.specs.declared.fault.CarryFault.TheVariants as carry
use Rattle.carry_plans.specs.Knowing.{AreKnownTexts, HasFailedReading, IsUnreadOn, latest}
use Rattle.carry_plans.specs.declared.joined_carriage.JoinedCarriage.{JoinedCarriage}
use Rattle.carry_plans.specs.declared.join_fault.JoinFault.{JoinFault}
use Rattle.carry_plans.specs.declared.join_fault.JoinFault.TheVariants as joins

-- ---- how it is asked for

-- the same, of journals that have so many lines
pub record IsAskedOf (counts : List ℕ) (asked of : CarryAsked) : Type 0 where
  pub today_is : of.today ≡ asked.today
  pub protections_are : of.protections.now ≡ asked.protections.now
  pub order_is : of.order.now ≡ asked.order.now
  pub displaces_is : of.displaces ≡ asked.displaces
  pub fresh_is : of.fresh_limits ≡ asked.fresh_limits
  pub form_is : of.form ≡ asked.form
  pub part_is : of.part ≡ asked.part
  pub counts_are : of.counts.now ≡ counts

-- ---- what is made

-- the inventory that has the lines of journals, of which each has so many, is carried, of the era behind the largest of theirs
pub record IsMadeTogether (asked : CarryAsked) (news : List Flown) (file : Ladders) (basis : Basis) (olds : List Flown) (before : Inventory)
    (counts : List ℕ) (knowns : List Belonging) (c : JoinedCarriage) : Type 0 where
  pub of : CarryAsked
  pub asked_is : IsAskedOf counts asked of
  pub made : IsMadeFrom of news file basis olds before (latest knowns) c.carriage.known c.carriage
  pub knowns_are : knowns ≡ c.others ++ c.carriage.known ∷ []

-- it has the lines of the journals of these texts, those of each behind those of the ones before it
pub record IsMadeOfRead (asked : CarryAsked) (news : List Flown) (file : Ladders) (basis : Basis) (olds : List Flown) (grid : Ladders)
    (texts : List (List ℕ)) (knowns : List Belonging) (c : JoinedCarriage) : Type 0 where
  pub before : Inventory
  pub are_joined : AreJoined grid texts before.journal
  pub grid_is : before.grid ≡ grid
  pub few : length before.journal ≤ most_lines
  pub counts : List ℕ
  pub are_counts : AreCounts texts counts
  pub made : IsMadeTogether asked news file basis olds before counts knowns c

-- each of which agrees with what stands beside it
pub record IsJoinedMade (asked : CarryAsked) (besides : List Beside) (news : List Flown) (file : Ladders) (basis : Basis) (olds : List Flown)
    (grid : Ladders) (under : Basis) (texts : List (List ℕ)) (c : JoinedCarriage) : Type 0 where
  pub knowns : List Belonging
  pub are_known : AreKnownTexts under besides texts knowns
  pub made : IsMadeOfRead asked news file basis olds grid texts knowns c

-- this holds of both seasons, which are right, and of the texts of the journals, where all bytes are known
abbrev pub IsOverAll : {S L : Type 0} → Bytes S → Bytes L → Inputs S L → Inputs S L → List (Option (List ℕ))
    → (List Flown → Ladders → Basis → List Flown → Ladders → Basis → List (List ℕ) → Type 0) → Type 0
IsOverAll set limits from to journals holds =
    IsOntoOf set limits to (λ news file basis.
    IsOntoOf set limits from (λ olds grid under. IfSome (known journals) (λ texts. holds news file basis olds grid under texts)))

-- ---- the seasons

-- the inputs of a season are right: its flights, its limits, and what a seal is compared with
pub record IsSeason {S L : Type 0} (set : Bytes S) (limits : Bytes L) (inputs : Inputs S L) (flights : List Flown) (grid : Ladders) (basis : Basis)
    : Type 0 where
  pub rows : List LimitRow
  pub is_ground : IsGroundOf set limits inputs flights rows
  pub grid_is : grid ≡ authorised_grid rows flights
  pub is_basis : IsBasisOf set limits inputs basis

-- the first of them that is not right is at fault
pub record IsUnreadSeason {S L : Type 0} (set : Bytes S) (limits : Bytes L) (inputs : Inputs S L) (is_new : Bool) (fault : JoinFault) : Type 0 where
  pub of : DeskFault
  pub is : fault ≡ joins.Carry (carry.Season (record { is_new = is_new; fault = of }))
  pub refused : IsOfInput of → IsRefusedLoadOf set limits inputs of
  pub large : of ≡ desk.TooLarge → IsFirstTooLargeLoadOf set limits inputs

-- where a device is at fault, the first of them that was not read and right has failed
pub record HasSeasonFailed {S L : Type 0} (set : Bytes S) (of_set : S → ℕ) (of_limits : L → ℕ) (inputs new : Inputs S L) (is_new : Bool)
    (fault : JoinFault) : Type 0 where
  pub of : DeskFault
  pub is : fault ≡ joins.Carry (carry.Season (record { is_new = is_new; fault = of }))
  pub failed : of ≡ desk.Device → HasFirstLoadFailed set of_set of_limits inputs new

-- ---- why nothing is made

-- the inventory that has the lines of journals, of which each has so many, is not carried
pub record IsUnplannedTogether (asked : CarryAsked) (olds : List Flown) (before : Inventory) (news : List Flown) (file : Ladders) (counts : List ℕ)
    (fault : CarryFault) : Type 0 where
  pub of : CarryAsked
  pub asked_is : IsAskedOf counts asked of
  pub unplanned : IsUnplanned of olds before news file fault

-- it has the lines of the journals of these texts
pub record HasNoPlan (asked : CarryAsked) (news : List Flown) (file : Ladders) (olds : List Flown) (grid : Ladders) (texts : List (List ℕ))
    (fault : CarryFault) : Type 0 where
  pub before : Inventory
  pub are_joined : AreJoined grid texts before.journal
  pub grid_is : before.grid ≡ grid
  pub counts : List ℕ
  pub are_counts : AreCounts texts counts
  pub unplanned : IsUnplannedTogether asked olds before news file counts fault

-- each of which agrees with what stands beside it
pub record IsJoinedUnmade (asked : CarryAsked) (besides : List Beside) (news : List Flown) (file : Ladders) (olds : List Flown) (grid : Ladders)
    (under : Basis) (texts : List (List ℕ)) (fault : CarryFault) : Type 0 where
  pub knowns : List Belonging
  pub are_known : AreKnownTexts under besides texts knowns
  pub unmade : HasNoPlan asked news file olds grid texts fault

-- each agrees with what stands beside it, and this is the first that is refused by itself or beside those before it, or has no room behind them
pub record IsJoinedStopped (besides : List Beside) (grid : Ladders) (under : Basis) (texts : List (List ℕ)) (fault : ShardFault) : Type 0 where
  pub knowns : List Belonging
  pub are_known : AreKnownTexts under besides texts knowns
  pub first : IsFirstStopped grid texts fault

-- the text that a reader over bytes in memory gives
abbrev pub text_of : Counted (Bor (List ℕ)) → List ℕ
text_of reader = (counted_inner reader).now

-- texts in memory don't fail, so a device says as little of them as want of memory
abbrev pub of_journals : ShardFault → JoinFault
of_journals (shards.Desk fault) = joins.Carry carry.Memory
of_journals fault = joins.Journals fault

-- the journals that were read don't become one
abbrev pub IsStoppedRead : Ladders → List (List ℕ) → JoinFault → Type 0
IsStoppedRead grid texts (joins.Journals fault) = IsFirstStopped grid texts fault
IsStoppedRead grid texts (joins.Carry fault) = fault ≡ carry.Memory
IsStoppedRead grid texts _ = ⊥

-- or are one, whose bookings are not carried
abbrev pub IsUncarriedRead : CarryAsked → List Flown → Ladders → List Flown → Ladders → List (List ℕ) → CarryFault → Type 0
IsUncarriedRead asked news file olds grid texts (carry.Season fault) = ⊥
IsUncarriedRead asked news file olds grid texts carry.Unsealed = ⊥
IsUncarriedRead asked news file olds grid texts (carry.Row row) = HasNoPlan asked news file olds grid texts (carry.Row row)
IsUncarriedRead asked news file olds grid texts (carry.Over lines) = HasNoPlan asked news file olds grid texts (carry.Over lines)
IsUncarriedRead asked news file olds grid texts carry.Full = HasNoPlan asked news file olds grid texts carry.Full
IsUncarriedRead asked news file olds grid texts carry.Memory = Unit {0}

abbrev pub IsUnmadeOfRead : CarryAsked → List Flown → Ladders → List Flown → Ladders → List (List ℕ) → JoinFault → Type 0
IsUnmadeOfRead asked news file olds grid texts (joins.Carry fault) = IsUncarriedRead asked news file olds grid texts fault
IsUnmadeOfRead asked news file olds grid texts (joins.Journals fault) = IsFirstStopped grid texts fault
IsUnmadeOfRead asked news file olds grid texts _ = ⊥

-- the first season that is not right is at fault
abbrev pub IsSeasonRefused : {S L : Type 0} → Bytes S → Bytes L → Inputs S L → Inputs S L → Bool → DeskFault → Type 0
IsSeasonRefused set limits from to true fault = IsOfInput fault → IsRefusedLoadOf set limits to fault
IsSeasonRefused set limits from to false fault = HasGroundOf set limits to × (IsOfInput fault → IsRefusedLoadOf set limits from fault)

abbrev pub IsSeasonTooLarge : {S L : Type 0} → Bytes S → Bytes L → Inputs S L → Inputs S L → Bool → Type 0
IsSeasonTooLarge set limits from to true = IsFirstTooLargeLoadOf set limits to
IsSeasonTooLarge set limits from to false = IsFirstTooLargeLoadOf set limits from

pub record IsSeasonFault {S L : Type 0} (set : Bytes S) (limits : Bytes L) (from to : Inputs S L) (fault : SeasonFault) : Type 0 where
  pub refused : IsSeasonRefused set limits from to fault.is_new fault.fault
  pub large : fault.fault ≡ desk.TooLarge → IsSeasonTooLarge set limits from to fault.is_new

abbrev pub IsUncarriedBy : {S L : Type 0} → Bytes S → Bytes L → Inputs S L → Inputs S L → List (Option (List ℕ)) → List Beside → CarryAsked
    → CarryFault → Type 0
IsUncarriedBy set limits from to journals besides asked (carry.Season fault) = IsSeasonFault set limits from to fault
IsUncarriedBy set limits from to journals besides asked carry.Unsealed = ⊥
IsUncarriedBy set limits from to journals besides asked (carry.Row row) =
    IsOverAll set limits from to journals (λ news file basis olds grid under texts. IsJoinedUnmade asked besides news file olds grid under texts (carry.Row row))
IsUncarriedBy set limits from to journals besides asked (carry.Over lines) =
    IsOverAll set limits from to journals (λ news file basis olds grid under texts. IsJoinedUnmade asked besides news file olds grid under texts (carry.Over lines))
IsUncarriedBy set limits from to journals besides asked carry.Full =
    IsOverAll set limits from to journals (λ news file basis olds grid under texts. IsJoinedUnmade asked besides news file olds grid under texts carry.Full)
IsUncarriedBy set limits from to journals besides asked carry.Memory = Unit {0}

-- both seasons are right, and the first journal that does not agree with what stands beside it, or of which no more is known than its bytes, is at fault
abbrev pub IsUnreadOver : {S L : Type 0} → Bytes S → Bytes L → Inputs S L → Inputs S L → List (Option (List ℕ)) → List Beside → JoinFault → Type 0
IsUnreadOver set limits from to journals besides fault =
    IsOntoOf set limits to (λ news file basis. IsOntoOf set limits from (λ olds grid under. IsUnreadOn under besides journals 0 fault))

-- the first season that is not right is at fault; or the first journal that does not agree with what stands beside it, or of which no more is known than
-- its bytes; or the first that is no legal history, or has a line on a flight of those before it, or no room behind them; or their bookings
abbrev pub IsUnjoined : {S L : Type 0} → Bytes S → Bytes L → Inputs S L → Inputs S L → List (Option (List ℕ)) → List Beside → CarryAsked
    → JoinFault → Type 0
IsUnjoined set limits from to journals besides asked (joins.Carry fault) = IsUncarriedBy set limits from to journals besides asked fault
IsUnjoined set limits from to journals besides asked (joins.Beside at fault) =
    IsUnreadOver set limits from to journals besides (joins.Beside at fault)
IsUnjoined set limits from to journals besides asked (joins.Unsealed at) = IsUnreadOver set limits from to journals besides (joins.Unsealed at)
IsUnjoined set limits from to journals besides asked joins.Device = Unit {0}
IsUnjoined set limits from to journals besides asked (joins.Journals fault) =
    IsOverAll set limits from to journals (λ news file basis olds grid under texts. IsJoinedStopped besides grid under texts fault)

-- ---- which input failed

-- of the first season that was not read and right
abbrev pub IsSeasonFailed : {S L : Type 0} → Bytes S → Bytes L → (S → ℕ) → (L → ℕ) → Inputs S L → Inputs S L → Inputs S L → Inputs S L → Bool → Type 0
IsSeasonFailed set limits of_set of_limits from from_new to to_new true = HasFirstLoadFailed set of_set of_limits to to_new
IsSeasonFailed set limits of_set of_limits from from_new to to_new false =
    HasGroundOf set limits to × HasFirstLoadFailed set of_set of_limits from from_new

abbrev pub HasCarryFailed : {S L : Type 0} → Bytes S → Bytes L → (S → ℕ) → (L → ℕ) → Inputs S L → Inputs S L → Inputs S L → Inputs S L → CarryFault
    → Type 0
HasCarryFailed set limits of_set of_limits from from_new to to_new (carry.Season fault) =
    fault.fault ≡ desk.Device → IsSeasonFailed set limits of_set of_limits from from_new to to_new fault.is_new
HasCarryFailed set limits of_set of_limits from from_new to to_new fault = Unit {0}

-- or the first of the journals over seasons that are right
pub record HasJournalFailed {S L J : Type 0} (set : Bytes S) (limits : Bytes L) (of_journal : J → ℕ) (from to : Inputs S L) (besides : List Beside)
    (texts : List (Option (List ℕ))) (olds news : List J) : Type 0 where
  pub new_is_right : HasGroundOf set limits to
  pub old_is_right : HasGroundOf set limits from
  pub under : Basis
  pub is_basis : IsBasisOf set limits from under
  pub failed : HasFailedReading under besides texts of_journal olds news

-- where a device is at fault
abbrev pub HasJoinFailed : {S L J : Type 0} → Bytes S → Bytes L → (S → ℕ) → (L → ℕ) → (J → ℕ) → Inputs S L → Inputs S L → Inputs S L → Inputs S L
    → List Beside → List (Option (List ℕ)) → List J → List J → JoinFault → Type 0
HasJoinFailed set limits of_set of_limits of_journal from from_new to to_new besides texts olds news (joins.Carry fault) =
    HasCarryFailed set limits of_set of_limits from from_new to to_new fault
HasJoinFailed set limits of_set of_limits of_journal from from_new to to_new besides texts olds news joins.Device =
    HasJournalFailed set limits of_journal from to besides texts olds news
HasJoinFailed set limits of_set of_limits of_journal from from_new to to_new besides texts olds news fault = Unit {0}
