-- What is refused, or fails, behind a set and limits that are right.
use Rattle.std.proofs.Common.{◌≡◌, ◌≤◌, inr, ℕ, List, Option, Some, None, IfSome, Result, Ok, Err, IfErr, IfOk, length, map, subst, ap, arith, ◌∙◌}
use Rattle.std.proofs.lemmas.List.{length-map}
use Rattle.ssim_flights.specs.declared.flight.Flight.{Flight as Flown}
use Rattle.seat_limits.specs.Authorised.{authorised_grid, authorised_legs}
use Rattle.seat_limits.specs.declared.limit_row.LimitRow.{LimitRow}
use Rattle.seat_nesting.specs.Nesting.{Ladders}
use Rattle.seat_rules.specs.declared.totals.Totals.{Totals}
use Rattle.seat_desk.specs.AuditDesk.{audit_line}
use Rattle.seat_desk.specs.Loading.{Bytes, IsGround, IsGroundOf}
use Rattle.seat_desk.specs.declared.inputs.Inputs.{Inputs}
use Rattle.seat_desk.specs.declared.fault.DeskFault.TheVariants.{Device, Memory, TooLarge}
use Rattle.seat_shards.specs.declared.fault.ShardFault.{ShardFault}
use Rattle.seat_shards.specs.declared.fault.ShardFault.TheVariants.{Desk, Journal, Shared}
use Rattle.seat_shards.specs.Auditing.{HasFirstFailed, IsFirstFailed, IsRefusedShards, IsRefusedShardsOf, IsShardsAnswer, IsShardsAnswerOf, IsTotalled, IsTotalledOf}
use Rattle.seat_shards.specs.Faults.{IsOfJournal, IsOfJournals, IsOfShards}
use Rattle.seat_shards.specs.Taking.{known, AreTotalled, HasFailedAmong, IsFirstRefused}

-- the grid has a row of legs for each flight
pub as_many : (flights : List Flown) (rows : List LimitRow) (grid : Ladders) → grid ≡ authorised_grid rows flights
    → length grid ≤ length flights
as_many flights rows grid is =
    let same : length grid ≡ length flights = ap length is ∙ length-map flights (authorised_legs rows) in
    omega (arith, same)

refused_texts : (set limits : List ℕ) (first days : ℕ) (flights : List Flown) (rows : List LimitRow) (grid : Ladders)
    (texts : List (List ℕ)) (fault : ShardFault) → IsGround set limits first days flights rows → grid ≡ authorised_grid rows flights
    → IsOfJournals fault → IsOfShards fault → (IsOfJournal fault → IsFirstRefused grid texts fault)
    → IsRefusedShards set limits first days texts fault
refused_texts set limits first days flights rows grid texts (Desk Device) ground is kind of refused = absurd of
refused_texts set limits first days flights rows grid texts (Desk Memory) ground is kind of refused = absurd of
refused_texts set limits first days flights rows grid texts (Desk _) ground is kind of refused = absurd kind
refused_texts set limits first days flights rows grid texts (Journal place fault) ground is kind of refused =
    let P : Ladders → Type 0 = λ g. IsFirstRefused g texts (Journal place fault) in
    record { flights = flights; rows = rows; is_ground = ground; refused = subst P is (refused tt) }
refused_texts set limits first days flights rows grid texts (Shared place number other) ground is kind of refused =
    let P : Ladders → Type 0 = λ g. IsFirstRefused g texts (Shared place number other) in
    record { flights = flights; rows = rows; is_ground = ground; refused = subst P is (refused tt) }

pub refused_over_ground : {S L : Type 0} → (set : Bytes S) (limits : Bytes L) (inputs : Inputs S L) (readers : List (Option (List ℕ)))
    (flights : List Flown) (rows : List LimitRow) (grid : Ladders) (fault : ShardFault) → IsGroundOf set limits inputs flights rows
    → grid ≡ authorised_grid rows flights → IsOfJournals fault
    → (IsOfJournal fault → IfSome (known readers) (λ texts. IsFirstRefused grid texts fault)) → IsOfShards fault
    → IsRefusedShardsOf set limits inputs readers fault
refused_over_ground set limits inputs readers flights rows grid fault ground is kind refused of =
    by (set inputs.set) (limits inputs.limits) (known readers) ground refused
  where
    by : (x y : Option (List ℕ)) (z : Option (List (List ℕ)))
        → IfSome x (λ xs. IfSome y (λ ys. IsGround xs ys inputs.first inputs.days flights rows))
        → (IsOfJournal fault → IfSome z (λ texts. IsFirstRefused grid texts fault))
        → IfSome x (λ xs. IfSome y (λ ys. IfSome z (λ zs. IsRefusedShards xs ys inputs.first inputs.days zs fault)))
    by None y z g r = tt
    by (Some xs) None z g r = tt
    by (Some xs) (Some ys) None g r = tt
    by (Some xs) (Some ys) (Some zs) g r = refused_texts xs ys inputs.first inputs.days flights rows grid zs fault g is kind of r

pub failed_over_ground : {S L J : Type 0} → (set : Bytes S) (limits : Bytes L) (of_set : S → ℕ) (of_limits : L → ℕ) (remaining : Bytes J)
    (of_journal : J → ℕ) (old new : Inputs S L) (olds news : List J) (flights : List Flown) (rows : List LimitRow) (grid : Ladders)
    → IsGroundOf set limits old flights rows → grid ≡ authorised_grid rows flights
    → HasFailedAmong grid (map remaining olds) of_journal olds news
    → HasFirstFailed set limits of_set of_limits remaining of_journal old new olds news
failed_over_ground set limits of_set of_limits remaining of_journal old new olds news flights rows grid ground is failed =
    inr (by (set old.set) (limits old.limits) ground)
  where
    P : Ladders → Type 0
    P g = HasFailedAmong g (map remaining olds) of_journal olds news

    by : (x y : Option (List ℕ)) → IfSome x (λ xs. IfSome y (λ ys. IsGround xs ys old.first old.days flights rows))
        → IfSome x (λ xs. IfSome y (λ ys. IsFirstFailed xs ys old.first old.days remaining of_journal olds news))
    by None y g = tt
    by (Some xs) None g = tt
    by (Some xs) (Some ys) g = record { flights = flights; rows = rows; is_ground = g; failed = subst P is failed }

-- ---- what the journals are answered

totalled_over_ground : {S L : Type 0} → (set : Bytes S) (limits : Bytes L) (inputs : Inputs S L) (readers : List (Option (List ℕ)))
    (flights : List Flown) (rows : List LimitRow) (grid : Ladders) (totals : Totals) → IsGroundOf set limits inputs flights rows
    → grid ≡ authorised_grid rows flights → IfSome (known readers) (λ texts. AreTotalled grid texts totals)
    → IsTotalledOf set limits inputs readers totals
totalled_over_ground set limits inputs readers flights rows grid totals ground is all =
    by (set inputs.set) (limits inputs.limits) (known readers) ground all
  where
    by : (x y : Option (List ℕ)) (z : Option (List (List ℕ)))
        → IfSome x (λ xs. IfSome y (λ ys. IsGround xs ys inputs.first inputs.days flights rows))
        → IfSome z (λ texts. AreTotalled grid texts totals)
        → IfSome x (λ xs. IfSome y (λ ys. IfSome z (λ zs. IsTotalled xs ys inputs.first inputs.days zs totals)))
    by None y z g r = tt
    by (Some xs) None z g r = tt
    by (Some xs) (Some ys) None g r = tt
    by (Some xs) (Some ys) (Some zs) g r = record {
      flights = flights;
      rows = rows;
      is_ground = g;
      are_totalled = subst (λ (l : Ladders). AreTotalled l zs totals) is r;
    }

pub answers_totals : {S L : Type 0} → (set : Bytes S) (limits : Bytes L) (inputs : Inputs S L) (readers : List (Option (List ℕ)))
    (flights : List Flown) (rows : List LimitRow) (grid : Ladders) (answer : Result Totals ShardFault)
    → IsGroundOf set limits inputs flights rows → grid ≡ authorised_grid rows flights
    → IfOk answer (λ totals. IfSome (known readers) (λ texts. AreTotalled grid texts totals))
    → IfOk answer (IsTotalledOf set limits inputs readers)
answers_totals set limits inputs readers flights rows grid (Ok totals) ground is all =
    totalled_over_ground set limits inputs readers flights rows grid totals ground is all
answers_totals set limits inputs readers flights rows grid (Err fault) ground is all = tt

pub answers_refusal : {S L : Type 0} → (set : Bytes S) (limits : Bytes L) (inputs : Inputs S L) (readers : List (Option (List ℕ)))
    (flights : List Flown) (rows : List LimitRow) (grid : Ladders) (answer : Result Totals ShardFault)
    → IsGroundOf set limits inputs flights rows → grid ≡ authorised_grid rows flights → IfErr answer IsOfJournals
    → IfErr answer (λ f. IsOfJournal f → IfSome (known readers) (λ texts. IsFirstRefused grid texts f))
    → IfErr answer (λ f. IsOfShards f → IsRefusedShardsOf set limits inputs readers f)
answers_refusal set limits inputs readers flights rows grid (Ok totals) ground is kind refused = tt
answers_refusal set limits inputs readers flights rows grid (Err fault) ground is kind refused =
    λ of. refused_over_ground set limits inputs readers flights rows grid fault ground is kind refused of

pub answers_failure : {S L J : Type 0} → (set : Bytes S) (limits : Bytes L) (of_set : S → ℕ) (of_limits : L → ℕ) (remaining : Bytes J)
    (of_journal : J → ℕ) (old new : Inputs S L) (olds news : List J) (flights : List Flown) (rows : List LimitRow) (grid : Ladders)
    (answer : Result Totals ShardFault) → IsGroundOf set limits old flights rows → grid ≡ authorised_grid rows flights
    → IfErr answer (λ f. f ≡ Desk Device → HasFailedAmong grid (map remaining olds) of_journal olds news)
    → IfErr answer (λ f. f ≡ Desk Device → HasFirstFailed set limits of_set of_limits remaining of_journal old new olds news)
answers_failure set limits of_set of_limits remaining of_journal old new olds news flights rows grid (Ok totals) ground is failed = tt
answers_failure set limits of_set of_limits remaining of_journal old new olds news flights rows grid (Err fault) ground is failed =
    λ device. failed_over_ground set limits of_set of_limits remaining of_journal old new olds news flights rows grid ground is (failed device)

pub never_too_large : (P : Type 0) (answer : Result Totals ShardFault) → IfErr answer IsOfJournals
    → IfErr answer (λ f. f ≡ Desk TooLarge → P)
never_too_large P (Ok totals) kind = tt
never_too_large P (Err fault) kind = λ large. absurd (subst IsOfJournals large kind)

pub says_totals : {S L : Type 0} → (set : Bytes S) (limits : Bytes L) (inputs : Inputs S L) (readers : List (Option (List ℕ)))
    (totals : Totals) (line : List ℕ) → IsTotalledOf set limits inputs readers totals → line ≡ audit_line totals
    → IsShardsAnswerOf set limits inputs readers line
says_totals set limits inputs readers totals line all says = by (set inputs.set) (limits inputs.limits) (known readers) all where
  by : (x y : Option (List ℕ)) (z : Option (List (List ℕ)))
      → IfSome x (λ xs. IfSome y (λ ys. IfSome z (λ zs. IsTotalled xs ys inputs.first inputs.days zs totals)))
      → IfSome x (λ xs. IfSome y (λ ys. IfSome z (λ zs. IsShardsAnswer xs ys inputs.first inputs.days zs line)))
  by None y z r = tt
  by (Some xs) None z r = tt
  by (Some xs) (Some ys) None r = tt
  by (Some xs) (Some ys) (Some zs) r = record { totals = totals; is = r; says = says }
