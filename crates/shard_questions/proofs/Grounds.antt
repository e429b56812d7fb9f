-- What is answered, or refused, behind a set and limits that are right.
use Rattle.std.proofs.Common.{◌≡◌, ◌⊎◌, inl, inr, ℕ, List, Option, Some, None, IfSome, subst}
use Rattle.ssim_flights.specs.declared.flight.Flight.{Flight as Flown}
use Rattle.seat_limits.specs.Authorised.{authorised_grid}
use Rattle.seat_limits.specs.declared.limit_row.LimitRow.{LimitRow}
use Rattle.seat_nesting.specs.Nesting.{Ladders}
use Rattle.seat_desk.specs.Desk.{IsOfInput}
use Rattle.seat_desk.specs.Loading.{Bytes, IsFirstTooLargeLoadOf, IsGround, IsGroundOf, IsRefusedLoad, IsRefusedLoadOf}
use Rattle.seat_desk.specs.declared.fault.DeskFault.{DeskFault}
use Rattle.seat_desk.specs.declared.inputs.Inputs.{Inputs}
use Rattle.seat_shards.specs.declared.fault.ShardFault.{ShardFault}
use Rattle.seat_shards.specs.declared.fault.ShardFault.TheVariants.{Desk}
use Rattle.seat_shards.specs.Faults.{IsOfShards}
use Rattle.seat_shards.specs.Taking.{known}
use Rattle.shard_questions.specs.Together.{Answers, IsAnswered, IsRefused, IsRefusedBehind, IsRefusedOf, IsTogether, IsTogetherOf, IsTooLargeOf, IsTooLong, IsTooLongOver, Refuses}

pub answered_over_ground : {S L : Type 0} → (answers : Answers) (set : Bytes S) (limits : Bytes L) (inputs : Inputs S L)
    (readers : List (Option (List ℕ))) (flights : List Flown) (rows : List LimitRow) (grid : Ladders) (text : List ℕ)
    → IsGroundOf set limits inputs flights rows → grid ≡ authorised_grid rows flights
    → IfSome (known readers) (λ texts. IsAnswered answers flights rows grid texts text)
    → IsTogetherOf answers set limits inputs readers text
answered_over_ground answers set limits inputs readers flights rows grid text ground is says =
    by (set inputs.set) (limits inputs.limits) (known readers) ground says
  where
    by : (x y : Option (List ℕ)) (z : Option (List (List ℕ)))
        → IfSome x (λ xs. IfSome y (λ ys. IsGround xs ys inputs.first inputs.days flights rows))
        → IfSome z (λ texts. IsAnswered answers flights rows grid texts text)
        → IfSome x (λ xs. IfSome y (λ ys. IfSome z (λ zs. IsTogether answers xs ys inputs.first inputs.days zs text)))
    by None y z g r = tt
    by (Some xs) None z g r = tt
    by (Some xs) (Some ys) None g r = tt
    by (Some xs) (Some ys) (Some zs) g r =
        let P : Ladders → Type 0 = λ l. IsAnswered answers flights rows l zs text in
        record { flights = flights; rows = rows; is_ground = g; answered = subst P is r }

pub refused_over_ground : {S L : Type 0} → (refuses : Refuses) (set : Bytes S) (limits : Bytes L) (inputs : Inputs S L)
    (readers : List (Option (List ℕ))) (flights : List Flown) (rows : List LimitRow) (grid : Ladders) (fault : ShardFault)
    → IsGroundOf set limits inputs flights rows → grid ≡ authorised_grid rows flights
    → (IsOfShards fault → IfSome (known readers) (λ texts. IsRefusedBehind refuses grid texts fault)) → IsOfShards fault
    → IsRefusedOf refuses set limits inputs readers fault
refused_over_ground refuses set limits inputs readers flights rows grid fault ground is says of =
    by (set inputs.set) (limits inputs.limits) (known readers) ground (says of)
  where
    by : (x y : Option (List ℕ)) (z : Option (List (List ℕ)))
        → IfSome x (λ xs. IfSome y (λ ys. IsGround xs ys inputs.first inputs.days flights rows))
        → IfSome z (λ texts. IsRefusedBehind refuses grid texts fault)
        → IfSome x (λ xs. IfSome y (λ ys. IfSome z (λ zs. IsRefused refuses xs ys inputs.first inputs.days zs fault)))
    by None y z g r = tt
    by (Some xs) None z g r = tt
    by (Some xs) (Some ys) None g r = tt
    by (Some xs) (Some ys) (Some zs) g r =
        let P : Ladders → Type 0 = λ l. IsRefusedBehind refuses l zs fault in
        inr (record { flights = flights; rows = rows; is_ground = g; refused = subst P is r })

pub refused_ground : {S L : Type 0} → (refuses : Refuses) (set : Bytes S) (limits : Bytes L) (inputs : Inputs S L)
    (readers : List (Option (List ℕ))) (fault : DeskFault) → (IsOfInput fault → IsRefusedLoadOf set limits inputs fault)
    → IsOfInput fault → IsRefusedOf refuses set limits inputs readers (Desk fault)
refused_ground refuses set limits inputs readers fault says of =
    by (set inputs.set) (limits inputs.limits) (known readers) (says of)
  where
    by : (x y : Option (List ℕ)) (z : Option (List (List ℕ)))
        → IfSome x (λ xs. IfSome y (λ ys. IsRefusedLoad xs ys inputs.first inputs.days fault))
        → IfSome x (λ xs. IfSome y (λ ys. IfSome z (λ zs. IsRefused refuses xs ys inputs.first inputs.days zs (Desk fault))))
    by None y z r = tt
    by (Some xs) None z r = tt
    by (Some xs) (Some ys) None r = tt
    by (Some xs) (Some ys) (Some zs) r = inl r

pub large_ground : {S L : Type 0} → (set : Bytes S) (limits : Bytes L) (inputs : Inputs S L) (readers : List (Option (List ℕ)))
    → IsFirstTooLargeLoadOf set limits inputs → IsTooLargeOf set limits inputs readers
large_ground set limits inputs readers is = inl is

pub long_over_ground : {S L : Type 0} → (set : Bytes S) (limits : Bytes L) (inputs : Inputs S L) (readers : List (Option (List ℕ)))
    (flights : List Flown) (rows : List LimitRow) (grid : Ladders) → IsGroundOf set limits inputs flights rows
    → grid ≡ authorised_grid rows flights → IfSome (known readers) (IsTooLong grid) → IsTooLargeOf set limits inputs readers
long_over_ground set limits inputs readers flights rows grid ground is long =
    inr (by (set inputs.set) (limits inputs.limits) (known readers) ground long)
  where
    by : (x y : Option (List ℕ)) (z : Option (List (List ℕ)))
        → IfSome x (λ xs. IfSome y (λ ys. IsGround xs ys inputs.first inputs.days flights rows))
        → IfSome z (IsTooLong grid)
        → IfSome x (λ xs. IfSome y (λ ys. IfSome z (λ zs. IsTooLongOver xs ys inputs.first inputs.days zs)))
    by None y z g r = tt
    by (Some xs) None z g r = tt
    by (Some xs) (Some ys) None g r = tt
    by (Some xs) (Some ys) (Some zs) g r =
        let P : Ladders → Type 0 = λ l. IsTooLong l zs in
        record { flights = flights; rows = rows; is_ground = g; long = subst P is r }
