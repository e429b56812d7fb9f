-- What a run is asked: its inputs, each right, and each behind those that are read before it.
use Rattle.std.specs.Prelude.{◌<◌, ◌⊎◌, ℕ, List, length, Option, IfSome}
use Rattle.airimp_lines.specs.declared.requests.Request.{Request}
use Rattle.ssim_flights.specs.declared.flight.Flight.{Flight as Flown}
use Rattle.seat_nesting.specs.Nesting.{Ladders}
use Rattle.seat_journal.specs.declared.entry.Control.{Control}
use Rattle.seat_journal.specs.declared.entry.Entry.{Entry}
use Rattle.seat_desk.specs.AuditDesk.{most_journal_bytes}
use Rattle.seat_desk.specs.Loading.{Bytes, IsFirstTooLargeLoad, IsLoaded}
use Rattle.seat_desk.specs.declared.inputs.Inputs.{Inputs}
use Rattle.seat_replies.specs.Changes.{AreChanges, most_change_bytes}
use Rattle.seat_replies.specs.Going.{IsPast}
use Rattle.seat_replies.specs.Requests.{AreScripts, IsTooLargeAmong}

-- where the bytes of the set, of the limits and of the older journal are known
abbrev pub OfThree : Option (List ℕ) → Option (List ℕ) → Option (List ℕ) → (List ℕ → List ℕ → List ℕ → Type 0) → Type 0
OfThree set limits after P = IfSome set (λ xs. IfSome limits (λ ys. IfSome after (λ zs. P xs ys zs)))

-- the set and the limits load as this grid of these flights, the older journal has these lines, and the scripts and the changes ask for these
pub record IsAsked (set limits : List ℕ) (first days today : ℕ) (after : List ℕ) (texts : List (Option (List ℕ)))
    (changing : Option (List ℕ))
    (flights : List Flown) (grid : Ladders) (past : List Entry) (scripts : List (List Request))
    (changes : List Control) : Type 0 where
  pub is_loaded : IsLoaded set limits first days flights grid
  pub is_past : IsPast grid past after
  pub are_scripts : AreScripts today texts scripts
  pub are_changes : IfSome changing (AreChanges flights changes)

abbrev pub IsAskedOf : {S L : Type 0} → Bytes S → Bytes L → Inputs S L → ℕ → Option (List ℕ) → List (Option (List ℕ))
    → Option (List ℕ) → List Flown → Ladders → List Entry → List (List Request) → List Control → Type 0
IsAskedOf set limits inputs today after texts changing flights grid past scripts changes =
    OfThree (set inputs.set) (limits inputs.limits) after
    (λ xs ys zs. IsAsked xs ys inputs.first inputs.days today zs texts changing flights grid past scripts changes)

-- ---- as far as the inputs are right

-- the set and the limits
pub record HasLoaded (set limits : List ℕ) (first days : ℕ) : Type 0 where
  pub flights : List Flown
  pub grid : Ladders
  pub is_loaded : IsLoaded set limits first days flights grid

-- and the older journal
pub record HasPast (set limits : List ℕ) (first days : ℕ) (after : List ℕ) : Type 0 where
  pub flights : List Flown
  pub grid : Ladders
  pub is_loaded : IsLoaded set limits first days flights grid
  pub past : List Entry
  pub is_past : IsPast grid past after

-- and the scripts
pub record HasScripts (set limits : List ℕ) (first days today : ℕ) (after : List ℕ) (texts : List (Option (List ℕ))) :
    Type 0 where
  pub has_past : HasPast set limits first days after
  pub scripts : List (List Request)
  pub are_scripts : AreScripts today texts scripts

-- ---- inputs that are too large

-- the set is too large, or the limits behind a right set, or the older journal behind a right set and limits, or a script behind a right journal and right scripts, or the changes behind all scripts
abbrev pub IsTooLargeRun : List ℕ → List ℕ → ℕ → ℕ → ℕ → List ℕ → List (Option (List ℕ)) → Option (List ℕ) → Type 0
IsTooLargeRun set limits first days today after texts changing =
    IsFirstTooLargeLoad set limits first days
    ⊎ ((HasLoaded set limits first days × (most_journal_bytes < length after))
    ⊎ ((HasPast set limits first days after × IsTooLargeAmong today texts)
    ⊎ (HasScripts set limits first days today after texts
    × IfSome changing (λ bytes. most_change_bytes < length bytes))))

abbrev pub IsTooLargeRunOf : {S L : Type 0} → Bytes S → Bytes L → Inputs S L → ℕ → Option (List ℕ)
    → List (Option (List ℕ)) → Option (List ℕ) → Type 0
IsTooLargeRunOf set limits inputs today after texts changing =
    OfThree (set inputs.set) (limits inputs.limits) after
    (λ xs ys zs. IsTooLargeRun xs ys inputs.first inputs.days today zs texts changing)

-- ---- inputs that fail

-- the set or the limits failed, as the first says, or the older journal behind a right set and limits, or a script behind a right journal and right scripts, or the changes behind all scripts
abbrev pub FailsRun : {S L : Type 0} → Bytes S → Bytes L → Inputs S L → ℕ → Option (List ℕ) → List (Option (List ℕ))
    → Type 0 → Type 0 → Type 0 → Type 0 → Type 0
FailsRun set limits inputs today after texts load_failed past_failed script_failed changes_failed =
    load_failed
    ⊎ ((IfSome (set inputs.set) (λ xs. IfSome (limits inputs.limits) (λ ys. HasLoaded xs ys inputs.first inputs.days))
    × past_failed)
    ⊎ ((OfThree (set inputs.set) (limits inputs.limits) after (λ xs ys zs. HasPast xs ys inputs.first inputs.days zs)
    × script_failed)
    ⊎ (OfThree (set inputs.set) (limits inputs.limits) after
    (λ xs ys zs. HasScripts xs ys inputs.first inputs.days today zs texts) × changes_failed)))
