-- What is known of the inputs of a run, as far as they are read and right.
use Rattle.seat_journal.specs.declared.entry.Control.{Control}
use Rattle.std.proofs.Common.{◌≡◌, ◌⊎◌, inl, inr, ℕ, List, Option, Some, None, IfSome, length, ◌<◌, sym, subst}
use Rattle.seat_scripts.proofs.Common.{Request, Entry, Ladders, most_journal_bytes, IsFirstTooLargeLoad, IsLoaded, HasLoaded, OfThree, AreScripts, IsTooLargeAmong}
use Rattle.ssim_flights.specs.declared.flight.Flight.{Flight as Flown}
use Rattle.seat_replies.specs.Asked.{HasPast, HasScripts, IsAsked, IsTooLargeRun}
use Rattle.seat_replies.specs.Changes.{AreChanges, most_change_bytes}
use Rattle.seat_replies.specs.Going.{IsPast}

-- what is said of known bytes is said of those that may be known
pub if_known : (P : List ℕ → List ℕ → Type 0) (A : List ℕ → Type 0) (Q : List ℕ → List ℕ → List ℕ → Type 0)
    (set limits after : Option (List ℕ)) → ((xs ys zs : List ℕ) → P xs ys → A zs → Q xs ys zs)
    → IfSome set (λ xs. IfSome limits (λ ys. P xs ys)) → IfSome after A → OfThree set limits after Q
if_known P A Q (Some xs) (Some ys) (Some zs) give all more = give xs ys zs all more
if_known P A Q (Some xs) (Some ys) None give all more = tt
if_known P A Q (Some xs) None after give all more = tt
if_known P A Q None limits after give all more = tt

-- and where the older journal is not asked
pub if_loaded : (P : List ℕ → List ℕ → Type 0) (Q : List ℕ → List ℕ → List ℕ → Type 0)
    (set limits after : Option (List ℕ)) → ((xs ys zs : List ℕ) → P xs ys → Q xs ys zs)
    → IfSome set (λ xs. IfSome limits (λ ys. P xs ys)) → OfThree set limits after Q
if_loaded P Q (Some xs) (Some ys) (Some zs) give all = give xs ys zs all
if_loaded P Q (Some xs) (Some ys) None give all = tt
if_loaded P Q (Some xs) None after give all = tt
if_loaded P Q None limits after give all = tt

-- what is loaded says that the set and the limits are right
module _ (set limits : Option (List ℕ)) (first days : ℕ) (flights : List Flown) (grid : Ladders)
    (loaded : IfSome set (λ xs. IfSome limits (λ ys. IsLoaded xs ys first days flights grid))) where
  pub has_loaded : IfSome set (λ xs. IfSome limits (λ ys. HasLoaded xs ys first days))
  has_loaded = by set limits loaded where
    by : (s l : Option (List ℕ)) → IfSome s (λ xs. IfSome l (λ ys. IsLoaded xs ys first days flights grid))
        → IfSome s (λ xs. IfSome l (λ ys. HasLoaded xs ys first days))
    by (Some xs) (Some ys) is = record { flights = flights; grid = grid; is_loaded = is }
    by (Some xs) None is = tt
    by None l is = tt

module _ (set limits after : Option (List ℕ)) (first days today : ℕ) (texts : List (Option (List ℕ))) (changing : Option (List ℕ)) where
  abbrev IsLarge : Type 0
  IsLarge = OfThree set limits after (λ xs ys zs. IsTooLargeRun xs ys first days today zs texts changing)

  pub large_load : IfSome set (λ xs. IfSome limits (λ ys. IsFirstTooLargeLoad xs ys first days)) → IsLarge
  large_load over = if_loaded (λ xs ys. IsFirstTooLargeLoad xs ys first days) (λ xs ys zs. IsTooLargeRun xs ys first days today zs texts changing) set limits after (λ xs ys zs is. inl is) over

  module _ (flights : List Flown) (grid : Ladders) (loaded : IfSome set (λ xs. IfSome limits (λ ys. IsLoaded xs ys first days flights grid))) where
    pub large_past : IfSome after (λ zs. most_journal_bytes < length zs) → IsLarge
    large_past over =
        if_known (λ xs ys. IsLoaded xs ys first days flights grid) (λ zs. most_journal_bytes < length zs) (λ xs ys zs. IsTooLargeRun xs ys first days today zs texts changing) set limits after
        (λ xs ys zs is large. inr (inl (record { flights = flights; grid = grid; is_loaded = is }, large))) loaded over

    pub past_fails : (load past rest : Type 0) → past
        → load ⊎ ((IfSome set (λ xs. IfSome limits (λ ys. HasLoaded xs ys first days)) × past) ⊎ rest)
    past_fails load past rest failed = inr (inl (has_loaded set limits first days flights grid loaded, failed))

    module _ (past : List Entry) (before : IfSome after (IsPast grid past)) where
      abbrev a_past : (xs ys zs : List ℕ) → IsLoaded xs ys first days flights grid → IsPast grid past zs
          → HasPast xs ys first days zs
      a_past xs ys zs is was = record { flights = flights; grid = grid; is_loaded = is; past = past; is_past = was }

      has_past : OfThree set limits after (λ xs ys zs. HasPast xs ys first days zs)
      has_past = if_known (λ xs ys. IsLoaded xs ys first days flights grid) (IsPast grid past) (λ xs ys zs. HasPast xs ys first days zs) set limits after a_past loaded before

      pub large_script : IsTooLargeAmong today texts → IsLarge
      large_script over =
          if_known (λ xs ys. IsLoaded xs ys first days flights grid) (IsPast grid past) (λ xs ys zs. IsTooLargeRun xs ys first days today zs texts changing) set limits after
          (λ xs ys zs is was. inr (inr (inl (a_past xs ys zs is was, over)))) loaded before

      pub script_fails : (load past script rest : Type 0) → script
          → load ⊎ (past ⊎ ((OfThree set limits after (λ xs ys zs. HasPast xs ys first days zs) × script) ⊎ rest))
      script_fails load past script rest failed = inr (inr (inl (has_past, failed)))

      module _ (scripts : List (List Request)) (are : AreScripts today texts scripts) where
        abbrev all_scripts : (xs ys zs : List ℕ) → IsLoaded xs ys first days flights grid → IsPast grid past zs
            → HasScripts xs ys first days today zs texts
        all_scripts xs ys zs is was = record { has_past = a_past xs ys zs is was; scripts = scripts; are_scripts = are }

        has_scripts : OfThree set limits after (λ xs ys zs. HasScripts xs ys first days today zs texts)
        has_scripts = if_known (λ xs ys. IsLoaded xs ys first days flights grid) (IsPast grid past) (λ xs ys zs. HasScripts xs ys first days today zs texts) set limits after all_scripts loaded before

        pub large_changes : IfSome changing (λ bytes. most_change_bytes < length bytes) → IsLarge
        large_changes over =
            if_known (λ xs ys. IsLoaded xs ys first days flights grid) (IsPast grid past) (λ xs ys zs. IsTooLargeRun xs ys first days today zs texts changing) set limits after
            (λ xs ys zs is was. inr (inr (inr (all_scripts xs ys zs is was, over)))) loaded before

        pub changes_fail : (load past script changes : Type 0) → changes
            → load ⊎ (past ⊎ (script ⊎ (OfThree set limits after
            (λ xs ys zs. HasScripts xs ys first days today zs texts) × changes)))
        changes_fail load past script changes failed = inr (inr (inr (has_scripts, failed)))

        -- all is right
        pub asked_of : (now : Ladders) (changes : List Control) → now ≡ grid
            → IfSome changing (AreChanges flights changes)
            → OfThree set limits after (λ xs ys zs. IsAsked xs ys first days today zs texts changing flights now past
            scripts changes)
        asked_of now changes same may =
            subst (λ (g : Ladders). OfThree set limits after (λ xs ys zs. IsAsked xs ys first days today zs texts changing flights g past scripts changes)) (sym same)
            (if_known (λ xs ys. IsLoaded xs ys first days flights grid) (IsPast grid past) (λ xs ys zs. IsAsked xs ys first days today zs texts changing flights grid past scripts changes) set limits after
            (λ xs ys zs is was. record { is_loaded = is; is_past = was; are_scripts = are; are_changes = may }) loaded before)
