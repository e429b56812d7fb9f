-- What stands beside two journals that are read one behind the other, as far as the inputs are known, and what is refused behind it.
use Rattle.std.proofs.Common.{◌≡◌, ◌<◌, ◌⊎◌, ⊎_elim, inl, inr, ℕ, Bool, List, Option, Some, None, IfSome, length, subst}
use Rattle.std.specs.Prelude.{IsTrue, is_some}
use Rattle.ssim_flights.specs.declared.flight.Flight.{Flight as Flown}
use Rattle.seat_rules.specs.Inventory.{Inventory}
use Rattle.seat_seal.specs.declared.beside.Basis.{Basis}
use Rattle.seat_seal.specs.declared.beside.Beside.{Beside}
use Rattle.seat_desk.proofs.Grounds.{ground_of_loaded}
use Rattle.seat_desk.proofs.Sealed.{based, fault_based}
use Rattle.seat_desk.specs.Answering.{HasGround, IsFirstTooLarge, IsRefusedAnswer}
use Rattle.seat_desk.specs.AuditDesk.{IsUnlawful}
use Rattle.seat_desk.specs.Desk.{IsOfInput}
use Rattle.seat_desk.specs.Loading.{IsBehind}
use Rattle.seat_desk.specs.Sealing.{Agrees, basis_of}
use Rattle.seat_scripts.proofs.Beside.{four_older, if_known}
use Rattle.seat_scripts.proofs.Common.{DeskFault, IsLoaded, Ladders, OfThree, most_journal_bytes}
use Rattle.seat_scripts.proofs.Inputs.{if_known as if_three_known}
use Rattle.seat_scripts.specs.Against.{IsReplayWithin, OfFour}
use Rattle.seat_scripts.specs.Beside.{IsFaultless, IsRefusedBeside, IsUnsealed}
use Rattle.seat_scripts.specs.Both.{BothAgree, IsOlderSealed, IsRefusedSealed, IsTooLargeSealed, IsUnsealedBehind}
use Rattle.seat_scripts.specs.Journals.{IsFirstTooLargeOfBoth}
use Rattle.seat_scripts.specs.declared.besides.Besides.{Besides}

-- what is said twice of four texts
pub both_four : (P Q R : List ℕ → List ℕ → List ℕ → List ℕ → Type 0) (set limits after journal : Option (List ℕ))
    → ((xs ys older zs : List ℕ) → P xs ys older zs → Q xs ys older zs → R xs ys older zs)
    → OfFour set limits after journal P → OfFour set limits after journal Q → OfFour set limits after journal R
both_four P Q R (Some xs) (Some ys) (Some older) (Some zs) give one two = give xs ys older zs one two
both_four P Q R (Some xs) (Some ys) (Some older) None give one two = tt
both_four P Q R (Some xs) (Some ys) None journal give one two = tt
both_four P Q R (Some xs) None after journal give one two = tt
both_four P Q R None limits after journal give one two = tt

-- the set and the limits are loaded, and the basis is theirs where a seal stands beside a journal
pub record IsBased (first days : ℕ) (flights : List Flown) (grid : Ladders) (besides : Besides) (basis : Basis)
    (set limits : List ℕ) : Type 0 where
  pub is_loaded : IsLoaded set limits first days flights grid
  pub for_older : IsTrue (is_some besides.older.text) → basis ≡ basis_of set limits first days
  pub for_journal : IsTrue (is_some besides.journal.text) → basis ≡ basis_of set limits first days

-- the older journal comes to this inventory, and what stands beside it has no fault
pub record IsReadOlder (grid : Ladders) (besides : Besides) (basis : Basis) (older : Inventory) (bytes : List ℕ) : Type 0
  where
    pub is_replay : IsReplayWithin grid older bytes
    pub is_faultless : IsFaultless besides.older basis bytes

module _ (set limits after journal : Option (List ℕ)) (first days : ℕ) (besides : Besides) where
  abbrev Agreeing : Type 0
  Agreeing = OfFour set limits after journal (λ xs ys older zs. BothAgree besides xs ys first days older zs)

  abbrev IsRefused : DeskFault → (List ℕ → List ℕ → List ℕ → List ℕ → Type 0) → Type 0
  IsRefused fault R =
      OfFour set limits after journal (λ xs ys older zs. IsRefusedSealed besides xs ys first days older zs fault (R xs ys older zs))

  abbrev IsLarge : (List ℕ → List ℕ → List ℕ → List ℕ → Type 0) → Type 0
  IsLarge R = OfFour set limits after journal (λ xs ys older zs. IsTooLargeSealed besides xs ys first days older zs (R xs ys older zs))

  module _ (R : List ℕ → List ℕ → List ℕ → List ℕ → Type 0) where
    -- behind both that agree
    pub refused_behind : (fault : DeskFault) → Agreeing → OfFour set limits after journal R → IsRefused fault R
    refused_behind fault agreed refused =
        both_four (λ xs ys older zs. BothAgree besides xs ys first days older zs) R (λ xs ys older zs. IsRefusedSealed besides xs ys first days older zs fault (R xs ys older zs)) set limits after journal
        (λ xs ys older zs a r. inr (inr (record { ahead = a; here = r }))) agreed refused

    pub large_behind : Agreeing → OfFour set limits after journal R → IsLarge R
    large_behind agreed over =
        both_four (λ xs ys older zs. BothAgree besides xs ys first days older zs) R (λ xs ys older zs. IsTooLargeSealed besides xs ys first days older zs (R xs ys older zs)) set limits after journal
        (λ xs ys older zs a r. inr (inr (record { ahead = a; here = r }))) agreed over

  module _ (flights : List Flown) (grid : Ladders) (basis : Basis) (has : Bool)
      (loaded : IfSome set (λ xs. IfSome limits (λ ys. IsLoaded xs ys first days flights grid)))
      (known : IsTrue has → IfSome set (λ xs. IfSome limits (λ ys. basis ≡ basis_of xs ys first days)))
      (for_older : IsTrue (is_some besides.older.text) → IsTrue has) (for_journal : IsTrue (is_some besides.journal.text) → IsTrue has) where
    abbrev IsGood : List ℕ → List ℕ → Type 0
    IsGood xs ys = IsBased first days flights grid besides basis xs ys

    all_good : IfSome set (λ xs. IfSome limits (λ ys. IsGood xs ys))
    all_good = by set limits loaded known where
      by : (s l : Option (List ℕ)) → IfSome s (λ xs. IfSome l (λ ys. IsLoaded xs ys first days flights grid))
          → (IsTrue has → IfSome s (λ xs. IfSome l (λ ys. basis ≡ basis_of xs ys first days)))
          → IfSome s (λ xs. IfSome l (λ ys. IsGood xs ys))
      by (Some xs) (Some ys) is b = record { is_loaded = is; for_older = λ t. b (for_older t); for_journal = λ t. b (for_journal t) }
      by (Some xs) None is b = tt
      by None l is b = tt

    a_ground : (xs ys : List ℕ) → IsGood xs ys → HasGround first days xs ys
    a_ground xs ys is = record {
      flights = flights;
      rows = is.is_loaded.loaded.rows;
      is_ground = ground_of_loaded xs ys first days flights grid is.is_loaded;
    }

    agreeing : (beside : Beside) (xs ys zs : List ℕ) → (IsTrue (is_some beside.text) → basis ≡ basis_of xs ys first days)
        → IsFaultless beside basis zs → Agrees beside xs ys first days zs
    agreeing beside xs ys zs b h = record { faultless = based beside zs None basis (basis_of xs ys first days) b h.faultless }

    -- ---- of the older journal

    of_older : (fault : DeskFault) (xs ys older : List ℕ) → IsGood xs ys
        → IsRefusedBeside besides.older basis grid fault older
        → IsRefusedAnswer IsUnlawful besides.older xs ys first days older fault
    of_older fault xs ys older is refused = ⊎_elim
        (λ (u : IsUnsealed besides.older basis fault older). inr (inl (record {
          ground = a_ground xs ys is;
          within = u.within;
          is_first = fault_based besides.older older fault basis (basis_of xs ys first days) is.for_older u.is_first;
        })))
        (λ (u : IsBehind (IsFaultless besides.older basis older) (IsUnlawful grid fault older)). inr (inr (record {
          flights = flights;
          rows = is.is_loaded.loaded.rows;
          is_ground = ground_of_loaded xs ys first days flights grid is.is_loaded;
          within = u.here.within;
          sealed = agreeing besides.older xs ys older is.for_older u.ahead;
          refused = subst (λ (g : Ladders). IsUnlawful g fault older) is.is_loaded.loaded.grid_is u.here;
        })))
        refused

    pub refused_older : (R : List ℕ → List ℕ → List ℕ → List ℕ → Type 0) (fault : DeskFault)
        → (IsOfInput fault → IfSome after (IsRefusedBeside besides.older basis grid fault)) → IsOfInput fault
        → IsRefused fault R
    refused_older R fault refused input =
        four_older IsGood (IsRefusedBeside besides.older basis grid fault) (λ xs ys older zs. IsRefusedSealed besides xs ys first days older zs fault (R xs ys older zs)) set limits after journal
        (λ xs ys older zs is u. inl (of_older fault xs ys older is u)) all_good (refused input)

    -- ---- behind a right one

    module _ (past : Inventory) (before : IfSome after (IsReplayWithin grid past)) (agreed : IfSome after (IsFaultless besides.older basis)) where
      abbrev IsHere : List ℕ → Type 0
      IsHere older = IsReadOlder grid besides basis past older

      all_older : IfSome after IsHere
      all_older = by after before agreed where
        by : (a : Option (List ℕ)) → IfSome a (IsReplayWithin grid past) → IfSome a (IsFaultless besides.older basis) → IfSome a IsHere
        by (Some older) is h = record { is_replay = is; is_faultless = h }
        by None is h = tt

      an_older : (xs ys older : List ℕ) → IsGood xs ys → IsHere older → IsOlderSealed besides.older xs ys first days older
      an_older xs ys older is was = record {
        agrees = agreeing besides.older xs ys older is.for_older was.is_faultless;
        has_older = record { flights = flights; grid = grid; is_loaded = is.is_loaded; older = past; is_older = was.is_replay };
      }

      -- the older journal is right and agrees
      pub older_sealed : OfThree set limits after (λ xs ys older. IsOlderSealed besides.older xs ys first days older)
      older_sealed = if_three_known IsGood IsHere (λ xs ys older. IsOlderSealed besides.older xs ys first days older) set limits after an_older all_good all_older

      both : (xs ys older zs : List ℕ) → IsGood xs ys → IsHere older → IsFaultless besides.journal basis zs
          → BothAgree besides xs ys first days older zs
      both xs ys older zs is was h = record {
        older = agreeing besides.older xs ys older is.for_older was.is_faultless;
        newer = agreeing besides.journal xs ys zs is.for_journal h;
      }

      -- of the journal: what stands beside it, or what it is at fault by itself
      pub refused_journal : (R : List ℕ → List ℕ → List ℕ → List ℕ → Type 0) (fault : DeskFault)
          → ((xs ys older zs : List ℕ) → IsLoaded xs ys first days flights grid → IsReplayWithin grid past older
          → IsUnlawful grid fault zs → R xs ys older zs)
          → (IsOfInput fault → IfSome journal (IsRefusedBeside besides.journal basis grid fault)) → IsOfInput fault
          → IsRefused fault R
      refused_journal R fault give refused input =
          if_known IsGood IsHere (IsRefusedBeside besides.journal basis grid fault) (λ xs ys older zs. IsRefusedSealed besides xs ys first days older zs fault (R xs ys older zs)) set limits after journal
          (λ xs ys older zs is was wrong. ⊎_elim
          (λ (u : IsUnsealed besides.journal basis fault zs). inr (inl (record {
            older = an_older xs ys older is was;
            within = u.within;
            is_first = fault_based besides.journal zs fault basis (basis_of xs ys first days) is.for_journal u.is_first;
          })))
          (λ (u : IsBehind (IsFaultless besides.journal basis zs) (IsUnlawful grid fault zs)). inr (inr (record {
            ahead = both xs ys older zs is was u.ahead;
            here = give xs ys older zs is.is_loaded was.is_replay u.here;
          })))
          wrong) all_good all_older (refused input)

      pub large_journal : IfSome journal (λ zs. most_journal_bytes < length zs)
          → OfFour set limits after journal (λ xs ys older zs. IsFirstTooLargeOfBoth besides xs ys first days older zs)
      large_journal over =
          if_known IsGood IsHere (λ zs. most_journal_bytes < length zs) (λ xs ys older zs. IsFirstTooLargeOfBoth besides xs ys first days older zs) set limits after journal
          (λ xs ys older zs is was large. inr (record { ahead = an_older xs ys older is was; here = large })) all_good all_older over

      -- both agree
      pub both_agree : IfSome journal (IsFaultless besides.journal basis) → Agreeing
      both_agree h =
          if_known IsGood IsHere (IsFaultless besides.journal basis) (λ xs ys older zs. BothAgree besides xs ys first days older zs) set limits after journal
          both all_good all_older h

-- ---- behind both that agree, one thing as another

module _ (besides : Besides) (set limits : List ℕ) (first days : ℕ) (after journal : List ℕ) (A B : Type 0) where
  pub refused_as : (fault : DeskFault) → (A → B) → IsRefusedSealed besides set limits first days after journal fault A
      → IsRefusedSealed besides set limits first days after journal fault B
  refused_as fault give refused = ⊎_elim
      (λ (u : IsRefusedAnswer IsUnlawful besides.older set limits first days after fault). inl u)
      (λ (v : IsUnsealedBehind besides set limits first days after journal fault ⊎ IsBehind (BothAgree besides set limits first days after journal) A). inr (⊎_elim
      (λ (u : IsUnsealedBehind besides set limits first days after journal fault). inl u)
      (λ (w : IsBehind (BothAgree besides set limits first days after journal) A). inr (record { ahead = w.ahead; here = give w.here }))
      v))
      refused

  pub large_as : (A → B) → IsTooLargeSealed besides set limits first days after journal A
      → IsTooLargeSealed besides set limits first days after journal B
  large_as give over = ⊎_elim
      (λ (u : IsFirstTooLarge set limits first days after). inl u)
      (λ (v : IsBehind (IsOlderSealed besides.older set limits first days after) (most_journal_bytes < length journal) ⊎ IsBehind (BothAgree besides set limits first days after journal) A). inr (⊎_elim
      (λ (u : IsBehind (IsOlderSealed besides.older set limits first days after) (most_journal_bytes < length journal)). inl u)
      (λ (w : IsBehind (BothAgree besides set limits first days after journal) A). inr (record { ahead = w.ahead; here = give w.here }))
      v))
      over

pub fails_as : (start journal agreeing A B : Type 0) → start ⊎ (journal ⊎ IsBehind agreeing A)
    → start ⊎ (journal ⊎ IsBehind agreeing (A ⊎ B))
fails_as start journal agreeing A B failed = ⊎_elim
    (λ (u : start). inl u)
    (λ (v : journal ⊎ IsBehind agreeing A). inr (⊎_elim
    (λ (u : journal). inl u)
    (λ (w : IsBehind agreeing A). inr (record { ahead = w.ahead; here = inl w.here }))
    v))
    failed
