-- What stands beside a journal, as far as the inputs are known, and what is refused behind it.
use Rattle.seat_journal.specs.declared.entry.Control.{Control}
use Rattle.std.proofs.Common.{◌≡◌, ◌≢◌, ◌≤◌, ◌<◌, ◌||◌, ◌⊎◌, ⊎_elim, inl, inr, ℕ, Bool, List, Option, Some, None, IfSome, length, subst, sym}
use Rattle.ssim_flights.specs.declared.flight.Flight.{Flight as Flown}
use Rattle.seat_seal.specs.Besides.{IsFaultBeside}
use Rattle.seat_seal.specs.declared.beside.Basis.{Basis}
use Rattle.seat_seal.specs.declared.beside.Beside.{Beside}
use Rattle.seat_seal.specs.declared.comparing.SealFault.{SealFault}
use Rattle.seat_seal.specs.declared.seal.Sealed.{Sealed as Belonging}
use Rattle.seat_desk.specs.declared.fault.DeskFault.TheVariants.{Book, Change as BadChange, NoLeg, Script, Seal}
use Rattle.seat_desk.proofs.Grounds.{ground_of_loaded}
use Rattle.seat_desk.specs.Answering.{IsRefusedAnswer}
use Rattle.seat_desk.specs.AuditDesk.{IsUnlawful}
use Rattle.seat_desk.specs.Desk.{IsOfInput}
use Rattle.seat_desk.specs.Loading.{IsBehind}
use Rattle.seat_desk.specs.Sealing.{Agrees, IsBesideFault, basis_of}
use Rattle.seat_scripts.proofs.Common.{AreScripts, DeskFault, Entry, IsLoaded, IsRefusedAmong, IsTooLargeAmong, Ladders, Memory, OfThree, Request, most_journal_bytes}
use Rattle.seat_scripts.specs.Beside.{IsCallOnce, IsFaultless, IsRefusedBeside, IsRefusedSealedRun, IsTooLargeSealedRun, IsUnsealed}
use Rattle.seat_replies.specs.Changes.{IsOfChanges, IsUnchanged, most_change_bytes}
use Rattle.seat_replies.specs.Going.{IsPast}
use Rattle.seat_replies.specs.Asked.{IsAsked, IsTooLargeRun}
use Rattle.seat_seal.specs.Known.{IsCarried, IsKnown, carried_by, runs_known}
use Rattle.seat_seal.specs.declared.known.Carried.{Carried}
use Rattle.seat_scripts.specs.Repeated.{AreRepeated, IsJudgedPastOf, fault_of_past}
use Rattle.seat_replies.specs.RunDesk.{IsRefusedRun}
use Rattle.seat_replies.specs.Requests.{IsOfScript}
use Rattle.seat_replies.specs.Asked.{HasPast, HasScripts}
use Rattle.seat_scripts.proofs.Inputs.{changes_fail, large_changes, large_script, script_fails}
use Rattle.seat_scripts.proofs.Written.{run_refused, run_unchanged}

-- ---- one journal, of which all bytes were read

module _ (beside : Beside) (basis : Basis) (text : Option (List ℕ)) (bytes slice : List ℕ) (is_slice : slice ≡ bytes)
    (whole : IfSome text (λ xs. bytes ≡ xs)) where
  read : (P : List ℕ → Type 0) → P slice → IfSome text P
  read P h = by text whole where
    by : (t : Option (List ℕ)) → IfSome t (λ xs. bytes ≡ xs) → IfSome t P
    by (Some xs) same = subst P same (subst P is_slice h)
    by None same = tt

  pub read_faultless : IsFaultBeside beside basis slice None → IfSome text (IsFaultless beside basis)
  read_faultless h = read (IsFaultless beside basis) (record { faultless = h })

  pub read_unsealed : (grid : Ladders) (fault : DeskFault) → length bytes ≤ most_journal_bytes
      → IsBesideFault beside basis slice fault → IfSome text (IsRefusedBeside beside basis grid fault)
  read_unsealed grid fault within wrong =
      read (IsRefusedBeside beside basis grid fault)
      (subst (IsRefusedBeside beside basis grid fault) (sym is_slice) (inl (record { within = within; is_first = subst (λ (l : List ℕ). IsBesideFault beside basis l fault) is_slice wrong })))

  pub read_unlawful : (grid : Ladders) (fault : DeskFault) → IsFaultBeside beside basis slice None
      → (fault ≢ Memory → IsUnlawful grid fault bytes) → IsOfInput fault
      → IfSome text (IsRefusedBeside beside basis grid fault)
  read_unlawful grid fault agreed refused input =
      read (IsRefusedBeside beside basis grid fault)
      (subst (IsRefusedBeside beside basis grid fault) (sym is_slice) (inr (record {
        ahead = record { faultless = subst (λ (l : List ℕ). IsFaultBeside beside basis l None) is_slice agreed };
        here = refused (λ (e : fault ≡ Memory). subst IsOfInput e input);
      })))

-- what the seal knows, where all bytes were read
pub read_last : (beside : Beside) (text : Option (List ℕ)) (bytes slice : List ℕ) (last : Option Belonging) → slice ≡ bytes
    → IfSome text (λ xs. bytes ≡ xs) → IsKnown beside slice last
    → IfSome text (λ xs. IsKnown beside xs last)
read_last beside (Some xs) bytes slice last is_slice whole h =
    subst (λ (l : List ℕ). IsKnown beside l last) whole (subst (λ (l : List ℕ). IsKnown beside l last) is_slice h)
read_last beside None bytes slice last is_slice whole h = tt

-- what the next seal takes of what it knows
pub carried_of : (beside : Beside) (text : Option (List ℕ)) (last : Option Belonging) (carried : Carried)
    → IfSome text (λ xs. IsKnown beside xs last) → carried ≡ carried_by last → IfSome text (λ xs. IsCarried beside xs carried)
carried_of beside (Some xs) last carried is same = record { known = last; is_known = is; carried_is = same }
carried_of beside None last carried is same = tt

-- what it has against a run with these texts, where the journal's bytes are known
pub judged_past : (answer : Option SealFault) (again : Bool) (beside : Beside) (after : Option (List ℕ)) (texts : List (Option (List ℕ)))
    (changing : Option (List ℕ)) (last : Option Belonging) → IfSome after (λ zs. IsKnown beside zs last)
    → (repeated : Bool) → AreRepeated None (runs_known last) texts changing repeated → fault_of_past again last repeated ≡ answer
    → IsJudgedPastOf answer again beside after texts changing
judged_past answer again beside (Some zs) texts changing last known repeated are is =
    record { known = last; is_known = known; repeated = repeated; are_repeated = are; answer_is = is }
judged_past answer again beside None texts changing last known repeated are is = tt

-- ---- over inputs that are known

-- what is said of two texts and of three is said of the three
pub both_three : (P Q R : List ℕ → List ℕ → List ℕ → Type 0) (set limits after : Option (List ℕ))
    → ((xs ys zs : List ℕ) → P xs ys zs → Q xs ys zs → R xs ys zs) → OfThree set limits after P
    → OfThree set limits after Q → OfThree set limits after R
both_three P Q R (Some xs) (Some ys) (Some zs) give p q = give xs ys zs p q
both_three P Q R (Some xs) (Some ys) None give p q = tt
both_three P Q R (Some xs) None after give p q = tt
both_three P Q R None limits after give p q = tt

pub each_three : (P R : List ℕ → List ℕ → List ℕ → Type 0) (set limits after : Option (List ℕ))
    → ((xs ys zs : List ℕ) → P xs ys zs → R xs ys zs) → OfThree set limits after P → OfThree set limits after R
each_three P R (Some xs) (Some ys) (Some zs) give p = give xs ys zs p
each_three P R (Some xs) (Some ys) None give p = tt
each_three P R (Some xs) None after give p = tt
each_three P R None limits after give p = tt

module _ (set limits after : Option (List ℕ)) (first days : ℕ) (flights : List Flown) (grid : Ladders) (beside : Beside) (basis : Basis)
    (loaded : IfSome set (λ xs. IfSome limits (λ ys. IsLoaded xs ys first days flights grid)))
    (known : IfSome set (λ xs. IfSome limits (λ ys. basis ≡ basis_of xs ys first days))) where
  pub based : (Q : List ℕ → Type 0) (R : List ℕ → List ℕ → List ℕ → Type 0)
      → ((xs ys zs : List ℕ) → IsLoaded xs ys first days flights grid → basis ≡ basis_of xs ys first days → Q zs → R xs ys zs)
      → IfSome after Q → OfThree set limits after R
  based Q R give q = by set limits after loaded known q where
    by : (s l a : Option (List ℕ)) → IfSome s (λ xs. IfSome l (λ ys. IsLoaded xs ys first days flights grid))
        → IfSome s (λ xs. IfSome l (λ ys. basis ≡ basis_of xs ys first days)) → IfSome a Q → OfThree s l a R
    by (Some xs) (Some ys) (Some zs) is b h = give xs ys zs is b h
    by (Some xs) (Some ys) None is b h = tt
    by (Some xs) None a is b h = tt
    by None l a is b h = tt

  agreeing : (xs ys zs : List ℕ) → basis ≡ basis_of xs ys first days → IsFaultless beside basis zs
      → Agrees beside xs ys first days zs
  agreeing xs ys zs b h = record { faultless = subst (λ (x : Basis). IsFaultBeside beside x zs None) b h.faultless }

  -- the journal agrees with what stands beside it
  pub agrees : IfSome after (IsFaultless beside basis)
      → OfThree set limits after (λ xs ys zs. Agrees beside xs ys first days zs)
  agrees h = based (IsFaultless beside basis) (λ xs ys zs. Agrees beside xs ys first days zs) (λ xs ys zs is b f. agreeing xs ys zs b f) h

  refusal : (fault : DeskFault) (xs ys zs : List ℕ) → IsLoaded xs ys first days flights grid
      → basis ≡ basis_of xs ys first days → IsRefusedBeside beside basis grid fault zs
      → IsRefusedAnswer IsUnlawful beside xs ys first days zs fault
  refusal fault xs ys zs is b refused = ⊎_elim
      (λ (u : IsUnsealed beside basis fault zs). inr (inl (record {
        ground = record { flights = flights; rows = is.loaded.rows; is_ground = ground_of_loaded xs ys first days flights grid is };
        within = u.within;
        is_first = subst (λ (x : Basis). IsBesideFault beside x zs fault) b u.is_first;
      })))
      (λ (u : IsBehind (IsFaultless beside basis zs) (IsUnlawful grid fault zs)). inr (inr (record {
        flights = flights;
        rows = is.loaded.rows;
        is_ground = ground_of_loaded xs ys first days flights grid is;
        within = u.here.within;
        sealed = agreeing xs ys zs b u.ahead;
        refused = subst (λ (g : Ladders). IsUnlawful g fault zs) is.loaded.grid_is u.here;
      })))
      refused

  -- what refuses the journal refuses the command
  pub refused_start : (fault : DeskFault) → (IsOfInput fault → IfSome after (IsRefusedBeside beside basis grid fault))
      → IsOfInput fault
      → OfThree set limits after (λ xs ys zs. IsRefusedAnswer IsUnlawful beside xs ys first days zs fault)
  refused_start fault refused input =
      based (IsRefusedBeside beside basis grid fault) (λ xs ys zs. IsRefusedAnswer IsUnlawful beside xs ys first days zs fault) (refusal fault) (refused input)

-- ---- a run

-- what the seal has against the run is told ahead of a call
pub call_once : (again : Bool) (beside : Beside) (after : Option (List ℕ)) (texts : List (Option (List ℕ)))
    (changing : Option (List ℕ)) (fault : DeskFault)
    → IsJudgedPastOf None again beside after texts changing
    → IfSome after (λ zs. IsCallOnce again beside zs texts changing fault)
call_once again beside None texts changing fault once = tt
call_once again beside (Some zs) texts changing (Book session call) once = once
call_once again beside (Some zs) texts changing _ once = tt

-- a script's fault is no call's
of_script : (again : Bool) (beside : Beside) (after : Option (List ℕ)) (texts : List (Option (List ℕ)))
    (changing : Option (List ℕ)) (fault : DeskFault) → IsOfScript fault
    → IfSome after (λ zs. IsCallOnce again beside zs texts changing fault)
of_script again beside None texts changing fault is = tt
of_script again beside (Some zs) texts changing (Script session fault) is = tt
of_script again beside (Some zs) texts changing _ is = absurd is

-- nor one of the changes
of_changes : (again : Bool) (beside : Beside) (after : Option (List ℕ)) (texts : List (Option (List ℕ)))
    (changing : Option (List ℕ)) (fault : DeskFault) → IsOfChanges fault
    → IfSome after (λ zs. IsCallOnce again beside zs texts changing fault)
of_changes again beside None texts changing fault is = tt
of_changes again beside (Some zs) texts changing (BadChange fault) is = tt
of_changes again beside (Some zs) texts changing (NoLeg line) is = tt
of_changes again beside (Some zs) texts changing _ is = absurd is

module _ (set limits after : Option (List ℕ)) (first days today : ℕ) (texts : List (Option (List ℕ))) (changing : Option (List ℕ)) (beside : Beside) (again : Bool) where
  abbrev IsRefused : DeskFault → Type 0
  IsRefused fault = OfThree set limits after (λ xs ys zs. IsRefusedSealedRun beside again xs ys first days today zs texts changing fault)

  abbrev IsLarge : Type 0
  IsLarge = OfThree set limits after (λ xs ys zs. IsTooLargeSealedRun beside xs ys first days today zs texts changing)

  abbrev Agreeing : Type 0
  Agreeing = OfThree set limits after (λ xs ys zs. Agrees beside xs ys first days zs)

  -- behind what agrees
  pub behind_seal : (fault : DeskFault) → Agreeing
      → OfThree set limits after (λ xs ys zs. IsRefusedRun xs ys first days today zs texts changing fault)
      → IfSome after (λ zs. IsCallOnce again beside zs texts changing fault) → IsRefused fault
  behind_seal fault agreed refused once = by set limits after agreed refused once where
    by : (s l a : Option (List ℕ)) → OfThree s l a (λ xs ys zs. Agrees beside xs ys first days zs)
        → OfThree s l a (λ xs ys zs. IsRefusedRun xs ys first days today zs texts changing fault)
        → IfSome a (λ zs. IsCallOnce again beside zs texts changing fault)
        → OfThree s l a (λ xs ys zs. IsRefusedSealedRun beside again xs ys first days today zs texts changing fault)
    by (Some xs) (Some ys) (Some zs) agreed refused once =
        inr (record { ahead = agreed; here = inl (record { refused = refused; once = once }) })
    by (Some xs) (Some ys) None agreed refused once = tt
    by (Some xs) None a agreed refused once = tt
    by None l a agreed refused once = tt

  -- behind all inputs
  pub sealed_past : (flights : List Flown) (grid : Ladders) (past : List Entry) (scripts : List (List Request)) (changes : List Control)
      (fault : DeskFault) (told : SealFault) → Agreeing
      → OfThree set limits after (λ xs ys zs. IsAsked xs ys first days today zs texts changing flights grid past scripts changes)
      → IsJudgedPastOf (Some told) again beside after texts changing → fault ≡ Seal told → IsRefused fault
  sealed_past flights grid past scripts changes fault told agreed asked judged same =
      by set limits after agreed asked judged where
        by : (s l a : Option (List ℕ)) → OfThree s l a (λ xs ys zs. Agrees beside xs ys first days zs)
            → OfThree s l a (λ xs ys zs. IsAsked xs ys first days today zs texts changing flights grid past scripts changes)
            → IsJudgedPastOf (Some told) again beside a texts changing
            → OfThree s l a (λ xs ys zs. IsRefusedSealedRun beside again xs ys first days today zs texts changing fault)
        by (Some xs) (Some ys) (Some zs) agreed asked judged = inr (record {
          ahead = agreed;
          here = inr (record {
            flights = flights;
            grid = grid;
            past = past;
            scripts = scripts;
            changes = changes;
            is_asked = asked;
            of_past = told;
            is_judged = judged;
            fault_is = same;
          });
        })
        by (Some xs) (Some ys) None agreed asked judged = tt
        by (Some xs) None a agreed asked judged = tt
        by None l a agreed asked judged = tt

  large_behind : Agreeing → OfThree set limits after (λ xs ys zs. IsTooLargeRun xs ys first days today zs texts changing)
      → IsLarge
  large_behind agreed over =
      both_three (λ xs ys zs. Agrees beside xs ys first days zs) (λ xs ys zs. IsTooLargeRun xs ys first days today zs texts changing) (λ xs ys zs. IsTooLargeSealedRun beside xs ys first days today zs texts changing) set limits after
      (λ xs ys zs a r. inr (record { ahead = a; here = r })) agreed over

  -- behind the start
  module _ (flights : List Flown) (grid : Ladders)
      (loaded : IfSome set (λ xs. IfSome limits (λ ys. IsLoaded xs ys first days flights grid)))
      (agreed : Agreeing) (past : List Entry) (before : IfSome after (IsPast grid past)) where
    pub sealed_refused : (fault : DeskFault) → IsOfScript fault → IsRefusedAmong today 1 texts fault → IsOfInput fault
        → IsRefused fault
    sealed_refused fault script refused input =
        behind_seal fault agreed (run_refused set limits after first days today texts changing flights grid past fault loaded before (λ _. script) (λ _. refused) input)
        (of_script again beside after texts changing fault script)

    pub sealed_large_script : IsTooLargeAmong today texts → IsLarge
    sealed_large_script over = large_behind agreed (large_script set limits after first days today texts changing flights grid loaded past before over)

    -- a script failed
    pub sealed_script_fails : (ahead load past_failed script rest : Type 0) → script
        → ahead ⊎ IsBehind Agreeing (load ⊎ (past_failed ⊎ ((OfThree set limits after (λ xs ys zs. HasPast xs ys first days zs) × script) ⊎ rest)))
    sealed_script_fails ahead load past_failed script rest failed =
        inr (record { ahead = agreed; here = script_fails set limits after first days today texts changing flights grid loaded past before load past_failed script rest failed })

    module _ (scripts : List (List Request)) (are : AreScripts today texts scripts) where
      pub sealed_unchanged : (fault : DeskFault) → IsOfChanges fault → IfSome changing (IsUnchanged flights fault)
          → IsOfInput fault → IsRefused fault
      sealed_unchanged fault of refused input =
          behind_seal fault agreed (run_unchanged set limits after first days today texts changing flights grid past scripts fault loaded before are (λ _. of) (λ _. refused) input)
          (of_changes again beside after texts changing fault of)

      pub sealed_large_changes : IfSome changing (λ bytes. most_change_bytes < length bytes) → IsLarge
      sealed_large_changes over =
          large_behind agreed (large_changes set limits after first days today texts changing flights grid loaded past before scripts are over)

      -- the changes failed
      pub sealed_changes_fail : (ahead load past_failed script changes : Type 0) → changes
          → ahead ⊎ IsBehind Agreeing (load ⊎ (past_failed ⊎ (script ⊎ (OfThree set limits after (λ xs ys zs. HasScripts xs ys first days today zs texts) × changes))))
      sealed_changes_fail ahead load past_failed script changes failed =
          inr (record { ahead = agreed; here = changes_fail set limits after first days today texts changing flights grid loaded past before scripts are load past_failed script changes failed })
