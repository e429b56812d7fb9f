-- What a run writes is the text of its history.
use Rattle.seat_journal.specs.declared.entry.Control.{Control}
use Rattle.std.proofs.Common.{◌≡◌, ◌≢◌, ℕ, List, Option, Some, None, IfSome, map, subst}
use Rattle.seat_scripts.proofs.Common.{Request, Entry, Ladders, IsLoaded, OfThree, lists_over, AreScripts, IsRefusedAmong, commands_of, DeskFault, Memory}
use Rattle.ssim_flights.specs.declared.flight.Flight.{Flight as Flown}
use Rattle.seat_desk.specs.AuditDesk.{IsUnlawful}
use Rattle.seat_desk.specs.Loading.{IsRefusedLoad}
use Rattle.seat_replies.specs.Asked.{IsAsked}
use Rattle.seat_replies.specs.Changes.{IsOfChanges, IsUnchanged}
use Rattle.seat_replies.specs.Going.{IsPast}
use Rattle.seat_replies.specs.Requests.{IsOfScript}
use Rattle.seat_replies.specs.RunDesk.{IsRefusedRun, IsUnbooked}
use Rattle.seat_desk.specs.declared.fault.DeskFault.TheVariants.{Book, Change as BadChange, Flight, Journal, Limit, NoLeg, Replay, Script, Set}
use Rattle.seat_desk.specs.Desk.{IsOfInput}
use Rattle.seat_scripts.proofs.Inputs.{if_known, if_loaded}

-- ---- the texts of a run

-- what is said of three texts, where they are known, is said of what follows from it
if_three : (P Q : List ℕ → List ℕ → List ℕ → Type 0) (set limits after : Option (List ℕ))
    → ((xs ys zs : List ℕ) → P xs ys zs → Q xs ys zs) → OfThree set limits after P → OfThree set limits after Q
if_three P Q (Some xs) (Some ys) (Some zs) give all = give xs ys zs all
if_three P Q (Some xs) (Some ys) None give all = tt
if_three P Q (Some xs) None after give all = tt
if_three P Q None limits after give all = tt

module _ (first days today : ℕ) (after : List ℕ) (texts : List (Option (List ℕ))) (changing : Option (List ℕ)) (flights : List Flown) (grid : Ladders) where
  of_past : (set limits : List ℕ) (fault : DeskFault) → IsLoaded set limits first days flights grid
      → IsUnlawful grid fault after → IsRefusedRun set limits first days today after texts changing fault
  of_past set limits (Journal fault) loaded unlawful = record { refusal = record { flights = flights; grid = grid; is_loaded = loaded; is_unlawful = unlawful } }
  of_past set limits (Replay fault) loaded unlawful = record { refusal = record { flights = flights; grid = grid; is_loaded = loaded; is_unlawful = unlawful } }
  of_past set limits _ loaded unlawful = absurd unlawful.refused

  of_scripts : (set limits : List ℕ) (past : List Entry) (fault : DeskFault)
      → IsLoaded set limits first days flights grid → IsPast grid past after → IsOfScript fault
      → IsRefusedAmong today 1 texts fault → IsRefusedRun set limits first days today after texts changing fault
  of_scripts set limits past (Script session fault) loaded before script refused =
      record { refusal = record { flights = flights; grid = grid; is_loaded = loaded; past = past; is_past = before; is_refused = refused } }
  of_scripts set limits past _ loaded before script refused = absurd script

  of_changes : (set limits : List ℕ) (past : List Entry) (scripts : List (List Request)) (fault : DeskFault)
      → IsLoaded set limits first days flights grid → IsPast grid past after → AreScripts today texts scripts
      → IsOfChanges fault → IfSome changing (IsUnchanged flights fault)
      → IsRefusedRun set limits first days today after texts changing fault
  of_changes set limits past scripts (BadChange fault) loaded before are of refused =
      record { refusal = record { flights = flights; grid = grid; is_loaded = loaded; past = past; is_past = before; scripts = scripts; are_scripts = are; is_refused = refused } }
  of_changes set limits past scripts (NoLeg line) loaded before are of refused =
      record { refusal = record { flights = flights; grid = grid; is_loaded = loaded; past = past; is_past = before; scripts = scripts; are_scripts = are; is_refused = refused } }
  of_changes set limits past scripts _ loaded before are of refused = absurd of

of_calls : (set limits : List ℕ) (first days today : ℕ) (after : List ℕ) (texts : List (Option (List ℕ)))
    (changing : Option (List ℕ)) (flights : List Flown) (grid : Ladders) (past : List Entry)
    (scripts : List (List Request)) (changes : List Control) (fault : DeskFault)
    → IsAsked set limits first days today after texts changing flights grid past scripts changes
    → IsUnbooked grid past changes (lists_over past (map (commands_of flights) scripts)) fault
    → IsRefusedRun set limits first days today after texts changing fault
of_calls set limits first days today after texts changing flights grid past scripts changes (Book session call) asked unbooked =
    record { refusal = record { flights = flights; grid = grid; past = past; scripts = scripts; changes = changes; is_asked = asked; is_unbooked = unbooked } }
of_calls set limits first days today after texts changing flights grid past scripts changes _ asked unbooked = absurd unbooked

module _ (set limits after : Option (List ℕ)) (first days today : ℕ) (texts : List (Option (List ℕ))) (changing : Option (List ℕ)) where
  abbrev IsRefused : DeskFault → Type 0
  IsRefused fault = OfThree set limits after (λ xs ys zs. IsRefusedRun xs ys first days today zs texts changing fault)

  -- a fault of the older journal is one of the run
  pub run_unread : (flights : List Flown) (grid : Ladders) (fault : DeskFault)
      → IfSome set (λ xs. IfSome limits (λ ys. IsLoaded xs ys first days flights grid))
      → (IsOfInput fault → IfSome after (IsUnlawful grid fault)) → IsOfInput fault → IsRefused fault
  run_unread flights grid fault loaded refused input =
      if_known (λ xs ys. IsLoaded xs ys first days flights grid) (IsUnlawful grid fault) (λ xs ys zs. IsRefusedRun xs ys first days today zs texts changing fault) set limits after
      (λ xs ys zs is unlawful. of_past first days today zs texts changing flights grid xs ys fault is unlawful) loaded (refused input)

  -- so is a fault of a script
  pub run_refused : (flights : List Flown) (grid : Ladders) (past : List Entry) (fault : DeskFault)
      → IfSome set (λ xs. IfSome limits (λ ys. IsLoaded xs ys first days flights grid))
      → IfSome after (IsPast grid past)
      → (IsOfInput fault → IsOfScript fault) → (IsOfInput fault → IsRefusedAmong today 1 texts fault) → IsOfInput fault
      → IsRefused fault
  run_refused flights grid past fault loaded before script refused input =
      if_known (λ xs ys. IsLoaded xs ys first days flights grid) (IsPast grid past) (λ xs ys zs. IsRefusedRun xs ys first days today zs texts changing fault) set limits after
      (λ xs ys zs is was. of_scripts first days today zs texts changing flights grid xs ys past fault is was (script input) (refused input)) loaded before

  -- so is a fault of the changes
  pub run_unchanged : (flights : List Flown) (grid : Ladders) (past : List Entry) (scripts : List (List Request))
      (fault : DeskFault)
      → IfSome set (λ xs. IfSome limits (λ ys. IsLoaded xs ys first days flights grid))
      → IfSome after (IsPast grid past) → AreScripts today texts scripts
      → (IsOfInput fault → IsOfChanges fault) → (IsOfInput fault → IfSome changing (IsUnchanged flights fault))
      → IsOfInput fault → IsRefused fault
  run_unchanged flights grid past scripts fault loaded before are of refused input =
      if_known (λ xs ys. IsLoaded xs ys first days flights grid) (IsPast grid past) (λ xs ys zs. IsRefusedRun xs ys first days today zs texts changing fault) set limits after
      (λ xs ys zs is was. of_changes first days today zs texts changing flights grid xs ys past scripts fault is was are (of input) (refused input)) loaded before

  -- and so is a call that was not booked
  pub run_unbooked : (flights : List Flown) (grid : Ladders) (past : List Entry) (scripts : List (List Request))
      (changes : List Control) (fault : DeskFault)
      → OfThree set limits after (λ xs ys zs. IsAsked xs ys first days today zs texts changing flights grid past scripts
      changes)
      → (fault ≢ Memory → IsUnbooked grid past changes (lists_over past (map (commands_of flights) scripts)) fault)
      → IsOfInput fault → IsRefused fault
  run_unbooked flights grid past scripts changes fault asked unbooked input =
      if_three (λ xs ys zs. IsAsked xs ys first days today zs texts changing flights grid past scripts changes) (λ xs ys zs. IsRefusedRun xs ys first days today zs texts changing fault) set limits after
      (λ xs ys zs is. of_calls xs ys first days today zs texts changing flights grid past scripts changes fault is (unbooked (λ (e : fault ≡ Memory). subst IsOfInput e input))) asked

-- a fault of the set, of its flights or of the limits is one of the run
of_load : (set limits : List ℕ) (first days today : ℕ) (after : List ℕ) (texts : List (Option (List ℕ)))
    (changing : Option (List ℕ)) (fault : DeskFault) → IsRefusedLoad set limits first days fault
    → IsRefusedRun set limits first days today after texts changing fault
of_load set limits first days today after texts changing (Set fault) refused = record { refusal = refused }
of_load set limits first days today after texts changing (Flight fault) refused = record { refusal = refused }
of_load set limits first days today after texts changing (Limit fault) refused = record { refusal = refused }
of_load set limits first days today after texts changing _ refused = absurd refused.refusal

pub run_unloaded : (set limits after : Option (List ℕ)) (first days today : ℕ) (texts : List (Option (List ℕ)))
    (changing : Option (List ℕ)) (fault : DeskFault)
    → IfSome set (λ xs. IfSome limits (λ ys. IsRefusedLoad xs ys first days fault))
    → OfThree set limits after (λ xs ys zs. IsRefusedRun xs ys first days today zs texts changing fault)
run_unloaded set limits after first days today texts changing fault refused =
    if_loaded (λ xs ys. IsRefusedLoad xs ys first days fault) (λ xs ys zs. IsRefusedRun xs ys first days today zs texts changing fault) set limits after
    (λ xs ys zs is. of_load xs ys first days today zs texts changing fault is) refused
