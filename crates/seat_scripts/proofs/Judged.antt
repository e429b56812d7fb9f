-- What a seal has against a run that goes on with scripts, as far as the inputs are known.
use Rattle.seat_journal.specs.declared.entry.Control.{Control}
use Rattle.std.proofs.Common.{◌≡◌, ◌+◌, ◌||◌, ℕ, Bool, List, Option, Some, None, IfSome, length, sym, subst, ◌∙◌}
use Rattle.seat_rules.specs.Inventory.{Inventory}
use Rattle.ssim_flights.specs.declared.flight.Flight.{Flight as Flown}
use Rattle.seat_seal.specs.Known.{IsKnown, runs_known}
use Rattle.seat_seal.specs.declared.comparing.SealFault.{SealFault}
use Rattle.seat_seal.specs.declared.seal.Sealed.{Sealed as Belonging}
use Rattle.seat_desk.specs.Desk.{IsOfInput}
use Rattle.seat_desk.specs.declared.fault.DeskFault.TheVariants.{Book, Device, NoBehind, Seal, TooLarge, Unasked}
use Rattle.seat_scripts.proofs.Common.{DeskFault, Entry, Ladders, Request}
use Rattle.seat_scripts.proofs.Beside.{if_four}
use Rattle.seat_scripts.proofs.SealedBoth.{both_four}
use Rattle.seat_scripts.specs.Against.{AreRead, IsOfReading, OfFour}
use Rattle.seat_scripts.specs.Begun.{IsBehindRuns, IsJudged, IsRefusedByRuns, fault_of_known}
use Rattle.seat_scripts.specs.Both.{BothAgree}
use Rattle.seat_replies.specs.Changes.{IsOfChanges}
use Rattle.seat_scripts.specs.Resumed.{IsWholeAsked}
use Rattle.seat_scripts.specs.Taken.{lines_taken}
use Rattle.seat_scripts.specs.Repeated.{AreRepeated, IsBookedOf, IsOneBooked}
use Rattle.seat_seal.specs.Booked.{changes_booked, scripts_booked}
use Rattle.seat_scripts.specs.declared.besides.Besides.{Besides}

-- what is said of the last of four texts
of_last : (Q : List ℕ → Type 0) (set limits after journal : Option (List ℕ)) → IfSome journal Q
    → OfFour set limits after journal (λ xs ys older zs. Q zs)
of_last Q (Some xs) (Some ys) (Some older) (Some zs) q = q
of_last Q (Some xs) (Some ys) (Some older) None q = tt
of_last Q (Some xs) (Some ys) None journal q = tt
of_last Q (Some xs) None after journal q = tt
of_last Q None limits after journal q = tt

module _ (set limits after journal : Option (List ℕ)) (first days today : ℕ) (texts : List (Option (List ℕ))) (changing : Option (List ℕ)) (given : Option ℕ) (besides : Besides) (again : Bool) where
  -- both agree, all is asked, and this is what the seal has against it
  pub refused_by_runs : (flights : List Flown) (grid : Ladders) (older lines : List Entry) (scripts : List (List Request)) (changes : List Control)
      (fault : DeskFault) (s : SealFault)
      → OfFour set limits after journal (λ xs ys old zs. BothAgree besides xs ys first days old zs)
      → OfFour set limits after journal (λ xs ys old zs. IsWholeAsked xs ys first days today old zs texts changing flights grid older lines scripts changes)
      → OfFour set limits after journal (λ xs ys old zs. IsJudged (Some s) again given besides.journal old zs texts changing)
      → fault ≡ Seal s
      → OfFour set limits after journal (λ xs ys old zs. IsRefusedByRuns besides again xs ys first days today old given zs texts changing fault)
  refused_by_runs flights grid older lines scripts changes fault s agree asked judged is =
      both_four (λ xs ys old zs. BothAgree besides xs ys first days old zs)
      (λ xs ys old zs. IsWholeAsked xs ys first days today old zs texts changing flights grid older lines scripts changes × IsJudged (Some s) again given besides.journal old zs texts changing)
      (λ xs ys old zs. IsRefusedByRuns besides again xs ys first days today old given zs texts changing fault) set limits after journal
      (λ xs ys old zs a b. record {
        agree = a;
        flights = flights;
        grid = grid;
        older = older;
        lines = lines;
        scripts = scripts;
        changes = changes;
        is_asked = b.0;
        of_runs = s;
        is_judged = b.1;
        fault_is = is;
      }) agree
      (both_four (λ xs ys old zs. IsWholeAsked xs ys first days today old zs texts changing flights grid older lines scripts changes)
      (λ xs ys old zs. IsJudged (Some s) again given besides.journal old zs texts changing)
      (λ xs ys old zs. IsWholeAsked xs ys first days today old zs texts changing flights grid older lines scripts changes × IsJudged (Some s) again given besides.journal old zs texts changing)
      set limits after journal (λ xs ys old zs a b. (a, b)) asked judged)

  -- what it has against it
  pub judged : (flights : List Flown) (older core : Inventory) (scripts : List (List Request))
      → OfFour set limits after journal (λ xs ys old zs. AreRead xs ys first days old zs today texts flights older core scripts)
      → (known : Option Belonging) → IfSome journal (λ zs. IsKnown besides.journal zs known)
      → (more : ℕ) → more ≡ lines_taken given known
      → (one changed repeated : Bool) → IsOneBooked (scripts_booked (Some (length older.journal + more)) (runs_known known)) texts one
      → (lines : Option ℕ) → lines ≡ Some (length older.journal + more)
      → IsBookedOf (changes_booked lines (runs_known known)) changing changed → repeated ≡ (one || changed)
      → (answer : Option SealFault) → fault_of_known again given (length older.journal + more) known repeated ≡ answer
      → OfFour set limits after journal (λ xs ys old zs. IsJudged answer again given besides.journal old zs texts changing)
  judged flights older core scripts read known is_known more count one changed repeated is_one lines counted is_changed both answer said =
      both_four (λ xs ys old zs. AreRead xs ys first days old zs today texts flights older core scripts)
      (λ xs ys old zs. IsKnown besides.journal zs known)
      (λ xs ys old zs. IsJudged answer again given besides.journal old zs texts changing) set limits after journal
      (λ xs ys old zs r k. record {
        known = known;
        is_known = k;
        older = older.journal;
        is_older = r.is_older.is_replay.is_text;
        repeated = repeated;
        are_repeated = subst (λ (n : ℕ). AreRepeated (Some (length older.journal + n)) (runs_known known) texts changing repeated) count
            (record {
              scripts = one;
              are_scripts = is_one;
              changes = changed;
              are_changes = subst (λ (l : Option ℕ). IsBookedOf (changes_booked l (runs_known known)) changing changed) counted is_changed;
              answer_is = both;
            });
        answer_is = subst (λ (n : ℕ). fault_of_known again given (length older.journal + n) known repeated ≡ answer) count said;
      }) read (of_last (λ zs. IsKnown besides.journal zs known) set limits after journal is_known)

-- ---- faults that stand behind what the seal has against it

pub is_input : (fault : DeskFault) → IsBehindRuns fault → IsOfInput fault
is_input (Unasked session call) behind = tt
is_input NoBehind behind = tt
is_input (Book session call) behind = tt
is_input _ behind = absurd behind

-- no fault of an input of an audit is one
not_read : (fault : DeskFault) → IsOfReading fault → IsBehindRuns fault → ⊥
not_read (Unasked session call) read behind = absurd read
not_read NoBehind read behind = absurd read
not_read (Book session call) read behind = absurd read
not_read _ read behind = absurd behind

not_changes : (fault : DeskFault) → IsOfChanges fault → IsBehindRuns fault → ⊥
not_changes (Unasked session call) of behind = absurd of
not_changes NoBehind of behind = absurd of
not_changes (Book session call) of behind = absurd of
not_changes _ of behind = absurd behind

pub never_of_reading : (P : List ℕ → List ℕ → List ℕ → List ℕ → Type 0) (set limits after journal : Option (List ℕ)) (fault : DeskFault)
    → (IsOfInput fault → OfFour set limits after journal (λ xs ys old zs. IsOfReading fault))
    → IsBehindRuns fault → OfFour set limits after journal P
never_of_reading P set limits after journal fault read behind =
    if_four (λ xs ys old zs. IsOfReading fault) P set limits after journal
    (λ xs ys old zs of. absurd (not_read fault of behind)) (read (is_input fault behind))

pub never_of_changes : (P : Type 0) (fault : DeskFault) → (IsOfInput fault → IsOfChanges fault) → IsBehindRuns fault → P
never_of_changes P fault of behind = absurd (not_changes fault (of (is_input fault behind)) behind)

pub never_of_seal : (P : Type 0) (fault : DeskFault) (s : SealFault) → fault ≡ Seal s → IsBehindRuns fault → P
never_of_seal P fault s is behind = absurd (subst (λ (f : DeskFault). IsBehindRuns f) is behind)

-- what a seal says against a run is neither
pub not_large : (fault : DeskFault) (s : SealFault) → fault ≡ Seal s → fault ≡ TooLarge → ⊥
not_large fault s is large = let both : Seal s ≡ TooLarge = sym is ∙ large in cc both

pub not_device : (fault : DeskFault) (s : SealFault) → fault ≡ Seal s → fault ≡ Device → ⊥
not_device fault s is device = let both : Seal s ≡ Device = sym is ∙ device in cc both
