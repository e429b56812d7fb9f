-- What a run that goes on with scripts comes to, where it is known what it read, and what it made of that.
use Rattle.std.proofs.Common.{◌≡◌, ◌⊎◌, ◌||◌, ⊎_elim, inl, inr, ℕ, Bool, List, Option, None, Some, IfSome, refl, sym, subst}
use Rattle.ssim_flights.specs.declared.flight.Flight.{Flight as Flown}
use Rattle.seat_rules.specs.Inventory.{Inventory}
use Rattle.seat_seal.specs.Booked.{scripts_booked}
use Rattle.seat_seal.specs.Known.{IsCarried, IsKnown, runs_known}
use Rattle.seat_seal.specs.declared.comparing.SealFault.{SealFault}
use Rattle.seat_desk.specs.Desk.{IsOfInput}
use Rattle.seat_scripts.proofs.Common.{AllByRecursion, DeskFault}
use Rattle.seat_scripts.proofs.Judged.{is_input, judged, never_of_changes, never_of_seal, refused_by_runs}
use Rattle.seat_scripts.proofs.OneTaken.{are_taken, for_each, for_taken, with_taken}
use Rattle.seat_scripts.proofs.Rest.{rest_legs}
use Rattle.seat_scripts.proofs.Seals.{carried_of}
use Rattle.seat_scripts.proofs.SealedBoth.{refused_behind}
use Rattle.seat_scripts.proofs.Still.{asked_still, behind_still, no_rest_still, unchanged_still, whole_still}
use Rattle.seat_scripts.specs.Against.{AreRead, OfFour}
use Rattle.seat_scripts.specs.Begun.{IsBehindRuns, IsJudged, IsRefusedByRuns}
use Rattle.seat_scripts.specs.Both.{BothAgree, IsRefusedSealed}
use Rattle.seat_scripts.specs.GoneOn.{IsGoneOn, IsJudgedBeside, IsStopped, IsStoppedAhead, IsStoppedByChanges, IsStoppedByLines, IsStoppedByRuns, lines_ahead}
use Rattle.seat_replies.specs.Changes.{IsOnLeg}
use Rattle.seat_scripts.specs.Repeated.{IsOneBooked}
use Rattle.seat_scripts.specs.Resumed.{IsAhead, IsAskedStill, IsRefusedResume}
use Rattle.seat_scripts.specs.Taken.{AreTaken, ForTaken, WithTaken, lines_taken}
use Rattle.seat_scripts.specs.declared.against.Against.{Against}
use Rattle.seat_scripts.specs.declared.asked.Asked.{Asked}
use Rattle.seat_scripts.specs.declared.besides.Besides.{Besides}

module _ (set limits after journal : Option (List ℕ)) (first days today : ℕ) (texts : List (Option (List ℕ))) (changing : Option (List ℕ)) (given : Option ℕ) (besides : Besides) (again : Bool) (read : Against)
    (are_read : OfFour set limits after journal (λ xs ys old zs. AreRead xs ys first days old zs today texts read.flights read.older read.core read.scripts))
    (agree : OfFour set limits after journal (λ xs ys old zs. BothAgree besides xs ys first days old zs))
    (is_known : IfSome journal (λ zs. IsKnown besides.journal zs read.known))
    (more_is : read.more ≡ lines_taken given read.known)
    (are_booked : IsOneBooked (scripts_booked (Some (lines_ahead read)) (runs_known read.known)) texts read.is_booked) where
  taken : IfSome journal (λ zs. AreTaken given besides.journal zs read.more)
  taken = are_taken given besides.journal journal read.known read.more is_known more_is

  abbrev Judged : Option SealFault → Type 0
  Judged answer = OfFour set limits after journal (λ xs ys old zs. IsJudged answer again given besides.journal old zs texts changing)

  judged_beside : (answer : Option SealFault) → IsJudgedBeside read given again changing answer → Judged answer
  judged_beside answer is =
      judged set limits after journal first days today texts changing given besides again read.flights read.older read.core read.scripts are_read
      read.known is_known read.more more_is read.is_booked is.booked (read.is_booked || is.booked) are_booked
      (Some (lines_ahead read)) refl is.are_booked refl answer is.answer_is

  -- ---- where it goes on

  module _ (asked : Asked) (is : IsGoneOn read given again changing asked) where
    abbrev Asks : List Flown → Inventory → Type 0
    Asks flights past = OfFour set limits after journal
        (λ xs ys old zs. WithTaken given besides.journal zs (λ more. IsAskedStill xs ys first days today old more zs texts changing flights past.grid past.journal asked.scripts asked.changes.items))

    pub gone_on : Asks asked.flights asked.past
    gone_on =
        subst (λ (f : List Flown). Asks f asked.past) (sym is.flights_are)
        (subst (λ (p : Inventory). Asks read.flights p) (sym is.past_is)
        (with_taken (λ more xs ys old zs. IsAskedStill xs ys first days today old more zs texts changing read.flights read.core.grid read.core.journal asked.scripts asked.changes.items)
        set limits after journal given besides.journal read.more taken
        (asked_still set limits after journal first days today read.more texts changing read.flights read.older read.core read.scripts are_read
        is.made.changes.items is.are_beside.are_changes read.scripts is.made.changes.items read.more asked.scripts asked.changes.items refl refl refl is.is_rest)))

    pub gone_behind : OfFour set limits after journal (λ xs ys old zs. WithTaken given besides.journal zs (λ more. IsAhead more old asked.behind))
    gone_behind =
        with_taken (λ more xs ys old zs. IsAhead more old asked.behind) set limits after journal given besides.journal read.more taken
        (behind_still set limits after journal first days today read.more texts changing read.flights read.older read.core read.scripts are_read
        read.more asked.behind refl is.behind_is)

    pub gone_once : Judged None
    gone_once = judged_beside None is.are_beside.is_judged

    pub gone_earlier : IfSome journal (λ zs. IsCarried besides.journal zs asked.earlier)
    gone_earlier = carried_of besides.journal journal read.known asked.earlier is_known is.earlier_is

    pub gone_legs : AllByRecursion (IsOnLeg asked.flights) asked.changes.items
    gone_legs =
        subst (λ (f : List Flown). AllByRecursion (IsOnLeg f) asked.changes.items) (sym is.flights_are)
        (rest_legs read.flights read.scripts is.made.changes.items read.older.journal read.more read.core.journal asked.scripts asked.changes.items is.is_rest is.are_beside.are_on_legs)

  -- ---- where it is stopped

  module _ (fault : DeskFault) where
    abbrev Refused : Type 0
    Refused = OfFour set limits after journal
        (λ xs ys old zs. IsRefusedSealed besides xs ys first days old zs fault (ForTaken given besides.journal zs (λ more. IsRefusedResume xs ys first days today old more zs texts changing fault)))

    abbrev RefusedByRuns : Type 0
    RefusedByRuns = OfFour set limits after journal (λ xs ys old zs. IsRefusedByRuns besides again xs ys first days today old given zs texts changing fault)

    behind_both : OfFour set limits after journal (λ xs ys old zs. ForTaken given besides.journal zs (λ more. IsRefusedResume xs ys first days today old more zs texts changing fault)) → Refused
    behind_both refused =
        refused_behind set limits after journal first days besides
        (λ xs ys old zs. ForTaken given besides.journal zs (λ more. IsRefusedResume xs ys first days today old more zs texts changing fault)) fault agree refused

    by_changes : IsStoppedByChanges read changing fault → IsOfInput fault → Refused
    by_changes is input =
        behind_both (for_each (λ more xs ys old zs. IsRefusedResume xs ys first days today old more zs texts changing fault) set limits after journal given besides.journal
        (λ more. unchanged_still set limits after journal first days today more texts changing read.flights read.older read.core read.scripts are_read
        fault (λ _. is.of_changes) (λ _. is.unchanged) input))

    by_lines : IsStoppedByLines read given again changing fault → IsOfInput fault → Refused
    by_lines is input =
        behind_both (for_taken (λ more xs ys old zs. IsRefusedResume xs ys first days today old more zs texts changing fault) set limits after journal given besides.journal read.more taken
        (no_rest_still set limits after journal first days today read.more texts changing read.flights read.older read.core read.scripts are_read
        is.made.changes.items is.are_beside.are_changes read.scripts is.made.changes.items read.more refl refl refl fault (λ _. is.is_no_rest) input))

    by_runs : IsStoppedByRuns read given again changing fault → RefusedByRuns
    by_runs is =
        refused_by_runs set limits after journal first days today texts changing given besides again read.flights read.core.grid read.older.journal read.core.journal read.scripts
        is.made.changes.items fault is.of_runs agree
        (whole_still set limits after journal first days today read.more texts changing read.flights read.older read.core read.scripts are_read
        is.made.changes.items is.are_changes)
        (judged_beside (Some is.of_runs) is.is_judged) is.fault_is

    pub stopped : IsStopped read given again changing fault → IsOfInput fault → Refused ⊎ RefusedByRuns
    stopped is input =
        ⊎_elim (λ (ahead : IsStoppedAhead read given again changing fault). ⊎_elim
        (λ (of : IsStoppedByChanges read changing fault). inl (by_changes of input))
        (λ (of : IsStoppedByRuns read given again changing fault). inr (by_runs of))
        ahead)
        (λ (of : IsStoppedByLines read given again changing fault). inl (by_lines of input))
        is

    pub stopped_behind : (IsOfInput fault → IsStopped read given again changing fault) → IsBehindRuns fault → Judged None
    stopped_behind is behind =
        ⊎_elim (λ (ahead : IsStoppedAhead read given again changing fault). ⊎_elim
        (λ (of : IsStoppedByChanges read changing fault). never_of_changes (Judged None) fault (λ _. of.of_changes) behind)
        (λ (of : IsStoppedByRuns read given again changing fault). never_of_seal (Judged None) fault of.of_runs of.fault_is behind)
        ahead)
        (λ (of : IsStoppedByLines read given again changing fault). judged_beside None of.are_beside.is_judged)
        (is (is_input fault behind))
