-- What a run is asked or refused where it is known what it starts from, what its texts ask of that, and what is wrong with one of them.
use Rattle.std.proofs.Common.{◌≡◌, ◌<◌, ⊎_elim, inl, inr, ℕ, Bool, List, Option, None, Some, IfSome, length, refl, subst, sym}
use Rattle.ssim_flights.specs.declared.flight.Flight.{Flight as Flown}
use Rattle.seat_seal.specs.declared.beside.Basis.{Basis}
use Rattle.seat_seal.specs.declared.beside.Beside.{Beside}
use Rattle.seat_desk.proofs.Grounds.{ground_of_loaded}
use Rattle.seat_desk.specs.Answering.{IsFirstTooLarge, IsRefusedAnswer}
use Rattle.seat_desk.specs.AuditDesk.{IsUnlawful}
use Rattle.seat_desk.specs.Desk.{IsOfInput}
use Rattle.seat_desk.specs.Loading.{Bytes, IsBehind, IsLoadedOf, IsRefusedLoad}
use Rattle.seat_desk.specs.Sealing.{IsBasisOf}
use Rattle.seat_desk.specs.declared.fault.DeskFault.TheVariants.{Device, TooLarge}
use Rattle.seat_desk.specs.declared.inputs.Inputs.{Inputs}
use Rattle.seat_replies.specs.Changes.{most_change_bytes}
use Rattle.seat_replies.specs.Requests.{IsTooLargeAmong}
use Rattle.seat_scripts.proofs.Common.{DeskFault, IsFirstTooLargeLoad, Ladders, most_journal_bytes}
use Rattle.seat_scripts.proofs.Inputs.{asked_of, has_loaded, if_loaded}
use Rattle.seat_scripts.proofs.Judged.{not_device, not_large}
use Rattle.seat_scripts.proofs.Seals.{based, carried_of, each_three, judged_past, refused_start, sealed_past, sealed_changes_fail, sealed_large_changes, sealed_large_script, sealed_refused, sealed_script_fails, sealed_unchanged}
use Rattle.seat_scripts.specs.AskedFrom.{AreNoChanges, AreNoTexts, HaveRequests, IsAskedFrom, IsNoScript, IsNotAskedFrom, IsStoppedByPast, asked_by}
use Rattle.seat_scripts.specs.Beside.{IsRefusedBeside, IsRefusedSealedRun, IsTooLargeSealedRun}
use Rattle.seat_scripts.specs.ReadAsked.{IsNotAsked, IsReadAsked}
use Rattle.seat_scripts.specs.Starting.{IsNoStart, IsStarted}
use Rattle.seat_scripts.specs.declared.asked.Asked.{Asked}
use Rattle.seat_scripts.specs.declared.starting.Start.{Start}

module _ {S L : Type 0} (set : Bytes S) (limits : Bytes L) (inputs : Inputs S L) (after : Option (List ℕ)) (beside : Beside) (load_failed past_failed : Type 0) (fault : DeskFault) where
  abbrev NoStart : Type 0
  NoStart = IsNoStart beside set limits inputs after load_failed past_failed fault

  -- the set or the limits are at fault
  pub no_load : (IsOfInput fault → IfSome (set inputs.set) (λ xs. IfSome (limits inputs.limits) (λ ys. IsRefusedLoad xs ys inputs.first inputs.days fault)))
      → (fault ≡ TooLarge → IfSome (set inputs.set) (λ xs. IfSome (limits inputs.limits) (λ ys. IsFirstTooLargeLoad xs ys inputs.first inputs.days)))
      → (fault ≡ Device → load_failed) → NoStart
  no_load refused over failed = record {
    refused = λ input. if_loaded (λ xs ys. IsRefusedLoad xs ys inputs.first inputs.days fault) (λ xs ys zs. IsRefusedAnswer IsUnlawful beside xs ys inputs.first inputs.days zs fault) (set inputs.set) (limits inputs.limits) after
        (λ xs ys zs is. inl is) (refused input);
    large = λ is. if_loaded (λ xs ys. IsFirstTooLargeLoad xs ys inputs.first inputs.days) (λ xs ys zs. IsFirstTooLarge xs ys inputs.first inputs.days zs) (set inputs.set) (limits inputs.limits) after
        (λ xs ys zs more. inl more) (over is);
    device = λ is. inl (failed is);
  }

  -- the older journal is, or what stands beside it
  pub no_past : (flights : List Flown) (grid : Ladders) (basis : Basis) → IsLoadedOf set limits inputs flights grid
      → IsBasisOf set limits inputs basis
      → (IsOfInput fault → IfSome after (IsRefusedBeside beside basis grid fault))
      → (fault ≡ TooLarge → IfSome after (λ zs. most_journal_bytes < length zs)) → (fault ≡ Device → past_failed) → NoStart
  no_past flights grid basis loaded known refused over failed = record {
    refused = λ input. refused_start (set inputs.set) (limits inputs.limits) after inputs.first inputs.days flights grid beside basis loaded known fault refused input;
    large = λ is. based (set inputs.set) (limits inputs.limits) after inputs.first inputs.days flights grid beside basis loaded known (λ zs. most_journal_bytes < length zs) (λ xs ys zs. IsFirstTooLarge xs ys inputs.first inputs.days zs)
        (λ xs ys zs is b more. inr (record { ahead = record { flights = flights; rows = is.loaded.rows; is_ground = ground_of_loaded xs ys inputs.first inputs.days flights grid is }; here = more })) (over is);
    device = λ is. inr (record { ahead = has_loaded (set inputs.set) (limits inputs.limits) inputs.first inputs.days flights grid loaded; here = failed is });
  }

module _ {S L : Type 0} (set : Bytes S) (limits : Bytes L) (inputs : Inputs S L) (after : Option (List ℕ)) (beside : Beside) (again : Bool) (today : ℕ) (texts : List (Option (List ℕ))) (changing : Option (List ℕ)) where
  -- ---- where one of the inputs is at fault

  module _ (load_failed past_failed script_failed changes_failed : Type 0) (fault : DeskFault) where
    abbrev NotAsked : Type 0
    NotAsked = IsNotAsked beside again set limits inputs today after texts changing load_failed past_failed script_failed changes_failed fault

    pub not_started : IsNoStart beside set limits inputs after load_failed past_failed fault → NotAsked
    not_started wrong = record {
      refused = λ input. each_three (λ xs ys zs. IsRefusedAnswer IsUnlawful beside xs ys inputs.first inputs.days zs fault) (λ xs ys zs. IsRefusedSealedRun beside again xs ys inputs.first inputs.days today zs texts changing fault) (set inputs.set) (limits inputs.limits) after
          (λ xs ys zs is. inl is) (wrong.refused input);
      large = λ is. each_three (λ xs ys zs. IsFirstTooLarge xs ys inputs.first inputs.days zs) (λ xs ys zs. IsTooLargeSealedRun beside xs ys inputs.first inputs.days today zs texts changing) (set inputs.set) (limits inputs.limits) after
          (λ xs ys zs more. inl more) (wrong.large is);
      device = λ is. inl (wrong.device is);
    }

    module _ (start : Start) (is : IsStarted beside set limits inputs after start) where
      refused_texts : AreNoTexts start today texts changing script_failed changes_failed fault → NotAsked
      refused_texts wrong = record {
        refused = λ input. ⊎_elim
            (λ (s : IsNoScript today texts fault).
            sealed_refused (set inputs.set) (limits inputs.limits) after inputs.first inputs.days today texts changing beside again start.flights start.past.grid is.is_loaded is.agree start.past.journal is.is_past fault s.of_script s.is_refused input)
            (λ (b : IsBehind (HaveRequests today texts) (AreNoChanges start changing fault)).
            sealed_unchanged (set inputs.set) (limits inputs.limits) after inputs.first inputs.days today texts changing beside again start.flights start.past.grid is.is_loaded is.agree start.past.journal is.is_past b.ahead.scripts b.ahead.are_scripts fault b.here.of_changes b.here.unchanged input)
            (wrong.refused input);
        large = λ same. ⊎_elim
            (λ (more : IsTooLargeAmong today texts).
            sealed_large_script (set inputs.set) (limits inputs.limits) after inputs.first inputs.days today texts changing beside again start.flights start.past.grid is.is_loaded is.agree start.past.journal is.is_past more)
            (λ (b : IsBehind (HaveRequests today texts) (IfSome changing (λ bytes. most_change_bytes < length bytes))).
            sealed_large_changes (set inputs.set) (limits inputs.limits) after inputs.first inputs.days today texts changing beside again start.flights start.past.grid is.is_loaded is.agree start.past.journal is.is_past b.ahead.scripts b.ahead.are_scripts b.here)
            (wrong.large same);
        device = λ same. ⊎_elim
            (λ (failed : script_failed).
            sealed_script_fails (set inputs.set) (limits inputs.limits) after inputs.first inputs.days today texts changing beside again start.flights start.past.grid is.is_loaded is.agree start.past.journal is.is_past _ _ _ _ _ failed)
            (λ (b : IsBehind (HaveRequests today texts) changes_failed).
            sealed_changes_fail (set inputs.set) (limits inputs.limits) after inputs.first inputs.days today texts changing beside again start.flights start.past.grid is.is_loaded is.agree start.past.journal is.is_past b.ahead.scripts b.ahead.are_scripts _ _ _ _ _ b.here)
            (wrong.device same);
      }

      stopped_by_past : IsStoppedByPast start again today texts changing fault → NotAsked
      stopped_by_past wrong = record {
        refused = λ input. sealed_past (set inputs.set) (limits inputs.limits) after inputs.first inputs.days today texts changing beside again
            start.flights start.past.grid start.past.journal wrong.read.scripts.scripts wrong.read.changes.changes.items fault wrong.of_past is.agree
            (asked_of (set inputs.set) (limits inputs.limits) after inputs.first inputs.days today texts changing start.flights start.past.grid is.is_loaded start.past.journal is.is_past wrong.read.scripts.scripts wrong.are_texts.are_scripts
            start.past.grid wrong.read.changes.changes.items refl wrong.are_texts.are_changes)
            (judged_past (Some wrong.of_past) again beside after texts changing start.known is.is_known wrong.is_judged.repeated wrong.is_judged.are_repeated wrong.is_judged.answer_is) wrong.fault_is;
        large = λ same. absurd (not_large fault wrong.of_past wrong.fault_is same);
        device = λ same. absurd (not_device fault wrong.of_past wrong.fault_is same);
      }

      pub not_asked : IsNotAskedFrom start again today texts changing script_failed changes_failed fault → NotAsked
      not_asked wrong = ⊎_elim
          (λ (t : AreNoTexts start today texts changing script_failed changes_failed fault). refused_texts t)
          (λ (b : IsStoppedByPast start again today texts changing fault). stopped_by_past b)
          wrong

  -- ---- where all are right

  pub read_asked : (start : Start) → IsStarted beside set limits inputs after start
      → (asked : Asked) → IsAskedFrom start again today texts changing asked
      → IsReadAsked beside again set limits inputs today after texts changing asked
  read_asked start is asked asks =
      subst (λ (a : Asked). IsReadAsked beside again set limits inputs today after texts changing a) (sym asks.asked_is) (record {
        is_asked = asked_of (set inputs.set) (limits inputs.limits) after inputs.first inputs.days today texts changing start.flights start.past.grid is.is_loaded start.past.journal is.is_past asks.read.scripts.scripts asks.are_texts.are_scripts
            start.past.grid asks.read.changes.changes.items refl asks.are_texts.are_changes;
        agree = is.agree;
        is_judged = judged_past None again beside after texts changing start.known is.is_known asks.is_judged.repeated asks.is_judged.are_repeated asks.is_judged.answer_is;
        is_basis = is.is_basis;
        is_grid = is.is_grid;
        is_legal = is.is_legal;
        most = is.most;
        are_right = asks.are_texts.are_right;
        on_legs = asks.are_texts.on_legs;
        are_imprints = asks.are_texts.are_imprints;
        is_imprint = asks.are_texts.is_imprint;
        is_carried = carried_of beside after start.known (asked_by start asks.read).earlier is.is_known refl;
        behind_is = refl;
      })
