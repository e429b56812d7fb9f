-- The seal of a journal behind its feed.
use Rattle.std.proofs.Common.{◌≡◌, ℕ, List, refl, subst, sym}
use Rattle.std.specs.Prelude.{IfSome, Option, Some, None}
use Rattle.desk_serving.specs.Daily.{IsSealedStill}
use Rattle.desk_serving.specs.Serving.{IsFed, IsFedTo, IsFedUnsealed, IsLivedTo}
use Rattle.desk_serving.specs.declared.fault.FedFault.TheVariants.{Seal}
use Rattle.desk_talk.specs.Ending.{IsEnded}
use Rattle.seat_desk.specs.declared.fault.DeskFault.{DeskFault}
use Rattle.seat_desk.specs.declared.fault.DeskFault.TheVariants.{Device as NoFile, TooLarge}
use Rattle.seat_disk.specs.Leaving.{Only}
use Rattle.seat_journal.specs.declared.entry.Entry.{Entry}
use Rattle.seat_nesting.specs.Nesting.{Ladders}
use Rattle.seat_restoring.specs.Dating.{AreOfEra}
use Rattle.seat_restoring.specs.Serving.{IsNoEnd, NamesAll}
use Rattle.seat_restoring.proofs.Dated.{dated as are_of}
use Rattle.seat_rules.specs.Prefixes.{Begins}
use Rattle.seat_seal.specs.declared.beside.Basis.{Basis}
use Rattle.seat_seal.specs.declared.run.Run.{Run}
use Rattle.seat_seal.specs.declared.seal.Sealed.{Sealed as Belonging}
use Rattle.seat_sealing.specs.Steps.{alone_text}
use Rattle.seat_serving.specs.Served.{Served}
use Rattle.seat_serving.specs.declared.serving.ending.Ended.{Ended}
use Rattle.ssim_flights.specs.declared.flight.Flight.{Flight as Flown}

module _ {D K : Type 0} (named : K → Option (List ℕ)) (leaves : K → List ℕ → Type 0) (kept : K → List (List ℕ) → Type 0) (failures : K → ℕ)
    (flights : List Flown) (serving : Served D) (count today : ℕ) (old mid : Belonging) (before between after : K) where
  -- whatever a crash leaves of the seal has the feed's day
  pub fed_sealed : (input a b : Option (List ℕ)) (journal : List Entry) → IsSealedStill named leaves kept failures old mid before between
      → (AreOfEra mid.era (leaves between) → AreOfEra mid.era (leaves after))
      → IfSome input (IsFedTo flights serving old.era.epoch count today mid.era a b journal)
      → IfSome input (IsFed flights serving old.era.epoch count today (leaves after) a b journal)
  fed_sealed None a b journal still stays fed = tt
  fed_sealed (Some xs) a b journal still stays fed = record {
    era = mid.era;
    fed = fed;
    epoch_is = still.sealed.epoch_is;
    are = stays (are_of mid mid.era (leaves between) refl still.sealed.on_day.only);
  }

  module _ (basis : Basis) (grid : Ladders) (cap : ℕ) (ended : Ended) (seen : Option (List ℕ)) (journals : List ℕ → Type 0) (unsynced : ℕ) where
    -- and where the closed one failed the journal is ended all the same
    pub fed_unsealed : (input a b : Option (List ℕ)) (fault : DeskFault) → IsSealedStill named leaves kept failures old mid before between
        → (AreOfEra mid.era (leaves between) → AreOfEra mid.era (leaves after))
        → IfSome input (IsFedTo flights serving old.era.epoch count today mid.era a b ended.journal)
        → Begins serving.kept ended.journal → IsEnded grid cap ended seen journals unsynced → IsLivedTo flights serving count ended.journal
        → NamesAll serving.kept (leaves between) → (fault ≡ TooLarge → IsNoEnd basis mid.runs ended.journal) → ((fault ≡ NoFile → ⊥) → after ≡ between)
        → (e : DeskFault) → Seal fault ≡ Seal e
        → IsFedUnsealed flights serving old.era.epoch count today basis old.runs e input a b seen journals unsynced (leaves after)
    fed_unsealed input a b fault still stays fed front is lived named_all large untouched e same =
        let fault_is : fault ≡ e = cc same in
        subst (λ (x : DeskFault). IsFedUnsealed flights serving old.era.epoch count today basis old.runs x input a b seen journals unsynced (leaves after))
        fault_is
        (record {
          unsealed = record {
            over = record { journal = ended.journal; front = front; text = is.text; disk = is.disk; synced = is.synced };
            large = λ it. subst (λ (r : List Run). IsNoEnd basis r ended.journal) still.sealed.runs_are (large it);
            still = λ other. record {
              entry = mid;
              only = subst (λ (k : K). Only (alone_text mid) (leaves k)) (sym (untouched other)) still.sealed.on_day.only;
              names = subst (λ (k : K). NamesAll serving.kept (leaves k)) (sym (untouched other)) named_all;
            };
          };
          fed = fed_sealed input a b ended.journal still stays fed;
          lived = lived;
        })
