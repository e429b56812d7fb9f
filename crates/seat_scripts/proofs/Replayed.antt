-- What two journals and scripts that are read come to, or what is wrong with one of them, as far as the inputs are known.
use Rattle.std.proofs.Common.{◌≢◌, ◌≡◌, ◌≤◌, ◌<◌, ⊎_elim, inl, inr, ℕ, Bool, List, Option, IfSome, length, refl, subst, sym}
use Rattle.std.specs.Prelude.{IsTrue, is_some}
use Rattle.ssim_flights.specs.declared.flight.Flight.{Flight as Flown}
use Rattle.seat_rules.specs.Inventory.{Inventory}
use Rattle.seat_seal.specs.declared.beside.Basis.{Basis}
use Rattle.seat_desk.proofs.Grounds.{ground_of_loaded}
use Rattle.seat_desk.specs.Answering.{IsFirstTooLarge}
use Rattle.seat_desk.specs.Desk.{IsOfInput}
use Rattle.seat_desk.specs.Loading.{Bytes, IsBehind, IsLoadedOf, IsRefusedLoad}
use Rattle.seat_desk.specs.Sealing.{IsBasisOf}
use Rattle.seat_desk.specs.declared.fault.DeskFault.TheVariants.{Device, TooLarge}
use Rattle.seat_desk.specs.declared.inputs.Inputs.{Inputs}
use Rattle.seat_scripts.proofs.Beside.{all_read, both_known, four_load, four_older, if_four, of_journal, read_journal, read_load, read_older, refused_script, refused_unasked, too_large_script}
use Rattle.seat_scripts.proofs.Common.{DeskFault, IsFirstTooLargeLoad, IsLoaded, IsUnasked, Ladders, Memory, OfThree, most_journal_bytes}
use Rattle.seat_scripts.proofs.Inputs.{has_loaded}
use Rattle.seat_scripts.proofs.OneTaken.{are_taken, for_each, for_taken}
use Rattle.seat_scripts.proofs.SealedBoth.{large_behind, large_journal, older_sealed, refused_as, refused_behind, refused_journal, refused_older}
use Rattle.seat_scripts.specs.Against.{IsRefusedAgainst, IsReplayWithin, IsTooLargeAgainst, IsUnlawfulBeside}
use Rattle.seat_scripts.specs.Beside.{FailsStart, IsFaultless, IsRefusedBeside}
use Rattle.seat_scripts.specs.Both.{IsOlderSealed, IsRefusedSealed, IsTooLargeSealed}
use Rattle.seat_scripts.specs.Journals.{AreJournals, AreNoJournals, IsFirstTooLargeOfBoth, IsNotReadBehind, IsReadBehind}
use Rattle.seat_scripts.specs.ReadAgainst.{IsNotAgainst, IsReadAgainst}
use Rattle.seat_scripts.specs.Taken.{ForTaken}
use Rattle.seat_scripts.specs.declared.against.Against.{Against}
use Rattle.seat_scripts.specs.declared.besides.Besides.{Besides}
use Rattle.seat_scripts.specs.declared.journals.Journals.{Journals}

-- lines that are not asked are no fault of a device, and of no size
pub never_device : (read : Against) (fault : DeskFault)
    → IsUnasked read.flights read.scripts read.older.journal read.more read.core.journal fault → fault ≢ Device
never_device read fault is same = subst (λ (f : DeskFault). IsUnasked read.flights read.scripts read.older.journal read.more read.core.journal f) same is

pub never_large : (read : Against) (fault : DeskFault)
    → IsUnasked read.flights read.scripts read.older.journal read.more read.core.journal fault → fault ≢ TooLarge
never_large read fault is same = subst (λ (f : DeskFault). IsUnasked read.flights read.scripts read.older.journal read.more read.core.journal f) same is

-- ---- where a set, limits or a journal are at fault

module _ {S L : Type 0} (set : Bytes S) (limits : Bytes L) (inputs : Inputs S L) (after journal : Option (List ℕ)) (besides : Besides) (load_failed older_failed journal_failed : Type 0) (fault : DeskFault) where
  abbrev NoJournals : Type 0
  NoJournals = AreNoJournals besides set limits inputs after journal load_failed older_failed journal_failed fault

  abbrev Unlawful : List ℕ → List ℕ → List ℕ → List ℕ → Type 0
  Unlawful xs ys older zs = IsUnlawfulBeside xs ys inputs.first inputs.days older zs fault

  pub no_ground : (IsOfInput fault → IfSome (set inputs.set) (λ xs. IfSome (limits inputs.limits) (λ ys. IsRefusedLoad xs ys inputs.first inputs.days fault)))
      → (fault ≡ TooLarge → IfSome (set inputs.set) (λ xs. IfSome (limits inputs.limits) (λ ys. IsFirstTooLargeLoad xs ys inputs.first inputs.days)))
      → (fault ≡ Device → load_failed) → NoJournals
  no_ground refused over failed = record {
    refused = λ input. four_load (λ xs ys. IsRefusedLoad xs ys inputs.first inputs.days fault) (λ xs ys older zs. IsRefusedSealed besides xs ys inputs.first inputs.days older zs fault (Unlawful xs ys older zs)) (set inputs.set) (limits inputs.limits) after journal
        (λ xs ys older zs is. inl (inl is)) (refused input);
    of_reading = λ input. read_load (set inputs.set) (limits inputs.limits) after journal fault inputs.first inputs.days (refused input);
    large = λ same. four_load (λ xs ys. IsFirstTooLargeLoad xs ys inputs.first inputs.days) (λ xs ys older zs. IsFirstTooLargeOfBoth besides xs ys inputs.first inputs.days older zs) (set inputs.set) (limits inputs.limits) after journal
        (λ xs ys older zs more. inl (inl more)) (over same);
    device = λ same. inl (inl (failed same));
  }

  module _ (flights : List Flown) (grid : Ladders) (basis : Basis) (has : Bool) (loaded : IsLoadedOf set limits inputs flights grid) (known : IsTrue has → IsBasisOf set limits inputs basis)
      (for_older : IsTrue (is_some besides.older.text) → IsTrue has) (for_journal : IsTrue (is_some besides.journal.text) → IsTrue has) where
    pub no_older : (IsOfInput fault → IfSome after (IsRefusedBeside besides.older basis grid fault))
        → (fault ≡ TooLarge → IfSome after (λ older. most_journal_bytes < length older)) → (fault ≡ Device → older_failed)
        → NoJournals
    no_older refused over failed = record {
      refused = λ input. refused_older (set inputs.set) (limits inputs.limits) after journal inputs.first inputs.days besides flights grid basis has loaded known for_older for_journal Unlawful fault refused input;
      of_reading = λ input. read_older (set inputs.set) (limits inputs.limits) after journal fault besides.older basis grid refused input;
      large = λ same. four_older (λ xs ys. IsLoaded xs ys inputs.first inputs.days flights grid) (λ older. most_journal_bytes < length older) (λ xs ys older zs. IsFirstTooLargeOfBoth besides xs ys inputs.first inputs.days older zs) (set inputs.set) (limits inputs.limits) after journal
          (λ xs ys older zs is more. inl (inr (record { ahead = record { flights = flights; rows = is.loaded.rows; is_ground = ground_of_loaded xs ys inputs.first inputs.days flights grid is }; here = more }))) loaded (over same);
      device = λ same. inl (inr (record { ahead = has_loaded (set inputs.set) (limits inputs.limits) inputs.first inputs.days flights grid loaded; here = failed same }));
    }

    pub no_journal : (past : Inventory) → IfSome after (IsReplayWithin grid past)
        → IfSome after (IsFaultless besides.older basis)
        → (IsOfInput fault → IfSome journal (IsRefusedBeside besides.journal basis grid fault))
        → (fault ≡ TooLarge → IfSome journal (λ zs. most_journal_bytes < length zs)) → (fault ≡ Device → journal_failed)
        → NoJournals
    no_journal past before agreed refused over failed = record {
      refused = λ input. refused_journal (set inputs.set) (limits inputs.limits) after journal inputs.first inputs.days besides flights grid basis has loaded known for_older for_journal past before agreed Unlawful fault
          (λ xs ys older zs is was wrong. record { flights = flights; grid = grid; is_loaded = is; older = past; is_older = was; is_unlawful = wrong }) refused input;
      of_reading = λ input. read_journal (set inputs.set) (limits inputs.limits) after journal fault besides.journal basis grid refused input;
      large = λ same. large_journal (set inputs.set) (limits inputs.limits) after journal inputs.first inputs.days besides flights grid basis has loaded known for_older for_journal past before agreed (over same);
      device = λ same. inr (record { ahead = older_sealed (set inputs.set) (limits inputs.limits) after journal inputs.first inputs.days besides flights grid basis has loaded known for_older for_journal past before agreed; here = failed same });
    }

module _ {S L : Type 0} (set : Bytes S) (limits : Bytes L) (inputs : Inputs S L) (after journal : Option (List ℕ)) (besides : Besides) (given : Option ℕ) (today : ℕ) (texts : List (Option (List ℕ))) where
  -- ---- where one of the inputs is at fault

  module _ (load_failed older_failed journal_failed script_failed : Type 0) (fault : DeskFault) where
    abbrev NotAgainst : Type 0
    NotAgainst = IsNotAgainst besides set limits inputs after given journal today texts load_failed older_failed journal_failed script_failed fault

    abbrev Refused : ℕ → List ℕ → List ℕ → List ℕ → List ℕ → Type 0
    Refused more xs ys older zs = IsRefusedAgainst xs ys inputs.first inputs.days older more zs today texts fault

    abbrev RefusedTaken : List ℕ → List ℕ → List ℕ → List ℕ → Type 0
    RefusedTaken xs ys older zs = ForTaken given besides.journal zs (λ more. Refused more xs ys older zs)

    pub no_journals : AreNoJournals besides set limits inputs after journal load_failed older_failed journal_failed fault → NotAgainst
    no_journals wrong = record {
      refused = λ input. if_four (λ xs ys older zs. IsRefusedSealed besides xs ys inputs.first inputs.days older zs fault (IsUnlawfulBeside xs ys inputs.first inputs.days older zs fault)) (λ xs ys older zs. IsRefusedSealed besides xs ys inputs.first inputs.days older zs fault (RefusedTaken xs ys older zs)) (set inputs.set) (limits inputs.limits) after journal
          (λ xs ys older zs is. refused_as besides xs ys inputs.first inputs.days older zs (IsUnlawfulBeside xs ys inputs.first inputs.days older zs fault) (RefusedTaken xs ys older zs) fault
          (λ u. record { each = λ more taken. of_journal xs ys inputs.first inputs.days older more zs today texts u.flights u.grid u.is_loaded u.older u.is_older fault u.is_unlawful }) is) (wrong.refused input);
      large = λ same. if_four (λ xs ys older zs. IsFirstTooLargeOfBoth besides xs ys inputs.first inputs.days older zs) (λ xs ys older zs. IsTooLargeSealed besides xs ys inputs.first inputs.days older zs (IsTooLargeAgainst xs ys inputs.first inputs.days older zs today texts)) (set inputs.set) (limits inputs.limits) after journal
          (λ xs ys older zs is. ⊎_elim
          (λ (more : IsFirstTooLarge xs ys inputs.first inputs.days older). inl more)
          (λ (b : IsBehind (IsOlderSealed besides.older xs ys inputs.first inputs.days older) (most_journal_bytes < length zs)). inr (inl b))
          is) (wrong.large same);
      device = λ same. ⊎_elim
          (λ (failed : FailsStart set limits inputs load_failed older_failed). inl failed)
          (λ (b : IsBehind (OfThree (set inputs.set) (limits inputs.limits) after (λ xs ys older. IsOlderSealed besides.older xs ys inputs.first inputs.days older)) journal_failed). inr (inl b))
          (wrong.device same);
    }

    module _ (is_sealed : Bool) where
      pub no_scripts : (both : Journals) → AreJournals besides set limits inputs after journal is_sealed both
          → IsNotReadBehind today texts script_failed fault → NotAgainst
      no_scripts both are wrong = record {
        refused = λ input. refused_behind (set inputs.set) (limits inputs.limits) after journal inputs.first inputs.days besides RefusedTaken fault are.agree
            (for_each Refused (set inputs.set) (limits inputs.limits) after journal given besides.journal
            (λ more. refused_script (set inputs.set) (limits inputs.limits) after journal inputs.first inputs.days more today texts both.flights both.core.grid are.is_loaded both.older are.is_older both.core are.is_replay
            fault (λ of. (wrong.refused of).of_script) (λ of. (wrong.refused of).is_refused) input));
        large = λ same. large_behind (set inputs.set) (limits inputs.limits) after journal inputs.first inputs.days besides (λ xs ys older zs. IsTooLargeAgainst xs ys inputs.first inputs.days older zs today texts) are.agree
            (too_large_script (set inputs.set) (limits inputs.limits) after journal inputs.first inputs.days today texts both.flights both.core.grid are.is_loaded both.older are.is_older both.core are.is_replay (wrong.large same));
        device = λ same. inr (inr (record {
          ahead = are.agree;
          here = inr (inr (inr (
            both_known (set inputs.set) (limits inputs.limits) after journal inputs.first inputs.days today texts both.flights both.core.grid are.is_loaded both.older are.is_older both.core are.is_replay,
            wrong.device same,
          )));
        }));
      }

      -- the lines behind the past are not what the scripts ask
      pub no_lines : (read : Against) → IsReadAgainst besides set limits inputs after given journal today texts is_sealed read
          → (fault ≢ Memory → IsUnasked read.flights read.scripts read.older.journal read.more read.core.journal fault)
          → fault ≢ Device → fault ≢ TooLarge → NotAgainst
      no_lines read is unasked not_device not_large = record {
        refused = λ input. refused_behind (set inputs.set) (limits inputs.limits) after journal inputs.first inputs.days besides RefusedTaken fault is.agree
            (for_taken Refused (set inputs.set) (limits inputs.limits) after journal given besides.journal read.more is.are_taken
            (refused_unasked (set inputs.set) (limits inputs.limits) after journal inputs.first inputs.days read.more today texts read.flights read.older read.core read.scripts read.scripts refl read.more refl is.are_read
            fault unasked input));
        large = λ same. absurd (not_large same);
        device = λ same. absurd (not_device same);
      }

  -- ---- where all are right

  pub read_over : (is_sealed : Bool) (both : Journals) → AreJournals besides set limits inputs after journal is_sealed both
      → (read : Against) → length read.scripts ≤ 8 → IsReadBehind both given today texts read
      → IsReadAgainst besides set limits inputs after given journal today texts is_sealed read
  read_over is_sealed both are read few is =
      subst (λ (r : Against). IsReadAgainst besides set limits inputs after given journal today texts is_sealed r) (sym is.read_is) (record {
        are_read = all_read (set inputs.set) (limits inputs.limits) after journal inputs.first inputs.days today texts both.flights both.core.grid are.is_loaded both.older are.is_older both.core are.is_replay
            is.scripts.scripts is.are_scripts;
        agree = are.agree;
        are_taken = are_taken given besides.journal journal both.known is.more are.is_known is.more_is;
        is_known = are.is_known;
        more_is = is.more_is;
        few_older = are.few_older;
        is_legal = are.is_legal;
        most = are.most;
        are_right = is.are_right;
        one_grid = are.one_grid;
        is_grid = are.is_grid;
        few = subst (λ (r : Against). length r.scripts ≤ 8) is.read_is few;
        few_lines = are.few_lines;
        is_basis = are.is_basis;
        are_imprints = is.are_imprints;
        is_booked = is.is_booked;
      })
