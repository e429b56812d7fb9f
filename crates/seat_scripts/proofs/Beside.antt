-- What an audit with scripts writes or refuses is that of its inputs, where what was read of each is all of it.
use Rattle.std.proofs.Common.{◌≡◌, ◌≢◌, ⊎_elim, inr, ℕ, List, Option, Some, None, IfSome, drop, subst, sym, take}
use Rattle.seat_scripts.proofs.Common.{Request, Ladders, totals_of, audit_line, IsLoaded, DeskFault, Memory, Unasked, AreAskedBehind, IsUnasked, AreScripts, IsRefusedAmong, IsTooLargeAmong}
use Rattle.ssim_flights.specs.declared.flight.Flight.{Flight as Flown}
use Rattle.seat_rules.specs.Inventory.{Inventory}
use Rattle.seat_desk.specs.AuditDesk.{IsUnlawful}
use Rattle.seat_desk.specs.Desk.{IsOfInput}
use Rattle.seat_desk.specs.Loading.{IsBehind, IsRefusedLoad}
use Rattle.seat_desk.specs.Sealing.{IsBesideFault}
use Rattle.seat_seal.specs.declared.beside.Basis.{Basis}
use Rattle.seat_seal.specs.declared.beside.Beside.{Beside}
use Rattle.seat_desk.specs.declared.fault.DeskFault.TheVariants.{Flight, Journal, Limit, NoBehind, Replay, Script, Seal, Set}
use Rattle.seat_scripts.specs.Added.{AreAdded}
use Rattle.seat_scripts.specs.Against.{AreAsked, AreRead, HasBoth, IsAuditAgainst, IsOfReading, IsParted, IsRefusedAgainst, IsReplayWithin, IsTooLargeAgainst, OfFour}
use Rattle.seat_scripts.specs.Beside.{IsFaultless, IsRefusedBeside, IsUnsealed}
use Rattle.seat_scripts.specs.Replying.{AreRepliesBehind, AreRepliesOver}
use Rattle.seat_scripts.specs.declared.by_session.Wanted.{Wanted}
use Rattle.seat_replies.specs.Requests.{IsOfScript}

-- what is said of known bytes is said of those that may be known
pub if_known : (P : List ℕ → List ℕ → Type 0) (A Q : List ℕ → Type 0) (R : List ℕ → List ℕ → List ℕ → List ℕ → Type 0)
    (set limits after journal : Option (List ℕ))
    → ((xs ys older zs : List ℕ) → P xs ys → A older → Q zs → R xs ys older zs)
    → IfSome set (λ xs. IfSome limits (λ ys. P xs ys)) → IfSome after A → IfSome journal Q
    → OfFour set limits after journal R
if_known P A Q R (Some xs) (Some ys) (Some older) (Some zs) give p a q = give xs ys older zs p a q
if_known P A Q R (Some xs) (Some ys) (Some older) None give p a q = tt
if_known P A Q R (Some xs) (Some ys) None journal give p a q = tt
if_known P A Q R (Some xs) None after journal give p a q = tt
if_known P A Q R None limits after journal give p a q = tt

pub if_four : (P Q : List ℕ → List ℕ → List ℕ → List ℕ → Type 0) (set limits after journal : Option (List ℕ))
    → ((xs ys older zs : List ℕ) → P xs ys older zs → Q xs ys older zs)
    → OfFour set limits after journal P → OfFour set limits after journal Q
if_four P Q (Some xs) (Some ys) (Some older) (Some zs) give all = give xs ys older zs all
if_four P Q (Some xs) (Some ys) (Some older) None give all = tt
if_four P Q (Some xs) (Some ys) None journal give all = tt
if_four P Q (Some xs) None after journal give all = tt
if_four P Q None limits after journal give all = tt

-- ---- refusals, where all is known

module _ (set limits : List ℕ) (first days : ℕ) (after : List ℕ) (more : ℕ) (journal : List ℕ) (today : ℕ) (texts : List (Option (List ℕ))) where
  abbrev Refused : DeskFault → Type 0
  Refused fault = IsRefusedAgainst set limits first days after more journal today texts fault

  module _ (flights : List Flown) (grid : Ladders) (loaded : IsLoaded set limits first days flights grid) (older : Inventory) (before : IsReplayWithin grid older after) where
    pub of_journal : (fault : DeskFault) → IsUnlawful grid fault journal → Refused fault
    of_journal (Journal fault) unlawful =
        record { refusal = inr (record { flights = flights; grid = grid; is_loaded = loaded; older = older; is_older = before; is_unlawful = unlawful }) }
    of_journal (Replay fault) unlawful =
        record { refusal = inr (record { flights = flights; grid = grid; is_loaded = loaded; older = older; is_older = before; is_unlawful = unlawful }) }
    of_journal _ unlawful = absurd unlawful.refused

    module _ (core : Inventory) (replayed : IsReplayWithin grid core journal) where
      of_scripts : (fault : DeskFault) → IsOfScript fault → IsRefusedAmong today 1 texts fault → Refused fault
      of_scripts (Script session fault) script refused =
          record { refusal = record { flights = flights; grid = grid; is_loaded = loaded; older = older; is_older = before; core = core; is_replay = replayed; is_refused = refused } }
      of_scripts _ script refused = absurd script

      of_lines : (scripts : List (List Request)) → AreScripts today texts scripts → (fault : DeskFault)
          → IsUnasked flights scripts older.journal more core.journal fault → Refused fault
      of_lines scripts are (Unasked session call) unasked = record {
        refusal = record {
          flights = flights;
          grid = grid;
          is_loaded = loaded;
          older = older;
          is_older = before;
          core = core;
          is_replay = replayed;
          scripts = scripts;
          are_scripts = are;
          is_unasked = unasked;
        };
      }
      of_lines scripts are NoBehind unasked = record {
        refusal = record {
          flights = flights;
          grid = grid;
          is_loaded = loaded;
          older = older;
          is_older = before;
          core = core;
          is_replay = replayed;
          scripts = scripts;
          are_scripts = are;
          is_unasked = unasked;
        };
      }
      of_lines scripts are _ unasked = absurd unasked

-- ---- refusals and lines, as far as the bytes are known

module _ (set limits after journal : Option (List ℕ)) (first days more today : ℕ) (texts : List (Option (List ℕ))) where
  abbrev IsRefused : DeskFault → Type 0
  IsRefused fault = OfFour set limits after journal (λ xs ys older zs. IsRefusedAgainst xs ys first days older more zs today texts fault)

  module _ (flights : List Flown) (grid : Ladders) (loaded : IfSome set (λ xs. IfSome limits (λ ys. IsLoaded xs ys first days flights grid)))
      (older : Inventory) (before : IfSome after (IsReplayWithin grid older)) where
    module _ (core : Inventory) (replayed : IfSome journal (IsReplayWithin grid core)) where
      -- of a script
      pub refused_script : (fault : DeskFault) → (IsOfInput fault → IsOfScript fault)
          → (IsOfInput fault → IsRefusedAmong today 1 texts fault) → IsOfInput fault → IsRefused fault
      refused_script fault script refused input =
          if_known (λ xs ys. IsLoaded xs ys first days flights grid) (IsReplayWithin grid older) (IsReplayWithin grid core) (λ xs ys old zs. IsRefusedAgainst xs ys first days old more zs today texts fault) set limits after journal
          (λ xs ys old zs is was h. of_scripts xs ys first days old more zs today texts flights grid is older was core h fault (script input) (refused input)) loaded before replayed

  module _ (flights : List Flown) (older core : Inventory) (scripts slice : List (List Request)) (same : slice ≡ scripts)
      (given : ℕ) (is_more : given ≡ more) (read : OfFour set limits after journal (λ xs ys old zs. AreRead xs ys first days old zs today texts flights older core scripts)) where
    here : AreScripts today texts scripts → AreScripts today texts slice
    here are = subst (AreScripts today texts) (sym same) are

    -- of a line that is not asked
    pub refused_unasked : (fault : DeskFault)
        → (fault ≢ Memory → IsUnasked flights slice older.journal given core.journal fault)
        → IsOfInput fault → IsRefused fault
    refused_unasked fault unasked input =
        if_four (λ xs ys old zs. AreRead xs ys first days old zs today texts flights older core scripts) (λ xs ys old zs. IsRefusedAgainst xs ys first days old more zs today texts fault) set limits after journal
        (λ xs ys old zs r. of_lines xs ys first days old more zs today texts flights r.grid r.is_loaded older r.is_older core r.is_replay slice (here r.are_scripts) fault (subst (λ (n : ℕ). IsUnasked flights slice older.journal n core.journal fault) is_more (unasked (λ (e : fault ≡ Memory). subst IsOfInput e input)))) read

    -- the line of the audit
    pub audited : (line : List ℕ) → line ≡ audit_line (totals_of core.journal)
        → AreAskedBehind flights slice older.journal given core.journal
        → OfFour set limits after journal (λ xs ys old zs. IsAuditAgainst xs ys first days old more zs today texts line)
    audited line sums asked =
        if_four (λ xs ys old zs. AreRead xs ys first days old zs today texts flights older core scripts) (λ xs ys old zs. IsAuditAgainst xs ys first days old more zs today texts line) set limits after journal
        (λ xs ys old zs r. record {
          flights = flights;
          grid = r.grid;
          is_loaded = r.is_loaded;
          older = older;
          is_older = r.is_older;
          within = r.is_replay.within;
          is_audited = record {
            entries = core.journal;
            is_text = r.is_replay.is_replay.is_text;
            legal = r.is_replay.is_replay.legal;
            few = r.is_replay.is_replay.few;
            within = r.is_replay.is_replay.within;
            sums = sums;
          };
          scripts = slice;
          are_scripts = here r.are_scripts;
          are_asked = subst (λ (n : ℕ). AreAskedBehind flights slice older.journal n core.journal) is_more asked;
        })
        read

    -- the replies
    pub replied : (wanted : Wanted) (text : List ℕ) → AreRepliesBehind flights slice older.journal given core.journal wanted text
        → OfFour set limits after journal (λ xs ys old zs. AreRepliesOver xs ys first days old more zs today texts wanted text)
    replied wanted text are =
        if_four (λ xs ys old zs. AreRead xs ys first days old zs today texts flights older core scripts) (λ xs ys old zs. AreRepliesOver xs ys first days old more zs today texts wanted text) set limits after journal
        (λ xs ys old zs r. record {
          flights = flights;
          grid = r.grid;
          is_loaded = r.is_loaded;
          older = older;
          is_older = r.is_older;
          core = core;
          is_replay = r.is_replay;
          scripts = slice;
          are_scripts = here r.are_scripts;
          are_replies = subst (λ (n : ℕ). AreRepliesBehind flights slice older.journal n core.journal wanted text) is_more are;
        })
        read

    -- the lines that were added
    pub added : (past : ℕ) → IsParted older.journal given (take past core.journal) (drop past core.journal) core.journal
        → AreAsked flights slice (drop past core.journal)
        → OfFour set limits after journal (λ xs ys old zs. AreAdded xs ys first days old more zs today texts flights scripts (take past core.journal) (drop past core.journal))
    added past parted asked =
        if_four (λ xs ys old zs. AreRead xs ys first days old zs today texts flights older core scripts) (λ xs ys old zs. AreAdded xs ys first days old more zs today texts flights scripts (take past core.journal) (drop past core.journal)) set limits after journal
        (λ xs ys old zs r. record {
          grid = r.grid;
          is_loaded = r.is_loaded;
          older = older;
          is_older = r.is_older;
          core = core;
          is_replay = r.is_replay;
          are_scripts = r.are_scripts;
          parted = subst (λ (n : ℕ). IsParted older.journal n (take past core.journal) (drop past core.journal) core.journal) is_more parted;
          are_asked = subst (λ (l : List (List Request)). AreAsked flights l (drop past core.journal)) same asked;
        })
        read

-- ---- inputs that are too large, or fail

-- where the journals are not asked, and where the second is not
pub four_load : (P : List ℕ → List ℕ → Type 0) (R : List ℕ → List ℕ → List ℕ → List ℕ → Type 0)
    (set limits after journal : Option (List ℕ)) → ((xs ys older zs : List ℕ) → P xs ys → R xs ys older zs)
    → IfSome set (λ xs. IfSome limits (λ ys. P xs ys)) → OfFour set limits after journal R
four_load P R (Some xs) (Some ys) (Some older) (Some zs) give p = give xs ys older zs p
four_load P R (Some xs) (Some ys) (Some older) None give p = tt
four_load P R (Some xs) (Some ys) None journal give p = tt
four_load P R (Some xs) None after journal give p = tt
four_load P R None limits after journal give p = tt

pub four_older : (P : List ℕ → List ℕ → Type 0) (A : List ℕ → Type 0) (R : List ℕ → List ℕ → List ℕ → List ℕ → Type 0)
    (set limits after journal : Option (List ℕ)) → ((xs ys older zs : List ℕ) → P xs ys → A older → R xs ys older zs)
    → IfSome set (λ xs. IfSome limits (λ ys. P xs ys)) → IfSome after A → OfFour set limits after journal R
four_older P A R (Some xs) (Some ys) (Some older) (Some zs) give p a = give xs ys older zs p a
four_older P A R (Some xs) (Some ys) (Some older) None give p a = tt
four_older P A R (Some xs) (Some ys) None journal give p a = tt
four_older P A R (Some xs) None after journal give p a = tt
four_older P A R None limits after journal give p a = tt

module _ (set limits after journal : Option (List ℕ)) (first days today : ℕ) (texts : List (Option (List ℕ))) where
  abbrev IsLarge : Type 0
  IsLarge = OfFour set limits after journal (λ xs ys older zs. IsTooLargeAgainst xs ys first days older zs today texts)

  module _ (flights : List Flown) (grid : Ladders) (loaded : IfSome set (λ xs. IfSome limits (λ ys. IsLoaded xs ys first days flights grid))) where
    module _ (older : Inventory) (before : IfSome after (IsReplayWithin grid older)) where
      module _ (core : Inventory) (replayed : IfSome journal (IsReplayWithin grid core)) where
        abbrev a_both : (xs ys old zs : List ℕ) → IsLoaded xs ys first days flights grid → IsReplayWithin grid older old
            → IsReplayWithin grid core zs → HasBoth xs ys first days old zs
        a_both xs ys old zs is was h = record { flights = flights; grid = grid; is_loaded = is; older = older; is_older = was; core = core; is_replay = h }

        pub too_large_script : IsTooLargeAmong today texts → IsLarge
        too_large_script over =
            if_known (λ xs ys. IsLoaded xs ys first days flights grid) (IsReplayWithin grid older) (IsReplayWithin grid core) (λ xs ys old zs. IsTooLargeAgainst xs ys first days old zs today texts) set limits after journal
            (λ xs ys old zs is was h. inr (inr (inr (a_both xs ys old zs is was h, over)))) loaded before replayed

        pub both_known : OfFour set limits after journal (λ xs ys old zs. HasBoth xs ys first days old zs)
        both_known =
            if_known (λ xs ys. IsLoaded xs ys first days flights grid) (IsReplayWithin grid older) (IsReplayWithin grid core) (λ xs ys old zs. HasBoth xs ys first days old zs) set limits after journal
            a_both loaded before replayed

        -- all is right
        pub all_read : (scripts : List (List Request)) → AreScripts today texts scripts
            → OfFour set limits after journal
            (λ xs ys old zs. AreRead xs ys first days old zs today texts flights older core scripts)
        all_read scripts are =
            if_known (λ xs ys. IsLoaded xs ys first days flights grid) (IsReplayWithin grid older) (IsReplayWithin grid core) (λ xs ys old zs. AreRead xs ys first days old zs today texts flights older core scripts) set limits after journal
            (λ xs ys old zs is was h. record { grid = grid; is_loaded = is; is_older = was; is_replay = h; are_scripts = are }) loaded before replayed

-- ---- what is wrong is one input by itself

of_loading : (set limits : List ℕ) (first days : ℕ) (fault : DeskFault) → IsRefusedLoad set limits first days fault
    → IsOfReading fault
of_loading set limits first days (Set fault) refused = tt
of_loading set limits first days (Flight fault) refused = tt
of_loading set limits first days (Limit fault) refused = tt
of_loading set limits first days _ refused = absurd refused.refusal

of_unlawful : (grid : Ladders) (bytes : List ℕ) (fault : DeskFault) → IsUnlawful grid fault bytes → IsOfReading fault
of_unlawful grid bytes (Journal fault) unlawful = tt
of_unlawful grid bytes (Replay fault) unlawful = tt
of_unlawful grid bytes _ unlawful = absurd unlawful.refused

of_unsealed : (beside : Beside) (basis : Basis) (bytes : List ℕ) (fault : DeskFault)
    → IsBesideFault beside basis bytes fault → IsOfReading fault
of_unsealed beside basis bytes (Seal fault) is = tt
of_unsealed beside basis bytes _ is = absurd is

of_refused : (beside : Beside) (basis : Basis) (grid : Ladders) (bytes : List ℕ) (fault : DeskFault)
    → IsRefusedBeside beside basis grid fault bytes → IsOfReading fault
of_refused beside basis grid bytes fault refused =
    ⊎_elim
    (λ (u : IsUnsealed beside basis fault bytes). of_unsealed beside basis bytes fault u.is_first)
    (λ (u : IsBehind (IsFaultless beside basis bytes) (IsUnlawful grid fault bytes)). of_unlawful grid bytes fault u.here)
    refused

of_script : (fault : DeskFault) → IsOfScript fault → IsOfReading fault
of_script (Script session fault) script = tt
of_script _ script = absurd script

module _ (set limits after journal : Option (List ℕ)) (fault : DeskFault) where
  abbrev Reading : Type 0
  Reading = OfFour set limits after journal (λ xs ys older zs. IsOfReading fault)

  pub read_load : (first days : ℕ) → IfSome set (λ xs. IfSome limits (λ ys. IsRefusedLoad xs ys first days fault))
      → Reading
  read_load first days refused =
      four_load (λ xs ys. IsRefusedLoad xs ys first days fault) (λ xs ys older zs. IsOfReading fault) set limits after journal (λ xs ys older zs is. of_loading xs ys first days fault is) refused

  pub read_older : (beside : Beside) (basis : Basis) (grid : Ladders)
      → (IsOfInput fault → IfSome after (IsRefusedBeside beside basis grid fault)) → IsOfInput fault → Reading
  read_older beside basis grid refused input = by set limits after journal (refused input) where
    by : (s l a j : Option (List ℕ)) → IfSome a (IsRefusedBeside beside basis grid fault)
        → OfFour s l a j (λ xs ys older zs. IsOfReading fault)
    by (Some xs) (Some ys) (Some older) (Some zs) is = of_refused beside basis grid older fault is
    by (Some xs) (Some ys) (Some older) None is = tt
    by (Some xs) (Some ys) None j is = tt
    by (Some xs) None a j is = tt
    by None l a j is = tt

  pub read_journal : (beside : Beside) (basis : Basis) (grid : Ladders)
      → (IsOfInput fault → IfSome journal (IsRefusedBeside beside basis grid fault)) → IsOfInput fault → Reading
  read_journal beside basis grid refused input = by set limits after journal (refused input) where
    by : (s l a j : Option (List ℕ)) → IfSome j (IsRefusedBeside beside basis grid fault)
        → OfFour s l a j (λ xs ys older zs. IsOfReading fault)
    by (Some xs) (Some ys) (Some older) (Some zs) is = of_refused beside basis grid zs fault is
    by (Some xs) (Some ys) (Some older) None is = tt
    by (Some xs) (Some ys) None j is = tt
    by (Some xs) None a j is = tt
    by None l a j is = tt

  pub read_script : (IsOfInput fault → IsOfScript fault) → IsOfInput fault → Reading
  read_script script input = by set limits after journal (of_script fault (script input)) where
    by : (s l a j : Option (List ℕ)) → IsOfReading fault → OfFour s l a j (λ xs ys older zs. IsOfReading fault)
    by (Some xs) (Some ys) (Some older) (Some zs) is = is
    by (Some xs) (Some ys) (Some older) None is = tt
    by (Some xs) (Some ys) None j is = tt
    by (Some xs) None a j is = tt
    by None l a j is = tt
