-- What is known of the inputs of a run that goes on with the scripts of a journal, and what it writes or refuses of them.
use Rattle.std.proofs.Common.{◌≡◌, ◌≢◌, ◌+◌, ◌<◌, inl, inr, ℕ, List, Option, IfSome, length, map, sym, ap, ◌∙◌, subst}
use Rattle.ssim_flights.specs.declared.flight.Flight.{Flight as Flown}
use Rattle.seat_journal.specs.declared.entry.Control.{Control}
use Rattle.seat_journal.proofs.TextLaws.{one_text}
use Rattle.seat_rules.specs.Inventory.{Inventory}
use Rattle.seat_desk.specs.Desk.{IsOfInput}
use Rattle.seat_desk.specs.declared.fault.DeskFault.TheVariants.{Book, Change as BadChange, Flight, Journal, Limit, NoBehind, NoLeg, Replay, Script, Seal, Set}
use Rattle.seat_scripts.proofs.Beside.{if_four}
use Rattle.seat_seal.specs.declared.beside.Beside.{Beside}
use Rattle.seat_scripts.proofs.OneTaken.{one_taken}
use Rattle.seat_scripts.proofs.SealedBoth.{both_four, large_as, refused_as}
use Rattle.seat_scripts.proofs.Common.{DeskFault, Entry, Ladders, Memory, Request, Unasked, commands_of, lists_over}
use Rattle.seat_scripts.specs.Against.{AreRead, IsOfReading, IsRefusedAgainst, IsTooLargeAgainst, OfFour}
use Rattle.seat_scripts.specs.Both.{IsRefusedSealed, IsTooLargeSealed}
use Rattle.seat_replies.specs.Changes.{AreChanges, IsOfChanges, IsUnchanged, most_change_bytes}
use Rattle.seat_scripts.specs.Resumed.{AreReady, HasReady, IsAskedStill, IsAhead, IsRefusedResume, IsTooLargeResume, IsWholeAsked}
use Rattle.seat_scripts.specs.Resuming.{IsNoRest, IsRestOf}
use Rattle.seat_replies.specs.RunDesk.{IsUnbooked}
use Rattle.seat_scripts.specs.Taken.{ForTaken, WithTaken}
use Rattle.seat_scripts.specs.declared.besides.Besides.{Besides}

-- ---- where all is known

module _ (set limits : List ℕ) (first days today : ℕ) (after : List ℕ) (more : ℕ) (journal : List ℕ) (texts : List (Option (List ℕ))) (changing : Option (List ℕ)) where
  abbrev Refused : DeskFault → Type 0
  Refused fault = IsRefusedResume set limits first days today after more journal texts changing fault

  -- of the inputs of an audit with scripts
  of_reading : (fault : DeskFault) → IsOfReading fault
      → IsRefusedAgainst set limits first days after more journal today texts fault → Refused fault
  of_reading (Set fault) read refused = record { refusal = refused.refusal }
  of_reading (Flight fault) read refused = record { refusal = refused.refusal }
  of_reading (Limit fault) read refused = record { refusal = refused.refusal }
  of_reading (Journal fault) read refused = record { refusal = refused.refusal }
  of_reading (Replay fault) read refused = record { refusal = refused.refusal }
  of_reading (Script session fault) read refused = record { refusal = refused.refusal }
  of_reading (Seal fault) read refused = record { refusal = refused.refusal }
  of_reading _ read refused = absurd read

  ready : (flights : List Flown) (older core : Inventory) (scripts : List (List Request))
      → AreRead set limits first days after journal today texts flights older core scripts
      → AreReady set limits first days today after journal texts flights core.grid older.journal core.journal scripts
  ready flights older core scripts r =
      subst (λ (g : Ladders). AreReady set limits first days today after journal texts flights g older.journal core.journal scripts) (sym r.is_replay.is_replay.grid_is) (record {
        is_loaded = r.is_loaded;
        is_older = record { within = r.is_older.within; is_text = r.is_older.is_replay.is_text; legal = r.is_older.is_replay.legal; few = r.is_older.is_replay.few };
        is_past = record { within = r.is_replay.within; is_text = r.is_replay.is_replay.is_text; legal = r.is_replay.is_replay.legal; few = r.is_replay.is_replay.few };
        are_scripts = r.are_scripts;
      })

  module _ (flights : List Flown) (grid : Ladders) (older lines : List Entry) (scripts : List (List Request)) (are : AreReady set limits first days today after journal texts flights grid older lines scripts) where
    -- of the changes
    of_changes : (fault : DeskFault) → IsOfChanges fault → IfSome changing (IsUnchanged flights fault) → Refused fault
    of_changes (BadChange fault) of refused =
        record { refusal = record { flights = flights; grid = grid; older = older; lines = lines; scripts = scripts; are_ready = are; is_refused = refused } }
    of_changes (NoLeg line) of refused =
        record { refusal = record { flights = flights; grid = grid; older = older; lines = lines; scripts = scripts; are_ready = are; is_refused = refused } }
    of_changes _ of refused = absurd of

    -- of a line that is not asked, or of lines that the journal lacks
    of_lines : (changes : List Control) → IfSome changing (AreChanges flights changes) → (fault : DeskFault)
        → IsNoRest flights scripts changes older more lines fault → Refused fault
    of_lines changes may (Unasked session call) none = record {
      refusal = record {
        flights = flights;
        grid = grid;
        older = older;
        lines = lines;
        scripts = scripts;
        changes = changes;
        is_asked = record { are_ready = are; are_changes = may };
        is_no_rest = none;
      };
    }
    of_lines changes may NoBehind none = record {
      refusal = record {
        flights = flights;
        grid = grid;
        older = older;
        lines = lines;
        scripts = scripts;
        changes = changes;
        is_asked = record { are_ready = are; are_changes = may };
        is_no_rest = none;
      };
    }
    of_lines changes may _ none = absurd none

  -- of a call that was not booked
  of_calls : (flights : List Flown) (grid : Ladders) (lines : List Entry) (left : List (List Request)) (rest : List Control)
      (fault : DeskFault)
      → IsAskedStill set limits first days today after more journal texts changing flights grid lines left rest
      → IsUnbooked grid lines rest (lists_over lines (map (commands_of flights) left)) fault → Refused fault
  of_calls flights grid lines left rest (Book session call) asked unbooked =
      record { refusal = record { flights = flights; grid = grid; lines = lines; left = left; rest = rest; is_asked = asked; is_unbooked = unbooked } }
  of_calls flights grid lines left rest _ asked unbooked = absurd unbooked

-- ---- as far as the bytes are known

-- what an audit with scripts refuses, and what it finds too large, with what stands beside both journals
module _ (set limits after journal : Option (List ℕ)) (first days today : ℕ) (texts : List (Option (List ℕ))) (changing : Option (List ℕ)) (besides : Besides) where
  module _ (given : Option ℕ) where
    abbrev ForAudit : DeskFault → List ℕ → List ℕ → List ℕ → List ℕ → Type 0
    ForAudit fault xs ys older zs =
        ForTaken given besides.journal zs (λ more. IsRefusedAgainst xs ys first days older more zs today texts fault)

    abbrev ForResume : DeskFault → List ℕ → List ℕ → List ℕ → List ℕ → Type 0
    ForResume fault xs ys older zs =
        ForTaken given besides.journal zs (λ more. IsRefusedResume xs ys first days today older more zs texts changing fault)

    pub still_read : (fault : DeskFault)
        → (IsOfInput fault → OfFour set limits after journal
        (λ xs ys older zs. IsRefusedSealed besides xs ys first days older zs fault (ForAudit fault xs ys older zs)))
        → (IsOfInput fault → OfFour set limits after journal (λ xs ys older zs. IsOfReading fault))
        → IsOfInput fault
        → OfFour set limits after journal
        (λ xs ys older zs. IsRefusedSealed besides xs ys first days older zs fault (ForResume fault xs ys older zs))
    still_read fault refused read input =
        both_four (λ xs ys older zs. IsOfReading fault) (λ xs ys older zs. IsRefusedSealed besides xs ys first days older zs fault (ForAudit fault xs ys older zs)) (λ xs ys older zs. IsRefusedSealed besides xs ys first days older zs fault (ForResume fault xs ys older zs)) set limits after journal
        (λ xs ys older zs of is. refused_as besides xs ys first days older zs (ForAudit fault xs ys older zs) (ForResume fault xs ys older zs) fault
        (λ r. record { each = λ more taken. of_reading xs ys first days today older more zs texts changing fault of (r.each more taken) }) is) (read input) (refused input)

  pub still_large : OfFour set limits after journal
      (λ xs ys older zs. IsTooLargeSealed besides xs ys first days older zs (IsTooLargeAgainst xs ys first days older zs today texts))
      → OfFour set limits after journal
      (λ xs ys older zs. IsTooLargeSealed besides xs ys first days older zs (IsTooLargeResume xs ys first days today older zs texts changing))
  still_large large =
      if_four (λ xs ys older zs. IsTooLargeSealed besides xs ys first days older zs (IsTooLargeAgainst xs ys first days older zs today texts)) (λ xs ys older zs. IsTooLargeSealed besides xs ys first days older zs (IsTooLargeResume xs ys first days today older zs texts changing)) set limits after journal
      (λ xs ys older zs is. large_as besides xs ys first days older zs (IsTooLargeAgainst xs ys first days older zs today texts) (IsTooLargeResume xs ys first days today older zs texts changing) (λ over. inl over) is) large

module _ (set limits after journal : Option (List ℕ)) (first days today more : ℕ) (texts : List (Option (List ℕ))) (changing : Option (List ℕ)) where
  abbrev IsRefused : DeskFault → Type 0
  IsRefused fault = OfFour set limits after journal (λ xs ys older zs. IsRefusedResume xs ys first days today older more zs texts changing fault)

  abbrev IsLarge : Type 0
  IsLarge = OfFour set limits after journal (λ xs ys older zs. IsTooLargeResume xs ys first days today older zs texts changing)

  module _ (flights : List Flown) (older core : Inventory) (scripts : List (List Request)) (read : OfFour set limits after journal (λ xs ys old zs. AreRead xs ys first days old zs today texts flights older core scripts)) where
    abbrev IsReady : List ℕ → List ℕ → List ℕ → List ℕ → Type 0
    IsReady xs ys old zs = AreReady xs ys first days today old zs texts flights core.grid older.journal core.journal scripts

    all_ready : OfFour set limits after journal IsReady
    all_ready =
        if_four (λ xs ys old zs. AreRead xs ys first days old zs today texts flights older core scripts) IsReady set limits after journal
        (λ xs ys old zs r. ready xs ys first days today old more zs texts changing flights older core scripts r) read

    abbrev a_ready : (xs ys old zs : List ℕ) → IsReady xs ys old zs → HasReady xs ys first days today old zs texts
    a_ready xs ys old zs are = record { flights = flights; grid = core.grid; older = older.journal; lines = core.journal; scripts = scripts; are_ready = are }

    pub large_still : IfSome changing (λ bytes. most_change_bytes < length bytes) → IsLarge
    large_still over =
        if_four IsReady (λ xs ys old zs. IsTooLargeResume xs ys first days today old zs texts changing) set limits after journal
        (λ xs ys old zs are. inr (a_ready xs ys old zs are, over)) all_ready

    pub has_ready : OfFour set limits after journal (λ xs ys old zs. HasReady xs ys first days today old zs texts)
    has_ready = if_four IsReady (λ xs ys old zs. HasReady xs ys first days today old zs texts) set limits after journal a_ready all_ready

    pub behind_still : (said behind : ℕ) → said ≡ more → behind ≡ length older.journal + said
        → OfFour set limits after journal (λ xs ys old zs. IsAhead more old behind)
    behind_still said behind is_more count =
        if_four (λ xs ys old zs. AreRead xs ys first days old zs today texts flights older core scripts) (λ xs ys old zs. IsAhead more old behind) set limits after journal
        (λ xs ys old zs r. record {
          each = λ lines text. count
              ∙ ap (λ (n : ℕ). length older.journal + n) is_more
              ∙ ap (λ (l : List Entry). length l + more) (one_text old older.journal lines r.is_older.is_replay.is_text text);
        })
        read

    pub unchanged_still : (fault : DeskFault) → (IsOfInput fault → IsOfChanges fault)
        → (IsOfInput fault → IfSome changing (IsUnchanged flights fault)) → IsOfInput fault → IsRefused fault
    unchanged_still fault of refused input =
        if_four IsReady (λ xs ys old zs. IsRefusedResume xs ys first days today old more zs texts changing fault) set limits after journal
        (λ xs ys old zs are. of_changes xs ys first days today old more zs texts changing flights core.grid older.journal core.journal scripts are fault (of input) (refused input)) all_ready

    module _ (changes : List Control) (may : IfSome changing (AreChanges flights changes)) where
      pub whole_still : OfFour set limits after journal
          (λ xs ys old zs. IsWholeAsked xs ys first days today old zs texts changing flights core.grid older.journal core.journal scripts changes)
      whole_still =
          if_four IsReady (λ xs ys old zs. IsWholeAsked xs ys first days today old zs texts changing flights core.grid older.journal core.journal scripts changes) set limits after journal
          (λ xs ys old zs are. record { are_ready = are; are_changes = may }) all_ready

      pub no_rest_still : (slice : List (List Request)) (given : List Control) (said : ℕ) → slice ≡ scripts
          → given ≡ changes → said ≡ more → (fault : DeskFault)
          → (fault ≢ Memory → IsNoRest flights slice given older.journal said core.journal fault)
          → IsOfInput fault → IsRefused fault
      no_rest_still slice given said same told is_more fault none input =
          if_four IsReady (λ xs ys old zs. IsRefusedResume xs ys first days today old more zs texts changing fault) set limits after journal
          (λ xs ys old zs are. of_lines xs ys first days today old more zs texts changing flights core.grid older.journal core.journal scripts are changes may fault
          (subst (λ (s : List (List Request)). IsNoRest flights s changes older.journal more core.journal fault) same
          (subst (λ (c : List Control). IsNoRest flights slice c older.journal more core.journal fault) told
          (subst (λ (n : ℕ). IsNoRest flights slice given older.journal n core.journal fault) is_more
          (none (λ (e : fault ≡ Memory). subst IsOfInput e input)))))) all_ready

      pub asked_still : (slice : List (List Request)) (given : List Control) (said : ℕ) (left : List (List Request))
          (rest : List Control) → slice ≡ scripts → given ≡ changes → said ≡ more
          → IsRestOf flights slice given older.journal said core.journal left rest
          → OfFour set limits after journal
          (λ xs ys old zs. IsAskedStill xs ys first days today old more zs texts changing flights core.grid core.journal left rest)
      asked_still slice given said left rest same told is_more is =
          if_four IsReady (λ xs ys old zs. IsAskedStill xs ys first days today old more zs texts changing flights core.grid core.journal left rest) set limits after journal
          (λ xs ys old zs are. record {
            older = older.journal;
            scripts = scripts;
            changes = changes;
            is_asked = record { are_ready = are; are_changes = may };
            is_rest = subst (λ (s : List (List Request)). IsRestOf flights s changes older.journal more core.journal left rest) same
                (subst (λ (c : List Control). IsRestOf flights slice c older.journal more core.journal left rest) told
                (subst (λ (n : ℕ). IsRestOf flights slice given older.journal n core.journal left rest) is_more is));
          })
          all_ready

-- a call that was not booked
module _ (set limits after journal : Option (List ℕ)) (first days today : ℕ) (texts : List (Option (List ℕ))) (changing : Option (List ℕ)) (given : Option ℕ) (beside : Beside)
    (flights : List Flown) (grid : Ladders) (lines : List Entry) (left : List (List Request)) (rest : List Control) where
  abbrev IsAsked : List ℕ → List ℕ → List ℕ → List ℕ → Type 0
  IsAsked xs ys older zs =
      WithTaken given beside zs (λ more. IsAskedStill xs ys first days today older more zs texts changing flights grid lines left rest)

  pub unbooked_still : OfFour set limits after journal (λ xs ys older zs. IsAsked xs ys older zs) → (fault : DeskFault)
      → (fault ≢ Memory → IsUnbooked grid lines rest (lists_over lines (map (commands_of flights) left)) fault)
      → IsOfInput fault
      → OfFour set limits after journal
      (λ xs ys older zs. ForTaken given beside zs (λ more. IsRefusedResume xs ys first days today older more zs texts changing fault))
  unbooked_still asked fault unbooked input =
      if_four (λ xs ys older zs. IsAsked xs ys older zs) (λ xs ys older zs. ForTaken given beside zs (λ more. IsRefusedResume xs ys first days today older more zs texts changing fault)) set limits after journal
      (λ xs ys older zs is. record {
        each = λ more taken. subst (λ (n : ℕ). IsRefusedResume xs ys first days today older n zs texts changing fault) (one_taken given beside zs is.more more is.are_taken taken)
            (of_calls xs ys first days today older is.more zs texts changing flights grid lines left rest fault is.here (unbooked (λ (e : fault ≡ Memory). subst IsOfInput e input)));
      }) asked
