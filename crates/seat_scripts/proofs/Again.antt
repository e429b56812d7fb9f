-- What a run writes that goes on with scripts is that of the whole scripts, and to go on once more books nothing.
use Rattle.std.proofs.Common.{◌≡◌, ◌⊎◌, ⊎_elim, inl, ℕ, zero, suc, ◌+◌, ◌-◌, ◌<◌, ◌≤◌, List, [], ◌∷◌, ◌++◌, length, map, drop, refl, sym, ap, ◌∙◌, subst, arith, append_assoc, false, Option, Some}
use Rattle.std.specs.Prelude.{slice_get, unwrap_or}
use Rattle.std.specs.Str.Lines.{lines as lines_of}
use Rattle.std.proofs.lemmas.Bool.{cases_lt}
use Rattle.std.proofs.lemmas.List.{append-nil, drop_all, length-append, length-drop, length-map}
use Rattle.std.proofs.lemmas.Option.{slice_get_past}
use Rattle.airline_base.proofs.Tests.{some_is}
use Rattle.ssim_flights.specs.declared.flight.Flight.{Flight as Flown}
use Rattle.seat_journal.specs.declared.entry.Control.{Control}
use Rattle.seat_journal.specs.Controls.{set_by}
use Rattle.seat_journal.specs.Text.{IsJournalText, journal_text}
use Rattle.seat_journal.proofs.TextLaws.{one_text}
use Rattle.seat_limits.specs.declared.change_row.ChangeRow.{ChangeRow}
use Rattle.seat_limits.proofs.ChangeTexts.{changes_again}
use Rattle.seat_limits.proofs.RowTexts.{rows_is}
use Rattle.seat_rules.specs.Inventory.{Inventory}
use Rattle.seat_desk.specs.AuditDesk.{most_lines}
use Rattle.seat_desk.specs.FlightsDesk.{IsText}
use Rattle.seat_desk.proofs.Grounds.{loaded_replays_keep_limits}
use Rattle.seat_scripts.proofs.Accepted.{each_of}
use Rattle.seat_scripts.proofs.Common.{AllByRecursion, Entry, IsHistoryOf, Ladders, Request, Seats, Work, by_session, commands_of, done_by, lists_over, most_journal_bytes}
use Rattle.seat_scripts.proofs.Comparing.{all_asked, done_append, done_own}
use Rattle.seat_scripts.proofs.Grown.{all_there, done_all, done_length, nothing_is_left}
use Rattle.seat_replies.proofs.Histories.{as_replies, managed}
use Rattle.seat_scripts.proofs.Lengths.{text_short}
use Rattle.seat_scripts.proofs.Rest.{left_count}
use Rattle.seat_replies.proofs.Rows.{all_append}
use Rattle.seat_scripts.proofs.Unasked.{one_schedule, own_added, same_scripts}
use Rattle.seat_scripts.specs.Against.{AreAsked, AreAskedBelow, IsParted, IsReplayWithin}
use Rattle.seat_replies.specs.Changes.{AreChanges, all_served}
use Rattle.seat_scripts.specs.Resumed.{BooksNothing, IsResumed, ResumedAgainIsTheSame, ResumedIsOfTheWhole, ResumedRunIsTheSame}
use Rattle.seat_scripts.specs.Resuming.{AreAskedOf, AreLeft, HaveBegunBelow, changes_left, left_from}
use Rattle.seat_replies.specs.RunDesk.{AreReplies, AreSessions, IsRun, requests_of}
use Rattle.seat_replies.specs.VeryRequest.{Agree}

-- ---- what was added is what was left

module _ (grid : Ladders) (past : List Entry) (flights : List Flown) (changes : List Control) (scripts : List (List Request)) (history : List Entry) (told : List (List Entry))
    (h : IsHistoryOf grid past changes (lists_over past (map (commands_of flights) scripts)) history told) where
  asked_of : AreAskedOf flights scripts h.added
  asked_of = record { each = each } where
    each : (session : ℕ) → 1 ≤ session → done_by session h.added ≡ map Seats (commands_of flights (requests_of scripts session))
    each session low =
        let up : suc (session - 1) ≡ session = omega (arith, low) in
        subst (λ (k : ℕ). done_by k h.added ≡ map Seats (commands_of flights (requests_of scripts k))) up
        (each_of grid past flights changes scripts history told h (session - 1))

  made_of : done_by 0 h.added ≡ map set_by changes
  made_of = managed grid past flights changes scripts history told h

-- ---- the whole scripts

module _ (flights : List Flown) (scripts : List (List Request)) (begun added : List Entry) (have_begun : HaveBegunBelow flights scripts begun 9)
    (asked : AreAskedOf flights (left_from 1 scripts begun) added) where
  all_below : AreAskedBelow flights scripts (begun ++ added) 9
  all_below = record { each = λ session low high. record { each = λ place. at session low high place (cases_lt place (length (done_by session (begun ++ added)))) } } where
    at : (session : ℕ) → 1 ≤ session → session < 9 → (place : ℕ)
        → (place < length (done_by session (begun ++ added))) ⊎ (length (done_by session (begun ++ added)) ≤ place)
        → Agree flights (slice_get (requests_of scripts session) place) (slice_get (done_by session (begun ++ added)) place)
    at session low high place either =
        let long = done_length flights scripts begun added have_begun asked session low in
        ⊎_elim
        (λ (within : place < length (done_by session (begun ++ added))).
        subst (λ (works : List Work). Agree flights (slice_get (requests_of scripts session) place) (slice_get works place)) (sym (done_all flights scripts begun added have_begun asked session low))
        (all_there flights scripts begun added have_begun asked session low high place (omega (arith, within, long))))
        (λ (past : length (done_by session (begun ++ added)) ≤ place).
        let cut : length (drop (length (done_by session begun)) (requests_of scripts session)) ≡ length (requests_of scripts session) - length (done_by session begun) = length-drop (length (done_by session begun)) (requests_of scripts session) in
        rw (slice_get_past (requests_of scripts session) place (omega (arith, past, long, cut)), slice_get_past (done_by session (begun ++ added)) place past) tt)
        either

module _ (set limits : List ℕ) (first days today : ℕ) (after : List ℕ) (more : ℕ) (journal : List ℕ) (texts : List (Option (List ℕ))) (changing : Option (List ℕ)) (written replies : List ℕ)
    (resumed : IsResumed set limits first days today after more journal texts changing written replies) where
  written_text : IsJournalText written resumed.history
  written_text = record { each = resumed.are_entries; text = inl resumed.written_is }

  left_asked : AreAskedOf resumed.flights (left_from 1 resumed.is_asked.scripts resumed.is_asked.is_rest.begun) resumed.is_history.added
  left_asked =
      subst (λ (l : List (List Request)). AreAskedOf resumed.flights l resumed.is_history.added) resumed.is_asked.is_rest.are_left.left_is
      (asked_of resumed.grid resumed.lines resumed.flights resumed.rest resumed.left resumed.history resumed.receipts resumed.is_history)

  -- the past, and what was begun and added behind it
  whole : IsParted resumed.is_asked.older more resumed.is_asked.is_rest.past (resumed.is_asked.is_rest.begun ++ resumed.is_history.added) resumed.history
  whole = record {
    whole = resumed.is_history.goes_on
        ∙ (ap (λ (l : List Entry). l ++ resumed.is_history.added) resumed.is_asked.is_rest.parted.whole
        ∙ append_assoc resumed.is_asked.is_rest.past resumed.is_asked.is_rest.begun resumed.is_history.added);
    goes_on = resumed.is_asked.is_rest.parted.goes_on;
    count = resumed.is_asked.is_rest.parted.count;
  }

  few_scripts : length resumed.is_asked.scripts ≤ 8
  few_scripts =
      omega (arith, resumed.is_replied.few, ap length resumed.is_asked.is_rest.are_left.left_is, left_count 1 resumed.is_asked.scripts resumed.is_asked.is_rest.begun)

  all_very : AreAsked resumed.flights resumed.is_asked.scripts (resumed.is_asked.is_rest.begun ++ resumed.is_history.added)
  all_very =
      all_asked resumed.flights resumed.grid resumed.is_asked.scripts resumed.is_asked.is_rest.past resumed.history (resumed.is_asked.is_rest.begun ++ resumed.is_history.added)
      resumed.is_history.headline.legal whole.whole few_scripts
      (all_below resumed.flights resumed.is_asked.scripts resumed.is_asked.is_rest.begun resumed.is_history.added resumed.is_asked.is_rest.are_left.have_begun left_asked)

  abbrev older : Inventory
  older = record { grid = resumed.grid; cap = most_lines; journal = resumed.is_asked.older; spare = false; spares = [] }

  is_older : IsReplayWithin resumed.grid older after
  is_older = record {
    within = resumed.is_asked.is_asked.are_ready.is_older.within;
    is_replay = record {
      grid_is = refl;
      cap_is = refl;
      is_text = resumed.is_asked.is_asked.are_ready.is_older.is_text;
      legal = resumed.is_asked.is_asked.are_ready.is_older.legal;
      few = resumed.is_asked.is_asked.are_ready.is_older.few;
      within = loaded_replays_keep_limits set limits first days resumed.flights resumed.grid resumed.is_asked.older resumed.is_asked.is_asked.are_ready.is_loaded;
    };
  }

  few_bytes : length written ≤ most_journal_bytes
  few_bytes =
      subst (λ (bytes : List ℕ). length bytes ≤ most_journal_bytes) (sym resumed.written_is)
      (text_short resumed.grid resumed.history resumed.is_history.headline.legal resumed.are_entries resumed.is_history.headline.capped)

pub resumed_is_of_the_whole : ResumedIsOfTheWhole
resumed_is_of_the_whole set limits first days today after more journal texts changing written replies resumed = record {
  flights = resumed.flights;
  grid = resumed.grid;
  is_loaded = resumed.is_asked.is_asked.are_ready.is_loaded;
  older = older set limits first days today after more journal texts changing written replies resumed;
  is_older = is_older set limits first days today after more journal texts changing written replies resumed;
  within = few_bytes set limits first days today after more journal texts changing written replies resumed;
  is_audited = record {
    entries = resumed.history;
    is_text = written_text set limits first days today after more journal texts changing written replies resumed;
    legal = resumed.is_history.headline.legal;
    few = resumed.is_history.headline.capped;
    within = resumed.is_history.headline.within;
    sums = refl;
  };
  scripts = resumed.is_asked.scripts;
  are_scripts = resumed.is_asked.is_asked.are_ready.are_scripts;
  are_asked = record {
    past = resumed.is_asked.is_rest.past;
    added = resumed.is_asked.is_rest.begun ++ resumed.is_history.added;
    parted = whole set limits first days today after more journal texts changing written replies resumed;
    are_asked = all_very set limits first days today after more journal texts changing written replies resumed;
  };
}

-- ---- a history in which nothing is left

-- behind the past the scripts and the changes were booked whole
record IsBookedWhole (older : List Entry) (more : ℕ) (scripts : List (List Request)) (changes : List Control) (history : List Entry) : Type 0 where
  past : List Entry
  added : List Entry
  parted : IsParted older more past added history
  none_left : left_from 1 scripts added ≡ map (λ script. []) scripts
  none_rest : changes_left changes added ≡ []

-- so it is behind a run that went on with scripts
module _ (set limits : List ℕ) (first days today : ℕ) (after : List ℕ) (more : ℕ) (journal : List ℕ) (texts : List (Option (List ℕ))) (changing : Option (List ℕ)) (written replies : List ℕ)
    (resumed : IsResumed set limits first days today after more journal texts changing written replies) where
  abbrev begun : List Entry
  begun = resumed.is_asked.is_rest.begun

  abbrev changes : List Control
  changes = resumed.is_asked.changes

  resumed_whole : IsBookedWhole resumed.is_asked.older more resumed.is_asked.scripts changes resumed.history
  resumed_whole =
      let h = resumed.is_history in
      let made : done_by 0 h.added ≡ map set_by resumed.rest = made_of resumed.grid resumed.lines resumed.flights resumed.rest resumed.left resumed.history resumed.receipts h in
      let rest : length (map set_by resumed.rest) ≡ length resumed.rest = length-map resumed.rest set_by in
      let cut : length (changes_left changes begun) ≡ length changes - length (done_by 0 begun) = length-drop (length (done_by 0 begun)) changes in
      let long : length (done_by 0 (begun ++ h.added)) ≡ length (done_by 0 begun) + length (done_by 0 h.added) =
      ap length (done_append 0 begun h.added) ∙ length-append (done_by 0 begun) (done_by 0 h.added) in
      record {
        past = resumed.is_asked.is_rest.past;
        added = begun ++ h.added;
        parted = whole set limits first days today after more journal texts changing written replies resumed;
        none_left = sym (nothing_is_left resumed.flights resumed.is_asked.scripts resumed.left begun h.added resumed.is_asked.is_rest.are_left
            (asked_of resumed.grid resumed.lines resumed.flights resumed.rest resumed.left resumed.history resumed.receipts h)).left_is;
        none_rest = drop_all (length (done_by 0 (begun ++ h.added))) changes
            (omega (arith, long, ap length made, rest, ap length resumed.is_asked.is_rest.rest_is, cut));
      }

-- and behind any run
all_left : (session : ℕ) (scripts : List (List Request)) → scripts ≡ left_from session scripts []
all_left session [] = refl
all_left session (script ∷ scripts) = ap (λ (l : List (List Request)). script ∷ l) (all_left (suc session) scripts)

module _ (set limits : List ℕ) (first days today : ℕ) (after : List ℕ) (texts : List (Option (List ℕ))) (changing : Option (List ℕ)) (journal replies : List ℕ)
    (run : IsRun set limits first days today after texts changing journal replies) where
  run_whole : IsBookedWhole run.past 0 run.scripts run.changes run.history
  run_whole =
      let h = run.is_history in
      let made : done_by 0 h.added ≡ map set_by run.changes = made_of run.grid run.past run.flights run.changes run.scripts run.history run.receipts h in
      let none_begun : AreLeft run.flights run.scripts [] run.scripts =
      record { have_begun = record { each = λ session low high. record { each = λ place below. absurd (omega (arith, below)) } }; left_is = all_left 1 run.scripts } in
      record {
        past = run.past;
        added = h.added;
        parted = record { whole = h.goes_on; goes_on = record { rest = []; is = sym (append-nil run.past) }; count = omega arith };
        none_left = sym (nothing_is_left run.flights run.scripts run.scripts [] h.added none_begun
            (asked_of run.grid run.past run.flights run.changes run.scripts run.history run.receipts h)).left_is;
        none_rest = drop_all (length (done_by 0 h.added)) run.changes (omega (arith, ap length made, length-map run.changes set_by));
      }

-- ---- nothing is booked behind it

abbrev emptied : List (List Request) → List (List Request)
emptied scripts = map (λ script. []) scripts

no_script : (scripts : List (List Request)) (place : ℕ) → unwrap_or (slice_get (emptied scripts) place) [] ≡ []
no_script [] place = refl
no_script (script ∷ scripts) zero = refl
no_script (script ∷ scripts) (suc place) = no_script scripts place

no_request : (scripts : List (List Request)) (session : ℕ) → requests_of (emptied scripts) session ≡ []
no_request scripts zero = refl
no_request scripts (suc place) = no_script scripts place

-- no line is of no session
none_done : (added : List Entry) → ((session : ℕ) → done_by session added ≡ []) → added ≡ []
none_done [] none = refl
none_done (e ∷ added) none = absurd (no (sym own ∙ none e.session)) where
  own : done_by e.session (e ∷ added) ≡ e.work ∷ done_by e.session added
  own = done_append e.session (e ∷ []) added ∙ ap (λ (l : List Work). l ++ done_by e.session added) (done_own e.session e refl)

  no : e.work ∷ done_by e.session added ≡ [] → ⊥
  no same = cc

-- nor has it a reply
none_of : (n : ℕ) → AllByRecursion (λ (l : List Entry). l ≡ []) (by_session n [])
none_of zero = (refl, tt)
none_of (suc n) = all_append (λ (l : List Entry). l ≡ []) (by_session n []) ([] ∷ []) (none_of n) (refl, tt)

silent : (flights : List Flown) (scripts : List (List Request)) (history : List Entry) (n : ℕ) (lists : List (List Entry)) (text : List ℕ)
    → AllByRecursion (λ (l : List Entry). l ≡ []) lists → IsText (AreSessions flights scripts history) n lists text
    → text ≡ []
silent flights scripts history n [] text none is = is
silent flights scripts history n (l ∷ lists) text none is =
    let part : is.0 ≡ [] = subst (λ (x : List Entry). AreSessions flights scripts history n x is.0) none.0 is.2 in
    is.3 ∙ (ap (λ (x : List ℕ). x ++ is.1) part ∙ silent flights scripts history (n + 1) lists is.1 none.1 is.4)

module _ (grid : Ladders) (lines : List Entry) (flights : List Flown) (rest : List Control) (left scripts : List (List Request)) (history : List Entry) (told : List (List Entry))
    (h : IsHistoryOf grid lines rest (lists_over lines (map (commands_of flights) left)) history told) (no_left : left ≡ emptied scripts) (no_rest : rest ≡ []) where
  none_added : h.added ≡ []
  none_added = none_done h.added each where
    each : (session : ℕ) → done_by session h.added ≡ []
    each zero = made_of grid lines flights rest left history told h ∙ ap (map set_by) no_rest
    each (suc place) =
        each_of grid lines flights rest left history told h place
        ∙ ap (λ (l : List (List Request)). map Seats (commands_of flights (requests_of l (suc place)))) no_left
        ∙ ap (λ (r : List Request). map Seats (commands_of flights r)) (no_request scripts (suc place))

  same_history : history ≡ lines
  same_history = h.goes_on ∙ (ap (λ (l : List Entry). lines ++ l) none_added ∙ append-nil lines)

  no_text : (text : List ℕ) → AreReplies flights lines left h.added text → text ≡ []
  no_text text are =
      silent flights left (lines ++ []) 0 (by_session (length left) []) text (none_of (length left))
      (subst (λ (l : List Entry). AreReplies flights lines left l text) none_added are)

-- ---- the same inputs

same_changes : (flights : List Flown) (bytes : List ℕ) (a b : List Control) → AreChanges flights a bytes
    → AreChanges flights b bytes → a ≡ b
same_changes flights bytes a b one two =
    let rows : one.rows ≡ two.rows = rows_is one.rows two.rows (sym (changes_again (lines_of bytes) 1 one.rows one.are_rows.spelled) ∙ changes_again (lines_of bytes) 1 two.rows two.are_rows.spelled) in
    some_is a b (sym one.are_served ∙ (ap (λ (r : List ChangeRow). all_served flights r) rows ∙ two.are_served))

-- ---- the laws

module _ (set limits : List ℕ) (first days today : ℕ) (after : List ℕ) (more : ℕ) (journal : List ℕ) (texts : List (List ℕ)) (changing again replies : List ℕ)
    (second : IsResumed set limits first days today after more journal (map Some texts) (Some changing) again replies)
    (older : List Entry) (scripts : List (List Request)) (changes : List Control) (history : List Entry) (booked : IsBookedWhole older more scripts changes history)
    (olders : second.is_asked.older ≡ older) (all_scripts : second.is_asked.scripts ≡ scripts) (all_changes : second.is_asked.changes ≡ changes) (all_lines : second.lines ≡ history) where
  begun_again : second.is_asked.is_rest.begun ≡ booked.added
  begun_again =
      own_added second.is_asked.older more second.lines second.is_asked.is_rest.past second.is_asked.is_rest.begun second.is_asked.is_rest.parted
      ∙ (ap (λ (o : List Entry). drop (length o + more) second.lines) olders ∙ (ap (drop (length older + more)) all_lines
      ∙ sym (own_added older more history booked.past booked.added booked.parted)))

  no_left : second.left ≡ emptied scripts
  no_left =
      second.is_asked.is_rest.are_left.left_is
      ∙ (ap (λ (s : List (List Request)). left_from 1 s second.is_asked.is_rest.begun) all_scripts
      ∙ (ap (left_from 1 scripts) begun_again ∙ booked.none_left))

  no_rest : second.rest ≡ []
  no_rest =
      second.is_asked.is_rest.rest_is
      ∙ (ap (λ (c : List Control). changes_left c second.is_asked.is_rest.begun) all_changes
      ∙ (ap (changes_left changes) begun_again ∙ booked.none_rest))

  nothing_new : BooksNothing (journal_text history) again replies
  nothing_new = record {
    same = second.written_is
        ∙ ap journal_text (same_history second.grid second.lines second.flights second.rest second.left scripts second.history second.receipts second.is_history no_left no_rest ∙ all_lines);
    no_reply = no_text second.grid second.lines second.flights second.rest second.left scripts second.history second.receipts second.is_history no_left no_rest replies
        (as_replies second.grid second.lines second.flights second.rest second.left second.history second.receipts second.is_history replies second.is_replied);
  }

pub resumed_again_is_the_same : ResumedAgainIsTheSame
resumed_again_is_the_same set limits first days today after more journal texts changing written replies again more_replies one two =
    let a = one.is_asked.is_asked.are_ready in
    let b = two.is_asked.is_asked.are_ready in
    let flown : two.flights ≡ one.flights = one_schedule set limits first days two.flights one.flights two.grid one.grid b.is_loaded.loaded a.is_loaded.loaded in
    let olders : two.is_asked.older ≡ one.is_asked.older = one_text after two.is_asked.older one.is_asked.older b.is_older.is_text a.is_older.is_text in
    let scripts : two.is_asked.scripts ≡ one.is_asked.scripts = same_scripts today texts two.is_asked.scripts one.is_asked.scripts b.are_scripts a.are_scripts in
    let changes : two.is_asked.changes ≡ one.is_asked.changes =
    same_changes one.flights changing two.is_asked.changes one.is_asked.changes (subst (λ (f : List Flown). AreChanges f two.is_asked.changes changing) flown two.is_asked.is_asked.are_changes) one.is_asked.is_asked.are_changes in
    let lines : two.lines ≡ one.history = one_text written two.lines one.history b.is_past.is_text (written_text set limits first days today after more journal (map Some texts) (Some changing) written replies one) in
    subst (λ (bytes : List ℕ). BooksNothing bytes again more_replies) (sym one.written_is)
    (nothing_new set limits first days today after more written texts changing again more_replies two one.is_asked.older one.is_asked.scripts one.is_asked.changes one.history
    (resumed_whole set limits first days today after more journal (map Some texts) (Some changing) written replies one) olders scripts changes lines)

pub resumed_run_is_the_same : ResumedRunIsTheSame
resumed_run_is_the_same set limits first days today after texts changing journal replies again more_replies run two =
    let a = run.is_asked in
    let b = two.is_asked.is_asked.are_ready in
    let flown : two.flights ≡ run.flights = one_schedule set limits first days two.flights run.flights two.grid run.grid b.is_loaded.loaded a.is_loaded.loaded in
    let olders : two.is_asked.older ≡ run.past = one_text after two.is_asked.older run.past b.is_older.is_text a.is_past.is_text in
    let scripts : two.is_asked.scripts ≡ run.scripts = same_scripts today texts two.is_asked.scripts run.scripts b.are_scripts a.are_scripts in
    let changes : two.is_asked.changes ≡ run.changes =
    same_changes run.flights changing two.is_asked.changes run.changes (subst (λ (f : List Flown). AreChanges f two.is_asked.changes changing) flown two.is_asked.is_asked.are_changes) a.are_changes in
    let lines : two.lines ≡ run.history = one_text journal two.lines run.history b.is_past.is_text (record { each = run.are_entries; text = inl run.journal_is }) in
    subst (λ (bytes : List ℕ). BooksNothing bytes again more_replies) (sym run.journal_is)
    (nothing_new set limits first days today after 0 journal texts changing again more_replies two run.past run.scripts run.changes run.history
    (run_whole set limits first days today after (map Some texts) (Some changing) journal replies run) olders scripts changes lines)
