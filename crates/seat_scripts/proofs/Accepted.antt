-- What `run` writes, `audit` accepts with the scripts of the run and behind the journal that it went on from.
use Rattle.std.proofs.Common.{◌≡◌, ◌⊎◌, ⊎_elim, inl, ℕ, zero, suc, ◌-◌, ◌+◌, ◌<◌, ◌≤◌, false, List, [], ◌∷◌, length, map, refl, sym, ap, ◌∙◌, subst, arith, get_or, Option, Some}
use Rattle.seat_scripts.proofs.Sessions.{all_are_wanted}
use Rattle.seat_scripts.proofs.Common.{Request, Ladders, Command, Entry, Work, Seats, of_session, IsLegal, totals_of, audit_line, most_journal_bytes, IsFirstTooLargeLoad, DeskFault, AreAskedBehind, done_by, HasLoaded, lists_over, AreScripts, IsRefusedAmong, IsTooLargeAmong, commands_of, IsHistoryOf, works_in}
use Rattle.std.proofs.lemmas.Bool.{cases_lt}
use Rattle.std.proofs.lemmas.List.{append-nil, get_or_past, length-map}
use Rattle.airimp_lines.specs.declared.fault.ScriptFault.{ScriptFault}
use Rattle.ssim_flights.specs.declared.flight.Flight.{Flight as Flown}
use Rattle.seat_journal.specs.declared.entry.Control.{Control}
use Rattle.seat_journal.specs.Text.{IsJournalText}
use Rattle.seat_journal.proofs.TextLaws.{one_text}
use Rattle.seat_rules.specs.Inventory.{Inventory}
use Rattle.seat_desk.specs.AuditDesk.{IsAudited, IsRefusedOver, most_lines}
use Rattle.seat_desk.specs.CheckDesk.{most_set_bytes}
use Rattle.seat_desk.specs.Loading.{HasSchedule, IsBehind, most_limit_bytes}
use Rattle.seat_desk.specs.declared.fault.DeskFault.TheVariants as faults
use Rattle.seat_desk.proofs.Grounds.{loaded_replays_keep_limits}
use Rattle.seat_scripts.specs.Against.{AgainstRefusal, HasBoth, HasOlder, IsAuditAgainst, IsTooLargeAgainst, IsUnlawfulBeside, AreAsked, AreVeryRequests, IsParted, IsReplayWithin}
use Rattle.seat_scripts.specs.Replying.{AreRepliesOver, all_wanted, RepliesAreThoseOfTheRun}
use Rattle.seat_scripts.specs.Audits.{RunsAreAuditedAgainst}
use Rattle.seat_replies.specs.Requests.{IsNoScript, IsReadable, most_script_bytes}
use Rattle.seat_replies.specs.RunDesk.{IsRun, requests_of}
use Rattle.seat_scripts.proofs.Audits.{loads, one_grid}
use Rattle.seat_replies.proofs.Going.{over_count}
use Rattle.seat_replies.proofs.Histories.{as_replies, no_more, own_works}
use Rattle.seat_scripts.proofs.Lengths.{text_short}
use Rattle.seat_scripts.proofs.Unasked.{unasked_is_not_audited}
use Rattle.seat_replies.proofs.Very.{commands_agree}

-- ---- the lines of each session are what its script asks

its_requests : (scripts : List (List Request)) (i : ℕ) → get_or scripts i [] ≡ requests_of scripts (suc i)
its_requests [] i = refl
its_requests (script ∷ scripts) zero = refl
its_requests (script ∷ scripts) (suc i) = its_requests scripts i

module _ (grid : Ladders) (past : List Entry) (flights : List Flown) (changes : List Control) (scripts : List (List Request)) (history : List Entry) (told : List (List Entry))
    (h : IsHistoryOf grid past changes (lists_over past (map (commands_of flights) scripts)) history told) where
  abbrev lists : List (List Command)
  lists = lists_over past (map (commands_of flights) scripts)

  abbrev its_works : List Request → List Work
  its_works requests = map Seats (commands_of flights requests)

  pub each_of : (i : ℕ) → done_by (suc i) h.added ≡ map Seats (commands_of flights (requests_of scripts (suc i)))
  each_of i =
      ⊎_elim
      (λ (lt : i < length lists). own_works grid past flights changes scripts history told h i lt ∙ ap its_works (its_requests scripts i))
      (λ (le : length lists ≤ i).
      let enough : length scripts ≤ length lists = omega (arith, over_count past (map (commands_of flights) scripts), length-map scripts (commands_of flights)) in
      let nobody : get_or scripts i [] ≡ [] = get_or_past scripts i [] (omega (arith, enough, le)) in
      let nothing : of_session (suc i) h.added ≡ [] = no_more grid past flights changes scripts history told h (suc i) (omega (arith, le)) in
      ap works_in nothing ∙ (sym (ap its_works nobody) ∙ ap its_works (its_requests scripts i)))
      (cases_lt i (length lists))

  run_parted : IsParted past 0 past h.added history
  run_parted = record { whole = h.goes_on; goes_on = record { rest = []; is = sym (append-nil past) }; count = omega arith }

  run_asked : AreAsked flights scripts h.added
  run_asked = record { each = each } where
    each : (session : ℕ) → 1 ≤ session → AreVeryRequests flights (requests_of scripts session) (done_by session h.added)
    each session low =
        let up : suc (session - 1) ≡ session = omega (arith, low) in
        subst (λ (k : ℕ). AreVeryRequests flights (requests_of scripts k) (done_by k h.added)) up
        (subst (AreVeryRequests flights (requests_of scripts (suc (session - 1)))) (sym (each_of (session - 1))) (record { each = commands_agree flights (requests_of scripts (suc (session - 1))) }))

  asked_behind : AreAskedBehind flights scripts past 0 history
  asked_behind = record { past = past; added = h.added; parted = run_parted; are_asked = run_asked }

-- ---- scripts that are read are neither refused nor too large

not_refused : (today n : ℕ) (texts : List (List ℕ)) (scripts : List (List Request)) (session : ℕ) (fault : ScriptFault)
    → AreScripts today (map Some texts) scripts
    → IsRefusedAmong today n (map Some texts) (faults.Script session fault) → ⊥
not_refused today n [] scripts session fault are refused = refused
not_refused today n (text ∷ texts) [] session fault are refused = are
not_refused today n (text ∷ texts) (x ∷ scripts) session fault are refused =
    ⊎_elim
    (λ (here : (session ≡ n) × IsNoScript today fault text). here.1.none x are.0.is_script)
    (λ (later : IsReadable today (Some text) × IsRefusedAmong today (n + 1) (map Some texts) (faults.Script session fault)). not_refused today (n + 1) texts scripts session fault are.1 later.1)
    refused

not_large : (today : ℕ) (texts : List (List ℕ)) (scripts : List (List Request))
    → AreScripts today (map Some texts) scripts → IsTooLargeAmong today (map Some texts) → ⊥
not_large today [] scripts are large = large
not_large today (text ∷ texts) [] are large = are
not_large today (text ∷ texts) (x ∷ scripts) are large =
    ⊎_elim (λ (here : most_script_bytes < length text). absurd (omega (arith, here, are.0.within))) (λ (later : IsReadable today (Some text) × IsTooLargeAmong today (map Some texts)). not_large today texts scripts are.1 later.1) large

-- ---- the whole

module _ (set limits : List ℕ) (first days today : ℕ) (after : List ℕ) (texts : List (List ℕ)) (changing : Option (List ℕ)) (journal replies : List ℕ)
    (run : IsRun set limits first days today after (map Some texts) changing journal replies) where
  text : IsJournalText journal run.history
  text = record { each = run.are_entries; text = inl run.journal_is }

  few : length journal ≤ most_journal_bytes
  few =
      subst (λ (bytes : List ℕ). length bytes ≤ most_journal_bytes) (sym run.journal_is)
      (text_short run.grid run.history run.is_history.headline.legal run.are_entries run.is_history.headline.capped)

  abbrev audited : IsAudited run.grid journal (audit_line (totals_of run.history))
  audited = record {
    entries = run.history;
    is_text = text;
    legal = run.is_history.headline.legal;
    few = run.is_history.headline.capped;
    within = run.is_history.headline.within;
    sums = refl;
  }

  -- the inventory of the older journal
  abbrev older : Inventory
  older = record { grid = run.grid; cap = most_lines; journal = run.past; spare = false; spares = [] }

  is_older : IsReplayWithin run.grid older after
  is_older = record {
    within = run.is_asked.is_past.within;
    is_replay = record {
      grid_is = refl;
      cap_is = refl;
      is_text = run.is_asked.is_past.is_text;
      legal = run.is_asked.is_past.legal;
      few = run.is_asked.is_past.few;
      within = loaded_replays_keep_limits set limits first days run.flights run.grid run.past run.is_asked.is_loaded;
    };
  }

  -- and of the journal
  abbrev core : Inventory
  core = record { grid = run.grid; cap = most_lines; journal = run.history; spare = false; spares = [] }

  is_core : IsReplayWithin run.grid core journal
  is_core = record {
    within = few;
    is_replay = record {
      grid_is = refl;
      cap_is = refl;
      is_text = text;
      legal = run.is_history.headline.legal;
      few = run.is_history.headline.capped;
      within = run.is_history.headline.within;
    };
  }

  are_replies : AreRepliesOver set limits first days after 0 journal today (map Some texts) all_wanted replies
  are_replies = record {
    flights = run.flights;
    grid = run.grid;
    is_loaded = run.is_asked.is_loaded;
    older = older;
    is_older = is_older;
    core = core;
    is_replay = is_core;
    scripts = run.scripts;
    are_scripts = run.is_asked.are_scripts;
    are_replies = record {
      past = run.past;
      added = run.is_history.added;
      parted = run_parted run.grid run.past run.flights run.changes run.scripts run.history run.receipts run.is_history;
      are_asked = run_asked run.grid run.past run.flights run.changes run.scripts run.history run.receipts run.is_history;
      are_replies = all_are_wanted run.flights run.past run.scripts run.is_history.added replies
          (as_replies run.grid run.past run.flights run.changes run.scripts run.history run.receipts run.is_history replies run.is_replied);
    };
  }

  is_line : IsAuditAgainst set limits first days after 0 journal today (map Some texts)
      (audit_line (totals_of run.history))
  is_line = record {
    flights = run.flights;
    grid = run.grid;
    is_loaded = run.is_asked.is_loaded;
    older = older;
    is_older = is_older;
    within = few;
    is_audited = audited;
    scripts = run.scripts;
    are_scripts = run.is_asked.are_scripts;
    are_asked = asked_behind run.grid run.past run.flights run.changes run.scripts run.history run.receipts run.is_history;
  }

  same_line : (line : List ℕ) → IsAuditAgainst set limits first days after 0 journal today (map Some texts) line
      → line ≡ audit_line (totals_of run.history)
  same_line line other =
      let entries : other.is_audited.entries ≡ run.history = one_text journal other.is_audited.entries run.history other.is_audited.is_text text in
      other.is_audited.sums ∙ ap (λ (es : List Entry). audit_line (totals_of es)) entries

  -- neither journal is unlawful
  older_lawful : (fault : DeskFault) → IsRefusedOver set limits first days fault after → ⊥
  older_lawful fault refused =
      let same : refused.grid ≡ run.grid = one_grid set limits first days refused.flights run.flights refused.grid run.grid refused.is_loaded.loaded run.is_asked.is_loaded.loaded in
      let past = run.is_asked.is_past in
      refused.is_unlawful.none run.past past.is_text (subst (λ (g : Ladders). IsLegal g run.past) (sym same) past.legal) past.few

  lawful : (fault : DeskFault) → IsUnlawfulBeside set limits first days after journal fault → ⊥
  lawful fault refused =
      let same : refused.grid ≡ run.grid = one_grid set limits first days refused.flights run.flights refused.grid run.grid refused.is_loaded.loaded run.is_asked.is_loaded.loaded in
      refused.is_unlawful.none run.history text (subst (λ (g : Ladders). IsLegal g run.history) (sym same) audited.legal) audited.few

  both_lawful : (fault : DeskFault)
      → IsRefusedOver set limits first days fault after ⊎ IsUnlawfulBeside set limits first days after journal fault → ⊥
  both_lawful fault refused = ⊎_elim (older_lawful fault) (lawful fault) refused

  faultless : (fault : DeskFault) → AgainstRefusal set limits first days after 0 journal today (map Some texts) fault → ⊥
  faultless (faults.Journal fault) refused = both_lawful (faults.Journal fault) refused
  faultless (faults.Replay fault) refused = both_lawful (faults.Replay fault) refused
  faultless (faults.Script session fault) refused = not_refused today 1 texts run.scripts session fault run.is_asked.are_scripts refused.is_refused
  faultless (faults.Unasked session call) refused =
      unasked_is_not_audited set limits first days after 0 journal today texts (faults.Unasked session call) (audit_line (totals_of run.history)) refused is_line
  faultless faults.NoBehind refused =
      unasked_is_not_audited set limits first days after 0 journal today texts faults.NoBehind (audit_line (totals_of run.history)) refused is_line
  faultless (faults.Set fault) refused = loads set limits first days run.flights run.grid (faults.Set fault) run.is_asked.is_loaded.loaded refused
  faultless (faults.Flight fault) refused = loads set limits first days run.flights run.grid (faults.Flight fault) run.is_asked.is_loaded.loaded refused
  faultless (faults.Limit fault) refused = loads set limits first days run.flights run.grid (faults.Limit fault) run.is_asked.is_loaded.loaded refused
  faultless _ refused = refused.refusal

  load_small : IsFirstTooLargeLoad set limits first days → ⊥
  load_small over =
      ⊎_elim (λ (h : most_set_bytes < length set). absurd (omega (arith, h, run.is_asked.is_loaded.set_within))) (λ (h : IsBehind (HasSchedule first days set) (most_limit_bytes < length limits)). absurd (omega (arith, h.here, run.is_asked.is_loaded.limits_within))) over

  abbrev Last : Type 0
  Last = (HasOlder set limits first days after × (most_journal_bytes < length journal)) ⊎ (HasBoth set limits first days after journal × IsTooLargeAmong today (map Some texts))

  abbrev Behind : Type 0
  Behind = (HasLoaded set limits first days × (most_journal_bytes < length after)) ⊎ Last

  small : IsTooLargeAgainst set limits first days after journal today (map Some texts) → ⊥
  small large =
      ⊎_elim load_small
      (λ (more : Behind). ⊎_elim (λ (h : HasLoaded set limits first days × (most_journal_bytes < length after)). absurd (omega (arith, h.1, run.is_asked.is_past.within)))
      (λ (rest : Last). ⊎_elim (λ (h : HasOlder set limits first days after × (most_journal_bytes < length journal)). absurd (omega (arith, h.1, few)))
      (λ (h : HasBoth set limits first days after journal × IsTooLargeAmong today (map Some texts)). not_large today texts run.scripts run.is_asked.are_scripts h.1) rest) more) large

pub runs_are_audited_against : RunsAreAuditedAgainst
runs_are_audited_against set limits first days today after texts changing journal replies run = record {
  line = is_line set limits first days today after texts changing journal replies run;
  only = same_line set limits first days today after texts changing journal replies run;
  faultless = λ fault refused. faultless set limits first days today after texts changing journal replies run fault refused.refusal;
  small = small set limits first days today after texts changing journal replies run;
}

pub replies_are_those_of_the_run : RepliesAreThoseOfTheRun
replies_are_those_of_the_run set limits first days today after texts changing journal replies run =
    are_replies set limits first days today after texts changing journal replies run
