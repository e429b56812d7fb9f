-- What `run` writes, `audit` accepts.
use Rattle.std.proofs.Common.{◌≡◌, ◌⊎◌, ⊎_elim, inl, ℕ, ◌+◌, ◌<◌, ◌≤◌, List, [], ◌∷◌, length, map, refl, sym, ap, ◌∙◌, subst, arith, Result, Ok, Err}
use Rattle.seat_scripts.proofs.Common.{authorised_grid, Ladders, LimitRow, Entry, IsLegal, totals_of, audit_line, most_journal_bytes, IsLoaded, DeskFault, lists_over, commands_of}
use Rattle.std.specs.Str.Lines.{lines}
use Rattle.ssim_records.specs.declared.set.DataSet.{DataSet}
use Rattle.ssim_records.proofs.SetLaws.{one_data_set}
use Rattle.ssim_flights.specs.declared.flight.Flight.{Flight as Flown}
use Rattle.seat_limits.specs.LimitRows.{SpellsRows, rows_in}
use Rattle.seat_limits.specs.declared.limit_fault.LimitFault.{LimitFault}
use Rattle.seat_limits.proofs.RowLaws.{row_again}
use Rattle.seat_journal.specs.Text.{IsJournalText}
use Rattle.seat_journal.proofs.TextLaws.{one_text}
use Rattle.seat_desk.specs.AuditDesk.{IsAudit, IsAudited, IsRefusedOver, AuditRefusal, IsTooLarge}
use Rattle.seat_desk.specs.CheckDesk.{most_set_bytes, most_records}
use Rattle.seat_desk.specs.FlightsDesk.{set_flights}
use Rattle.seat_desk.specs.Loading.{IsLoadedGrid, IsRefusedLoad, most_limit_bytes}
use Rattle.seat_desk.specs.declared.fault.DeskFault.TheVariants as faults
use Rattle.seat_scripts.specs.Audits.{IsAccepted, RunsAreAudited}
use Rattle.seat_scripts.proofs.Lengths.{text_short}

-- ---- one grid is loaded, and none is refused

abbrev Rows : Type 0
Rows = Result (List LimitRow) LimitFault

abbrev ok_rows : List LimitRow → Rows
ok_rows rows = Ok rows

rows_read : (texts : List (List ℕ)) (n : ℕ) (rows : List LimitRow) → SpellsRows texts rows
    → rows_in n texts ≡ ok_rows rows
unfolding rows_in
rows_read [] n [] h = refl
rows_read [] n (row ∷ rows) h = absurd h
rows_read ([] ∷ texts) n rows h = rows_read texts (n + 1) rows h
rows_read ((c ∷ text) ∷ texts) n [] h = absurd h
rows_read ((c ∷ text) ∷ texts) n (row ∷ rows) h = rw (row_again (c ∷ text) row h.0, rows_read texts (n + 1) rows h.1) refl

same_rows : (a b : List LimitRow) → ok_rows a ≡ ok_rows b → a ≡ b
same_rows a b e = cc

pub one_grid : (set limits : List ℕ) (first days : ℕ) (flights flights' : List Flown) (grid grid' : Ladders)
    → IsLoadedGrid set limits first days flights grid → IsLoadedGrid set limits first days flights' grid' → grid ≡ grid'
one_grid set limits first days flights flights' grid grid' a b =
    let sets : a.is_schedule.set ≡ b.is_schedule.set = one_data_set most_records most_records set a.is_schedule.set b.is_schedule.set a.is_schedule.is_set b.is_schedule.is_set in
    let flown : flights ≡ flights' = a.is_schedule.are_flights ∙ (ap (λ (s : DataSet). set_flights s first days) sets ∙ sym b.is_schedule.are_flights) in
    let rows : a.rows ≡ b.rows = same_rows a.rows b.rows (sym (rows_read (lines limits) 1 a.rows a.are_rows.spelled) ∙ rows_read (lines limits) 1 b.rows b.are_rows.spelled) in
    a.grid_is ∙ (ap (λ (r : List LimitRow). authorised_grid r flights) rows ∙ (ap (λ (f : List Flown). authorised_grid b.rows f) flown ∙ sym b.grid_is))

no_limit_fault : (limits : List ℕ) (rows : List LimitRow) (fault : LimitFault) → SpellsRows (lines limits) rows
    → rows_in 1 (lines limits) ≡ Err fault → ⊥
no_limit_fault limits rows fault h e = let read : rows_in 1 (lines limits) ≡ ok_rows rows = rows_read (lines limits) 1 rows h in cc

-- what is loaded is not refused
pub loads : (set limits : List ℕ) (first days : ℕ) (flights : List Flown) (grid : Ladders) (fault : DeskFault)
    → IsLoadedGrid set limits first days flights grid → IsRefusedLoad set limits first days fault → ⊥
loads set limits first days flights grid (faults.Set fault) loaded refused = refused.refusal.none flights loaded.is_schedule
loads set limits first days flights grid (faults.Flight fault) loaded refused = refused.refusal.none flights loaded.is_schedule
loads set limits first days flights grid (faults.Limit fault) loaded refused = no_limit_fault limits loaded.rows fault loaded.are_rows.spelled refused.refusal.wrong.first
loads set limits first days flights grid _ loaded refused = refused.refusal

-- ---- a history's text is audited

module _ (set limits : List ℕ) (first days : ℕ) (journal : List ℕ) (flights : List Flown) (grid : Ladders) (history : List Entry)
    (loaded : IsLoaded set limits first days flights grid) (audited : IsAudited grid journal (audit_line (totals_of history))) (text : IsJournalText journal history) (few : length journal ≤ most_journal_bytes) where
  lawful : (fault : DeskFault) → IsRefusedOver set limits first days fault journal → ⊥
  lawful fault refused =
      let same : refused.grid ≡ grid = one_grid set limits first days refused.flights flights refused.grid grid refused.is_loaded.loaded loaded.loaded in
      refused.is_unlawful.none audited.entries audited.is_text (subst (λ (g : Ladders). IsLegal g audited.entries) (sym same) audited.legal) audited.few

  faultless : (fault : DeskFault) → AuditRefusal set limits first days journal fault → ⊥
  faultless (faults.Journal fault) refused = lawful (faults.Journal fault) refused
  faultless (faults.Replay fault) refused = lawful (faults.Replay fault) refused
  faultless (faults.Set fault) refused = loads set limits first days flights grid (faults.Set fault) loaded.loaded refused
  faultless (faults.Flight fault) refused = loads set limits first days flights grid (faults.Flight fault) loaded.loaded refused
  faultless (faults.Limit fault) refused = loads set limits first days flights grid (faults.Limit fault) loaded.loaded refused
  faultless _ refused = refused.refusal

  not_large : IsTooLarge set limits journal → ⊥
  not_large large =
      ⊎_elim
      (λ (over : (most_set_bytes < length set) ⊎ (most_limit_bytes < length limits)). ⊎_elim (λ (h : most_set_bytes < length set). absurd (omega (arith, h, loaded.set_within))) (λ (h : most_limit_bytes < length limits). absurd (omega (arith, h, loaded.limits_within))) over)
      (λ (h : most_journal_bytes < length journal). absurd (omega (arith, h, few)))
      large

  same_line : (line : List ℕ) → IsAudit set limits first days journal line → line ≡ audit_line (totals_of history)
  same_line line other =
      let entries : other.is_audited.entries ≡ history = one_text journal other.is_audited.entries history other.is_audited.is_text text in
      other.is_audited.sums ∙ ap (λ (es : List Entry). audit_line (totals_of es)) entries

  pub accepted : IsAccepted set limits first days journal (totals_of history)
  accepted = record {
    line = record { flights = flights; grid = grid; is_loaded = loaded; within = few; is_audited = audited };
    only = same_line;
    faultless = λ fault refused. faultless fault refused.refusal;
    small = not_large;
  }

-- ---- a run's

pub runs_are_audited : RunsAreAudited
runs_are_audited set limits first days today after texts changing journal replies run =
    let h = run.is_history in
    let n = length (lists_over run.past (map (commands_of run.flights) run.scripts)) in
    let text : IsJournalText journal run.history = record { each = run.are_entries; text = inl run.journal_is } in
    let few : length journal ≤ most_journal_bytes = subst (λ (bytes : List ℕ). length bytes ≤ most_journal_bytes) (sym run.journal_is) (text_short run.grid run.history h.headline.legal run.are_entries h.headline.capped) in
    let audited : IsAudited run.grid journal (audit_line (totals_of run.history)) =
    record { entries = run.history; is_text = text; legal = h.headline.legal; few = h.headline.capped; within = h.headline.within; sums = refl } in
    record {
      history = run.history;
      receipts = run.receipts;
      totals = totals_of run.history;
      is_text = text;
      own = h.headline.own;
      totals_are = refl;
      sums = h.headline.sums;
      is_accepted = accepted set limits first days journal run.flights run.grid run.history run.is_asked.is_loaded audited text few;
    }
