use Rattle.std.proofs.Common.{◌≡◌, ◌-◌, ◌<◌, ◌≤◌, List, Some, None, arith, get_or, length, subst, ⊎_elim}
use Rattle.std.proofs.lemmas.Bool.Decides.{nat_tests}
use Rattle.std.proofs.lemmas.Option.{slice_get_cases}
use Rattle.std.specs.Prelude.{OnOk, slice_get}
use Rattle.airimp_lines.specs.declared.requests.Request.{Request}
use Rattle.seat_rules.specs.Histories.{of_session}
use Rattle.seat_scripts.proofs.Sessions.{managed, unscripted}
use Rattle.seat_tables.specs.Rows.{rows_from}
use Rattle.seat_tables.specs.Sheets.{ArePut}
use Rattle.reply_tables.specs.ReplyRows.{reply_names, wanted_rows}
use Rattle.reply_tables.proofs.sessions.put_session.Goals as goal

pub returns-then-session-eq0 : goal.returns-then-session-eq0
returns-then-session-eq0 c =
    subst (λ (r : List Request). OnOk c.put_lines.result (ArePut reply_names (rows_from (wanted_rows c.args.wanted c.args.flights.now r c.args.journal.now) 0 (of_session c.args.session c.args.lines.now)) c.args.sheet.now c.put_lines.new.sheet))
    (managed c.args.scripts.now c.args.session c.if-session-eq0.true) c.put_lines.ensures

pub returns-in-None : goal.returns-in-None
returns-in-None c =
    let low : 1 ≤ c.args.session = omega (arith, c.if-session-eq0.false) in
    let out = c.in-None.ensures.lookup.0 in
    let past : length c.args.scripts.now ≤ c.args.session - 1 = grind (arith, nat_tests, out) in
    let at : slice_get c.args.scripts.now (c.args.session - 1) ≡ None = ⊎_elim
    (λ (s : (x : List Request) × (c.args.session - 1 < length c.args.scripts.now) × (slice_get c.args.scripts.now (c.args.session - 1) ≡ Some x) × (get_or c.args.scripts.now (c.args.session - 1) x ≡ x)). absurd (omega (arith, past, s.1)))
    (λ (n : (length c.args.scripts.now ≤ c.args.session - 1) × (slice_get c.args.scripts.now (c.args.session - 1) ≡ None)). n.1)
    (slice_get_cases c.args.scripts.now (c.args.session - 1)).1 in
    subst (λ (r : List Request). OnOk c.put_lines-in-None.result (ArePut reply_names (rows_from (wanted_rows c.args.wanted c.args.flights.now r c.args.journal.now) 0 (of_session c.args.session c.args.lines.now)) c.args.sheet.now c.put_lines-in-None.new.sheet))
    (unscripted c.args.scripts.now c.args.session low at) c.put_lines-in-None.ensures
