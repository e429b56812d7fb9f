use Rattle.std.proofs.Common.{ℕ, map, subst, sym, ◌≤◌}
use Rattle.seat_scripts.proofs.Beside.{read_script}
use Rattle.seat_scripts.proofs.Replayed.{no_journals, no_scripts, read_over}
use Rattle.seat_scripts.proofs.against.read_against.Goals as goal

pub returns-in-Err-clause-none : goal.returns-in-Err-clause-none
returns-in-Err-clause-none g c =
    no_journals g.I.Read.remaining g.I.Read.remaining c.args.inputs.now (g.I.Read.remaining c.args.after.now) (g.I.Read.remaining c.args.journal.now) c.args.besides.now c.args.given c.args.today (map g.I.Read.remaining c.args.scripts.now)
    _ _ _ _ c.in-Err.fault c.in-Err.ensures.none

pub returns-in-Err-clause-read : goal.returns-in-Err-clause-read
returns-in-Err-clause-read g c = c.in-Err.ensures.none.of_reading

pub returns-in-Err-read_behind-clause-none : goal.returns-in-Err-read_behind-clause-none
returns-in-Err-read_behind-clause-none g c =
    no_scripts g.I.Read.remaining g.I.Read.remaining c.args.inputs.now (g.I.Read.remaining c.args.after.now) (g.I.Read.remaining c.args.journal.now) c.args.besides.now c.args.given c.args.today (map g.I.Read.remaining c.args.scripts.now)
    _ _ _ _ c.in-Err-read_behind.fault c.args.is_sealed c.in-Ok.both c.in-Ok.ensures.ok c.in-Err-read_behind.ensures.none

pub returns-in-Err-read_behind-clause-read : goal.returns-in-Err-read_behind-clause-read
returns-in-Err-read_behind-clause-read g c =
    read_script (g.I.Read.remaining c.args.inputs.now.set) (g.I.Read.remaining c.args.inputs.now.limits) (g.I.Read.remaining c.args.after.now) (g.I.Read.remaining c.args.journal.now)
    c.in-Err-read_behind.fault (λ input. (c.in-Err-read_behind.ensures.none.refused input).of_script)

pub returns-in-Ok-read_behind-clause-ok : goal.returns-in-Ok-read_behind-clause-ok
returns-in-Ok-read_behind-clause-ok g c =
    read_over g.I.Read.remaining g.I.Read.remaining c.args.inputs.now (g.I.Read.remaining c.args.after.now) (g.I.Read.remaining c.args.journal.now) c.args.besides.now c.args.given c.args.today (map g.I.Read.remaining c.args.scripts.now)
    c.args.is_sealed c.in-Ok.both c.in-Ok.ensures.ok c.in-Ok-read_behind.read
    (subst (λ (n : ℕ). n ≤ 8) (sym c.in-Ok-read_behind.ensures.count) c.requires.scripts) c.in-Ok-read_behind.ensures.ok

pub returns-in-Ok-read_behind-clause-count : goal.returns-in-Ok-read_behind-clause-count
returns-in-Ok-read_behind-clause-count g c = c.in-Ok-read_behind.ensures.count

pub read_behind-requires-clause-older : goal.read_behind-requires-clause-older
read_behind-requires-clause-older g c = c.in-Ok.ensures.ok.few_older
