use Rattle.std.proofs.Common.{refl, sym, subst, List, ℕ}
use Rattle.carry_tables.specs.FateRows.{IsReportAs}
use Rattle.carry_plans.proofs.Parts.{report_of}
use Rattle.carry_plans.proofs.planning.reported_of.Goals as goal

pub returns-in-Ok-report_as-clause-report : goal.returns-in-Ok-report_as-clause-report
returns-in-Ok-report_as-clause-report c =
    report_of c.args.form c.args.counts.now c.args.today c.args.olds.now c.args.news.now c.args.live.now c.args.asked.now c.args.after.now
    (record { olds = c.args.olds; old = c.args.old; news = c.args.news; new = c.args.new; today = c.args.today; asked = c.args.asked; after = c.args.after })
    c.in-Ok.all.items c.as_slice.result.now c.from_vec.result refl refl c.requires.new refl refl refl
    c.in-Ok.ensures c.as_slice.ensures.value (subst (λ (t : List ℕ). IsReportAs c.args.form c.args.counts.now c.args.olds.now c.args.news.now c.as_slice.result.now t) (sym c.from_vec.ensures) c.in-Ok-report_as.ensures)
