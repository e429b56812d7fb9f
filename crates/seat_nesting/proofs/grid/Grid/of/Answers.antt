use Rattle.std.proofs.Common.{ap, sym, subst, ◌∙◌}
use Rattle.seat_nesting.specs.FlatCounts.{IsLaid, grid_in}
use Rattle.seat_nesting.specs.declared.laid_out.Layout.{Layout}
use Rattle.seat_nesting.proofs.Layouts.{grid_laid, laid_so}
use Rattle.seat_nesting.proofs.grid.Grid.of.Goals as goal

pub invariant_of-result : goal.invariant_of-result
invariant_of-result c = laid_so c.in-Ok.layout c.args.plan.flights (subst (λ (l : Layout). IsLaid l c.args.plan.flights) (sym c.in-Ok.ensures) c.into_layout.ensures)

pub returns : goal.returns
returns c = ap grid_in c.in-Ok.ensures ∙ grid_laid c.into_layout.result c.args.plan.flights c.into_layout.ensures
