use Rattle.std.proofs.Common.{◌≡◌, List, filter, arith, ap, sym, subst, ◌∙◌}
use Rattle.std.proofs.lemmas.List.{take_all}
use Rattle.seat_carrying.specs.declared.owned.Owned.{Owned}
use Rattle.carry_lines.specs.Carriable.{StaysApart, is_carriable}
use Rattle.carry_lines.proofs.Choices.{stays_apart}
use Rattle.carry_lines.proofs.choosing.carriable.Goals as goal

pub returns-clause-apart : goal.returns-clause-apart
returns-clause-apart c =
    let whole : c.loop-owned.all.items ≡ filter (is_carriable c.args.grid.now) c.args.moved.now =
    c.loop-owned.invariant ∙ ap (filter (is_carriable c.args.grid.now)) (take_all c.loop-owned.owned-index c.args.moved.now (omega (arith, c.loop-owned-test.false))) in
    subst (λ (l : List Owned). StaysApart c.args.moved.now l) (sym whole) (stays_apart c.args.grid.now c.args.moved.now)
