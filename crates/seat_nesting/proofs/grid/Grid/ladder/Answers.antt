use Rattle.std.proofs.Common.{◌≡◌, [], List, ap, sym, subst, ◌∙◌, arith}
use Rattle.std.specs.Option.{IfNone, IfSome}
use Rattle.seat_nesting.specs.Nesting.{Steps, Ladders}
use Rattle.seat_nesting.specs.OwnLadders.{pool_of, steps_by}
use Rattle.seat_nesting.specs.FlatCounts.{IsLaid}
use Rattle.seat_nesting.specs.declared.laid_out.Layout.{Layout}
use Rattle.seat_nesting.proofs.Grids.{leg_found, leg_is_at, leg_not_found}
use Rattle.seat_nesting.proofs.grid.Grid.ladder.Goals as goal

pub index-requires : goal.index-requires
index-requires c =
    let here : IsLaid c.self.inside.layout c.args.self.now = subst (λ (g : Ladders). IsLaid c.self.inside.layout g) c.self.view_is c.self.invariant in
    let laid : IsLaid c.get-layout.result.now c.args.self.now = subst (λ (l : Layout). IsLaid l c.args.self.now) (sym c.get-layout.ensures) here in
    let at = leg_is_at c.get-layout.result.now c.args.self.now c.deref.result.now c.args.flight c.args.leg c.in-Some.i c.leg_index.result laid c.deref.ensures.value c.leg_index.ensures c.in-Some.is in
    omega (arith, at.inside, c.get-layout.result.now.legs.ok)

pub returns-clause-found : goal.returns-clause-found
returns-clause-found c =
    let here : IsLaid c.self.inside.layout c.args.self.now = subst (λ (g : Ladders). IsLaid c.self.inside.layout g) c.self.view_is c.self.invariant in
    let laid : IsLaid c.get-layout.result.now c.args.self.now = subst (λ (l : Layout). IsLaid l c.args.self.now) (sym c.get-layout.ensures) here in
    let at = leg_is_at c.get-layout.result.now c.args.self.now c.deref.result.now c.args.flight c.args.leg c.in-Some.i c.leg_index.result laid c.deref.ensures.value c.leg_index.ensures c.in-Some.is in
    let found = leg_found c.get-layout.result.now c.args.self.now c.args.flight c.args.leg c.in-Some.i c.index.result.now laid at c.index.ensures in
    subst (λ (s : Steps). IfSome c.ladder.result (λ l. l.now ≡ s))
    (ap (λ (s : List Steps). steps_by (pool_of s []) c.index.result.now.limits) c.deref-2.ensures.value ∙ found) c.ladder.ensures.found

pub returns-clause-none : goal.returns-clause-none
returns-clause-none c =
    let here : IsLaid c.self.inside.layout c.args.self.now = subst (λ (g : Ladders). IsLaid c.self.inside.layout g) c.self.view_is c.self.invariant in
    let laid : IsLaid c.get-layout.result.now c.args.self.now = subst (λ (l : Layout). IsLaid l c.args.self.now) (sym c.get-layout.ensures) here in
    let at = leg_is_at c.get-layout.result.now c.args.self.now c.deref.result.now c.args.flight c.args.leg c.in-Some.i c.leg_index.result laid c.deref.ensures.value c.leg_index.ensures c.in-Some.is in
    let found = leg_found c.get-layout.result.now c.args.self.now c.args.flight c.args.leg c.in-Some.i c.index.result.now laid at c.index.ensures in
    subst (λ (s : Steps). IfNone c.ladder.result (s ≡ []))
    (ap (λ (s : List Steps). steps_by (pool_of s []) c.index.result.now.limits) c.deref-2.ensures.value ∙ found) c.ladder.ensures.none
