use Rattle.std.proofs.Common.{◌≡◌, ◌<◌, length, sym, subst, arith}
use Rattle.std.proofs.lemmas.Bool.Decides.{nat_tests}
use Rattle.seat_nesting.specs.Nesting.{Ladders}
use Rattle.seat_nesting.specs.FlatCounts.{IsLaid}
use Rattle.seat_nesting.specs.declared.laid_out.Layout.{Layout}
use Rattle.seat_nesting.proofs.Grids.{finds_flight, finds_no_flight}
use Rattle.seat_nesting.proofs.grid.Grid.legs_on.Goals as goal

pub returns-in-Some : goal.returns-in-Some
returns-in-Some c =
    let here : IsLaid c.self.inside.layout c.args.self.now = subst (λ (g : Ladders). IsLaid c.self.inside.layout g) c.self.view_is c.self.invariant in
    let laid : IsLaid c.get.result.now c.args.self.now = subst (λ (l : Layout). IsLaid l c.args.self.now) (sym c.get.ensures) here in
    let there = c.in-Some.ensures.lookup.0 in
    let lt : c.args.flight < length c.deref.result.now = grind (arith, nat_tests, there) in
    finds_flight c.get.result.now c.args.self.now c.deref.result.now c.args.flight c.in-Some.part.now laid c.deref.ensures.value lt c.in-Some.ensures.lookup.1

pub returns-in-None : goal.returns-in-None
returns-in-None c =
    let here : IsLaid c.self.inside.layout c.args.self.now = subst (λ (g : Ladders). IsLaid c.self.inside.layout g) c.self.view_is c.self.invariant in
    let laid : IsLaid c.get.result.now c.args.self.now = subst (λ (l : Layout). IsLaid l c.args.self.now) (sym c.get.ensures) here in
    finds_no_flight c.get.result.now c.args.self.now c.deref.result.now c.args.flight laid c.deref.ensures.value c.in-None.ensures.lookup.0
