use Rattle.std.proofs.Common.{◌≡◌, refl, subst}
use Rattle.std.specs.Result.{OnOk}
use Rattle.seat_nesting.specs.declared.laid_out.Layout.{Layout}
use Rattle.seat_nesting.specs.Planning.{Planned, planned, with_ladder}
use Rattle.seat_nesting.proofs.Plans.{put_kept, put_told}
use Rattle.seat_nesting.proofs.grid_plan.GridPlan.put.Goals as goal

pub invariant_of-self : goal.invariant_of-self
invariant_of-self c =
    let old : Layout = c.self.inside.layout in
    put_kept c.put.result old (record old { shared = c.put.new.shared }) c.self.inside.first (planned old c.self.inside.first) c.args.ladder c.self.invariant c.put.ensures.grows c.put.ensures.kept (record { legs = refl; numbers = refl }) refl

pub returns-clause-ladder : goal.returns-clause-ladder
returns-clause-ladder c =
    let old : Layout = c.self.inside.layout in
    let new : Layout = record old { shared = c.put.new.shared } in
    subst (λ (p : Planned). OnOk c.put.result (planned new c.self.inside.first ≡ with_ladder p c.args.ladder)) c.self.view_is
    (put_told c.put.result old new c.self.inside.first (planned old c.self.inside.first) c.args.ladder c.self.invariant c.put.ensures.grows (record { legs = refl; numbers = refl }) refl)
