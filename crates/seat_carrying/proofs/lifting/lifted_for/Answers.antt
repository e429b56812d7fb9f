use Rattle.std.proofs.Common.{◌≡◌, true, false, sym, subst, ◌∙◌}
use Rattle.seat_nesting.specs.Nesting.{IsLadder, Steps}
use Rattle.seat_rules.specs.Bookings.{held, waiting}
use Rattle.seat_carrying.proofs.Counted.{lifted_is_ladder}
use Rattle.seat_carrying.proofs.lifting.lifted_for.Goals as goal

-- src/lifting.rt:23:19
pub unreachable-requires : goal.unreachable-requires
unreachable-requires c =
    let is : IsLadder c.deref.result.now =
    subst (λ (l : Steps). IsLadder l) (sym (c.deref.ensures.0 ∙ c.lifted_steps-lifted.ensures))
    (lifted_is_ladder c.args.seats c.steps.result.now (held c.args.bookings.now c.args.flight c.args.leg) (waiting c.args.bookings.now c.args.flight c.args.leg) c.requires
    (subst (λ (l : Steps). IsLadder l) (sym c.steps.ensures.value) c.steps.ensures.ladder)) in
    let wrong : false ≡ true = c.in-Err.ensures.ladder.1 is in
    absurd cc
