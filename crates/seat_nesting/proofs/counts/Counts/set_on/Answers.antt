use Rattle.std.proofs.Common.{◌≡◌, ◌+◌, ◌≤◌, ◌<◌, ℕ, List, length, ap, sym, subst, ◌∙◌, arith}
use Rattle.std.specs.Vec.{vec_capacity}
use Rattle.seat_nesting.specs.Nesting.{Steps, IsLadder}
use Rattle.seat_nesting.specs.Changing.{with_setting}
use Rattle.seat_nesting.specs.OwnLadders.{CountedLeg, AreCounters, pool_of, steps_by, may_come}
use Rattle.seat_nesting.specs.declared.limits.Limits.TheVariants.{Own}
use Rattle.seat_nesting.proofs.CountedLegs.{meets}
use Rattle.seat_nesting.proofs.OwnLadders.{set_some, set_ladder, set_there, set_reserved, set_numbered, set_to, sets_on, set_counters}
use Rattle.seat_nesting.proofs.counts.Counts.set_on.Goals as goal

pub set-limits-requires-clause-ladder : goal.set-limits-requires-clause-ladder
set-limits-requires-clause-ladder c =
    let is = set_ladder (pool_of c.self.inside.layout.shared.items c.self.inside.own.items) (vec_capacity c.self.inside.own) c.self.inside.flights c.args.self.now c.args.flight c.args.leg c.args.setting.now (meets (pool_of c.self.inside.layout.shared.items c.self.inside.own.items) (vec_capacity c.self.inside.own) c.self.inside.flights c.args.self.now c.self.invariant c.self.view_is) c.requires in
    subst (λ (s : List Steps). IsLadder (with_setting (steps_by (pool_of s c.self.inside.own.items) c.in-Some.limits) c.args.setting.now)) (sym c.ladders.ensures)
    (subst (λ (x : CountedLeg). IsLadder (with_setting (steps_by (pool_of c.self.inside.layout.shared.items c.self.inside.own.items) x.limits) c.args.setting.now)) (sym c.in-Some.ensures.found) is)

pub set-limits-requires-clause-there : goal.set-limits-requires-clause-there
set-limits-requires-clause-there c =
    subst (λ (x : CountedLeg). (i : ℕ) → x.limits ≡ Own i → i < length c.self.inside.own.items) (sym c.in-Some.ensures.found) (set_there (pool_of c.self.inside.layout.shared.items c.self.inside.own.items) (vec_capacity c.self.inside.own) c.self.inside.flights c.args.self.now c.args.flight c.args.leg (meets (pool_of c.self.inside.layout.shared.items c.self.inside.own.items) (vec_capacity c.self.inside.own) c.self.inside.flights c.args.self.now c.self.invariant c.self.view_is))

pub set-limits-requires-clause-reserved : goal.set-limits-requires-clause-reserved
set-limits-requires-clause-reserved c =
    let is = set_reserved (pool_of c.self.inside.layout.shared.items c.self.inside.own.items) (vec_capacity c.self.inside.own) c.self.inside.flights c.args.self.now c.args.flight c.args.leg c.args.setting.now (meets (pool_of c.self.inside.layout.shared.items c.self.inside.own.items) (vec_capacity c.self.inside.own) c.self.inside.flights c.args.self.now c.self.invariant c.self.view_is) c.requires in
    omega (arith, is, ap (λ (x : CountedLeg). may_come x.limits) c.in-Some.ensures.found, c.self.inside.own.ok)

pub set-limits-requires-clause-numbered : goal.set-limits-requires-clause-numbered
set-limits-requires-clause-numbered c =
    let is = set_numbered (pool_of c.self.inside.layout.shared.items c.self.inside.own.items) (vec_capacity c.self.inside.own) c.self.inside.flights c.args.self.now c.args.flight c.args.leg c.args.setting.now (meets (pool_of c.self.inside.layout.shared.items c.self.inside.own.items) (vec_capacity c.self.inside.own) c.self.inside.flights c.args.self.now c.self.invariant c.self.view_is) c.requires in
    omega (arith, is, ap (λ (x : CountedLeg). may_come x.limits) c.in-Some.ensures.found, c.self.inside.own.ok)

pub move_limits-requires : goal.move_limits-requires
move_limits-requires c = set_some (pool_of c.self.inside.layout.shared.items c.self.inside.own.items) (vec_capacity c.self.inside.own) c.self.inside.flights c.args.self.now c.args.flight c.args.leg c.args.setting.now (meets (pool_of c.self.inside.layout.shared.items c.self.inside.own.items) (vec_capacity c.self.inside.own) c.self.inside.flights c.args.self.now c.self.invariant c.self.view_is) c.requires

pub invariant_of-self : goal.invariant_of-self
invariant_of-self c =
    let to = set_to c.self.inside.layout.shared.items c.self.inside.own.items c.ladders.result.now c.self.inside.flights c.args.flight c.args.leg c.args.setting.now (c.in-Some.limits) (c.in-Some._held.now) c.set-limits.new.own.items c.set-limits.result c.move_limits.new.self c.ladders.ensures c.in-Some.ensures.found c.set-limits.ensures.own c.set-limits.ensures.limits c.move_limits.ensures in
    subst (λ (places : ℕ). AreCounters (pool_of c.self.inside.layout.shared.items c.set-limits.new.own.items) places c.move_limits.new.self) (sym c.set-limits.ensures.places)
    (set_counters (pool_of c.self.inside.layout.shared.items c.self.inside.own.items) (vec_capacity c.self.inside.own) c.self.inside.flights c.args.self.now c.args.flight c.args.leg c.args.setting.now (pool_of c.self.inside.layout.shared.items c.set-limits.new.own.items) c.move_limits.new.self (meets (pool_of c.self.inside.layout.shared.items c.self.inside.own.items) (vec_capacity c.self.inside.own) c.self.inside.flights c.args.self.now c.self.invariant c.self.view_is) c.requires to)

pub returns : goal.returns
returns c =
    let to = set_to c.self.inside.layout.shared.items c.self.inside.own.items c.ladders.result.now c.self.inside.flights c.args.flight c.args.leg c.args.setting.now (c.in-Some.limits) (c.in-Some._held.now) c.set-limits.new.own.items c.set-limits.result c.move_limits.new.self c.ladders.ensures c.in-Some.ensures.found c.set-limits.ensures.own c.set-limits.ensures.limits c.move_limits.ensures in
    sets_on (pool_of c.self.inside.layout.shared.items c.self.inside.own.items) (vec_capacity c.self.inside.own) c.self.inside.flights c.args.self.now c.args.flight c.args.leg c.args.setting.now (pool_of c.self.inside.layout.shared.items c.set-limits.new.own.items) c.move_limits.new.self (meets (pool_of c.self.inside.layout.shared.items c.self.inside.own.items) (vec_capacity c.self.inside.own) c.self.inside.flights c.args.self.now c.self.invariant c.self.view_is) c.requires to
