use Rattle.std.proofs.Common.{refl, arith}
use Rattle.ssim_flights.specs.Rounds.{round_days}
use Rattle.ssim_flights.proofs.Rounding.{is_placed}
use Rattle.ssim_flights.proofs.rounds.Rounds.day.Goals as goal

pub nonzero_div-past : goal.nonzero_div-past
nonzero_div-past c =
    let p = is_placed c.self.inside.leg c.self.inside.end c.args.self.now c.as_slice-first.result.now c.self.inside.first.items c.self.inside.count c.args.i (round_days c.self.inside.leg.second_week) c.self.invariant c.as_slice-first.ensures.value c.self.view_is refl c.requires in
    p.some

pub overflow_cast-past : goal.overflow_cast-past
overflow_cast-past c =
    let p = is_placed c.self.inside.leg c.self.inside.end c.args.self.now c.as_slice-first.result.now c.self.inside.first.items c.self.inside.count c.args.i (round_days c.self.inside.leg.second_week) c.self.invariant c.as_slice-first.ensures.value c.self.view_is refl c.requires in
    let r = p.rounds in
    omega arith

pub overflow_mul-past : goal.overflow_mul-past
overflow_mul-past c =
    let p = is_placed c.self.inside.leg c.self.inside.end c.args.self.now c.as_slice-first.result.now c.self.inside.first.items c.self.inside.count c.args.i c.round_days.result c.self.invariant c.as_slice-first.ensures.value c.self.view_is c.round_days.ensures c.requires in
    let r = p.past in
    omega arith

pub nonzero_rem-number : goal.nonzero_rem-number
nonzero_rem-number c =
    let p = is_placed c.self.inside.leg c.self.inside.end c.args.self.now c.as_slice-first.result.now c.self.inside.first.items c.self.inside.count c.args.i (round_days c.self.inside.leg.second_week) c.self.invariant c.as_slice-first.ensures.value c.self.view_is refl c.requires in
    p.some

pub offset_bounds-first-i : goal.offset_bounds-first-i
offset_bounds-first-i c =
    let p = is_placed c.self.inside.leg c.self.inside.end c.args.self.now c.as_slice-first.result.now c.self.inside.first.items c.self.inside.count c.args.i (round_days c.self.inside.leg.second_week) c.self.invariant c.as_slice-first.ensures.value c.self.view_is refl c.requires in
    let a = p.place in
    let b = p.few in
    omega arith

pub bounds-first-i : goal.bounds-first-i
bounds-first-i c =
    let p = is_placed c.self.inside.leg c.self.inside.end c.args.self.now c.as_slice-first.result.now c.self.inside.first.items c.self.inside.count c.args.i (round_days c.self.inside.leg.second_week) c.self.invariant c.as_slice-first.ensures.value c.self.view_is refl c.requires in
    p.place

pub overflow_add-number : goal.overflow_add-number
overflow_add-number c =
    let p = is_placed c.self.inside.leg c.self.inside.end c.args.self.now c.as_slice-first.result.now c.self.inside.first.items c.self.inside.count c.args.i c.round_days.result c.self.invariant c.as_slice-first.ensures.value c.self.view_is c.round_days.ensures c.requires in
    let day = p.day in
    let low = p.low in
    let high = p.high in
    omega arith

pub numbered-requires : goal.numbered-requires
numbered-requires c =
    let p = is_placed c.self.inside.leg c.self.inside.end c.args.self.now c.as_slice-first.result.now c.self.inside.first.items c.self.inside.count c.args.i c.round_days.result c.self.invariant c.as_slice-first.ensures.value c.self.view_is c.round_days.ensures c.requires in
    let day = p.day in
    let low = p.low in
    let high = p.high in
    (omega arith, omega arith)

pub returns-clause-value : goal.returns-clause-value
returns-clause-value c =
    let p = is_placed c.self.inside.leg c.self.inside.end c.args.self.now c.as_slice-first.result.now c.self.inside.first.items c.self.inside.count c.args.i c.round_days.result c.self.invariant c.as_slice-first.ensures.value c.self.view_is c.round_days.ensures c.requires in
    let day = p.day in
    let low = p.low in
    let high = p.high in
    let made = c.numbered.ensures in
    omega arith

pub returns-clause-begun : goal.returns-clause-begun
returns-clause-begun c =
    let p = is_placed c.self.inside.leg c.self.inside.end c.args.self.now c.as_slice-first.result.now c.self.inside.first.items c.self.inside.count c.args.i c.round_days.result c.self.invariant c.as_slice-first.ensures.value c.self.view_is c.round_days.ensures c.requires in
    let day = p.day in
    let low = p.low in
    let high = p.high in
    let made = c.numbered.ensures in
    omega arith

pub returns-clause-lasts : goal.returns-clause-lasts
returns-clause-lasts c =
    let p = is_placed c.self.inside.leg c.self.inside.end c.args.self.now c.as_slice-first.result.now c.self.inside.first.items c.self.inside.count c.args.i c.round_days.result c.self.invariant c.as_slice-first.ensures.value c.self.view_is c.round_days.ensures c.requires in
    let day = p.day in
    let low = p.low in
    let high = p.high in
    let made = c.numbered.ensures in
    omega arith
