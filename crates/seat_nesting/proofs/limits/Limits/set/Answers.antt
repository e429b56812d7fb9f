use Rattle.std.proofs.Common.{◌≡◌, ◌<◌, length, set, refl, ap, sym, subst, ◌∙◌, arith}
use Rattle.seat_nesting.specs.Nesting.{Steps, IsLadder}
use Rattle.seat_nesting.specs.Changing.{with_setting}
use Rattle.seat_nesting.specs.OwnLadders.{pool_of, own_after, limits_after, may_come}
use Rattle.seat_nesting.specs.declared.limits.Limits.{Limits}
use Rattle.seat_nesting.specs.declared.limits.Limits.TheVariants.{Own}
use Rattle.seat_nesting.proofs.OwnLadders.{own_at, own_joined, shared_at, shared_inside}
use Rattle.seat_nesting.proofs.limits.Limits.set.Goals as goal

pub set-requires : goal.set-requires
set-requires c =
    let own = c.args.own.now.items in
    let pool = pool_of c.args.shared.now own in
    let i = c.in-Own.i in
    let inside : i < length own = c.requires.there i c.in-Own.is in
    subst (λ (s : Steps). IsLadder (with_setting s c.args.setting.now))
    (own_at pool c.args.self i c.index_mut-ladder.result.now c.in-Own.is inside c.index_mut-ladder.ensures.value) c.requires.ladder

pub returns-in-Own-clause-own : goal.returns-in-Own-clause-own
returns-in-Own-clause-own c =
    let own = c.args.own.now.items in
    let pool = pool_of c.args.shared.now own in
    let i = c.in-Own.i in
    let inside : i < length own = c.requires.there i c.in-Own.is in
    let old = own_at pool (Own i) i c.index_mut-ladder.result.now refl inside c.index_mut-ladder.ensures.value in
    ap (set own i) (c.set.ensures ∙ ap (λ (s : Steps). with_setting s c.args.setting.now) (sym old))
    ∙ ap (λ (l : Limits). own_after pool l c.args.setting.now) (sym c.in-Own.is)

pub returns-in-Own-clause-limits : goal.returns-in-Own-clause-limits
returns-in-Own-clause-limits c = ap (limits_after (pool_of c.args.shared.now c.args.own.now.items)) (sym c.in-Own.is)

pub bounds-shared-i : goal.bounds-shared-i
bounds-shared-i c =
    shared_inside (pool_of c.args.shared.now c.args.own.now.items) c.args.self c.in-Shared.i c.args.setting.now c.in-Shared.is c.requires.ladder

pub set-requires-in-Shared : goal.set-requires-in-Shared
set-requires-in-Shared c =
    let pool = pool_of c.args.shared.now c.args.own.now.items in
    let i = c.in-Shared.i in
    let inside = shared_inside pool c.args.self i c.args.setting.now c.in-Shared.is c.requires.ladder in
    let old = shared_at pool c.args.self i c.index-shared-i.result c.in-Shared.is inside c.index-shared-i.is in
    subst (λ (s : Steps). IsLadder (with_setting s c.args.setting.now)) (old ∙ sym c.copy-ladder.ensures) c.requires.ladder

pub overflow_cast-number : goal.overflow_cast-number
overflow_cast-number c =
    let one : may_come c.args.self ≡ 1 = ap may_come c.in-Shared.is in
    omega (arith, one, c.requires.numbered, c.len-number.ensures)

pub push_reserved-requires : goal.push_reserved-requires
push_reserved-requires c =
    let one : may_come c.args.self ≡ 1 = ap may_come c.in-Shared.is in
    omega (arith, one, c.requires.reserved)

pub returns-in-Shared-clause-own : goal.returns-in-Shared-clause-own
returns-in-Shared-clause-own c =
    let pool = pool_of c.args.shared.now c.args.own.now.items in
    let i = c.in-Shared.i in
    let inside = shared_inside pool c.args.self i c.args.setting.now c.in-Shared.is c.requires.ladder in
    let written = c.set-in-Shared.ensures ∙ ap (λ (s : Steps). with_setting s c.args.setting.now) c.copy-ladder.ensures in
    c.push_reserved.ensures.items
    ∙ own_joined pool c.args.self i c.index-shared-i.result c.set-in-Shared.new.self c.args.setting.now c.in-Shared.is inside c.index-shared-i.is written

pub returns-in-Shared-clause-limits : goal.returns-in-Shared-clause-limits
returns-in-Shared-clause-limits c =
    let pool = pool_of c.args.shared.now c.args.own.now.items in
    let many : c.len-number.result ≡ length c.args.own.now.items = omega (arith, c.len-number.ensures, c.args.own.now.ok) in
    ap Own many ∙ ap (limits_after pool) (sym c.in-Shared.is)
