use Rattle.std.proofs.Common.{List, refl, subst, sym}
use Rattle.ssim_flights.specs.declared.flight.Flight.{Flight as Flown}
use Rattle.seat_desk.specs.Loading.{IsGridOf}
use Rattle.desk_stream.specs.Wanting.{IsRightWanted}
use Rattle.desk_stream.proofs.Plans.{booked_plan, live_booked, live_full, right_some, right_told, room_for}
use Rattle.desk_stream.proofs.planning.plan_live.Goals as goal

pub asked_for-requires-clause-session : goal.asked_for-requires-clause-session
asked_for-requires-clause-session g c = c.requires.session

pub asked_for-requires-clause-grid : goal.asked_for-requires-clause-grid
asked_for-requires-clause-grid g c = subst (λ (fs : List Flown). IsGridOf fs c.args.serving.now.grid) (sym c.requires.served) c.requires.grid

pub asked_for-requires-clause-right : goal.asked_for-requires-clause-right
asked_for-requires-clause-right g c =
    subst (λ (fs : List Flown). IsRightWanted fs c.args.called.now.session c.args.called.now.wanted) (sym c.requires.served)
    c.requires.right

pub returns-clause-plans : goal.returns-clause-plans
returns-clause-plans g c =
    live_full c.args.flights.now c.args.serving.now c.args.pending.now c.args.called.now c.args.pending.now.progress.lines c.told.result
    c.has_room.result c.has_room.ensures c.if-has_room.false c.told.ensures

pub returns-clause-right : goal.returns-clause-right
returns-clause-right g c = right_told c.args.serving.now c.args.pending.now _ c.told.result c.told.ensures

pub returns-then-has_room-clause-plans : goal.returns-then-has_room-clause-plans
returns-then-has_room-clause-plans g c =
    live_booked c.args.flights.now c.args.serving.now c.args.pending.now c.args.called.now c.args.pending.now.progress.lines _ c.has_room.result
    c.has_room.ensures c.if-has_room.true (booked_plan c.args.flights.now c.args.served.now c.args.called.now
    c.args.pending.now.progress.lines c.asked_for.result c.asked_for.ensures.value c.requires.served)

pub returns-then-has_room-clause-right : goal.returns-then-has_room-clause-right
returns-then-has_room-clause-right g c =
    right_some c.args.serving.now c.args.pending.now _ c.asked_for.result refl c.asked_for.ensures.right
    (room_for c.args.serving.now c.args.pending.now c.has_room.result c.has_room.ensures c.if-has_room.true)
