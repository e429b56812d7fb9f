use Rattle.std.proofs.Common.{ap, sym}
use Rattle.seat_words.specs.CommandLine.{app_named, audit_app, avs_app, bookings_app, carry_app, changes_app, check_app, compare_app, cover_app, explain_app, flights_app, history_app, ladder_app, loads_app, pickup_app, reconcile_app, recover_app, replies_app, rooms_app, route_app, run_app, seal_app, season_app, serve_app, told_app, waiting_app, why_app}
use Rattle.seat_words.proofs.commands.described_by.Goals as goal

pub returns-in-Ladder : goal.returns-in-Ladder
unfolding ladder_app
returns-in-Ladder c = sym (ap app_named c.in-Ladder.is)

pub returns-in-Check : goal.returns-in-Check
unfolding check_app
returns-in-Check c = sym (ap app_named c.in-Check.is)

pub returns-in-Flights : goal.returns-in-Flights
unfolding flights_app
returns-in-Flights c = sym (ap app_named c.in-Flights.is)

pub returns-in-Cover : goal.returns-in-Cover
unfolding cover_app
returns-in-Cover c = sym (ap app_named c.in-Cover.is)

pub returns-in-Rooms : goal.returns-in-Rooms
unfolding rooms_app
returns-in-Rooms c = sym (ap app_named c.in-Rooms.is)

pub returns-in-Loads : goal.returns-in-Loads
unfolding loads_app
returns-in-Loads c = sym (ap app_named c.in-Loads.is)

pub returns-in-Run : goal.returns-in-Run
unfolding run_app
returns-in-Run c = sym (ap app_named c.in-Run.is)

pub returns-in-Serve : goal.returns-in-Serve
unfolding serve_app
returns-in-Serve c = sym (ap app_named c.in-Serve.is)

pub returns-in-Route : goal.returns-in-Route
unfolding route_app
returns-in-Route c = sym (ap app_named c.in-Route.is)

pub returns-in-Bookings : goal.returns-in-Bookings
unfolding bookings_app
returns-in-Bookings c = sym (ap app_named c.in-Bookings.is)

pub returns-in-Waiting : goal.returns-in-Waiting
unfolding waiting_app
returns-in-Waiting c = sym (ap app_named c.in-Waiting.is)

pub returns-in-Pickup : goal.returns-in-Pickup
unfolding pickup_app
returns-in-Pickup c = sym (ap app_named c.in-Pickup.is)

pub returns-in-History : goal.returns-in-History
unfolding history_app
returns-in-History c = sym (ap app_named c.in-History.is)

pub returns-in-Avs : goal.returns-in-Avs
unfolding avs_app
returns-in-Avs c = sym (ap app_named c.in-Avs.is)

pub returns-in-Reconcile : goal.returns-in-Reconcile
unfolding reconcile_app
returns-in-Reconcile c = sym (ap app_named c.in-Reconcile.is)

pub returns-in-Compare : goal.returns-in-Compare
unfolding compare_app
returns-in-Compare c = sym (ap app_named c.in-Compare.is)

pub returns-in-Carry : goal.returns-in-Carry
unfolding carry_app
returns-in-Carry c = sym (ap app_named c.in-Carry.is)

pub returns-in-Changes : goal.returns-in-Changes
unfolding changes_app
returns-in-Changes c = sym (ap app_named c.in-Changes.is)

pub returns-in-Audit : goal.returns-in-Audit
unfolding audit_app
returns-in-Audit c = sym (ap app_named c.in-Audit.is)

pub returns-in-Seal : goal.returns-in-Seal
unfolding seal_app
returns-in-Seal c = sym (ap app_named c.in-Seal.is)

pub returns-in-Recover : goal.returns-in-Recover
unfolding recover_app
returns-in-Recover c = sym (ap app_named c.in-Recover.is)

pub returns-in-Replies : goal.returns-in-Replies
unfolding replies_app
returns-in-Replies c = sym (ap app_named c.in-Replies.is)

pub returns-in-Told : goal.returns-in-Told
unfolding told_app
returns-in-Told c = sym (ap app_named c.in-Told.is)

pub returns-in-Why : goal.returns-in-Why
unfolding why_app
returns-in-Why c = sym (ap app_named c.in-Why.is)

pub returns-in-Explain : goal.returns-in-Explain
unfolding explain_app
returns-in-Explain c = sym (ap app_named c.in-Explain.is)

pub returns-in-Season : goal.returns-in-Season
unfolding season_app
returns-in-Season c = sym (ap app_named c.in-Season.is)
