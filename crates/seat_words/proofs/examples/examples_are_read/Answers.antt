use Rattle.std.proofs.Common.{refl}
use Rattle.clap.proofs.OnLiterals.{clap_on_literals}
use Rattle.seat_words.specs.CommandLine.{asking_app, audit_app, avs_app, bare_app, bookings_app, carry_app, changes_app, check_app, compare_app, cover_app, explain_app, flights_app, history_app, horizon_app, ladder_app, loads_app, named_app, pickup_app, reconcile_app, recover_app, replies_app, rooms_app, route_app, run_app, seal_app, season_app, seatdesk_app, selling_app, serve_app, told_app, waiting_app, why_app}
use Rattle.seat_words.proofs.examples.examples_are_read.Goals as goal

pub returns-clause-ladder : goal.returns-clause-ladder
unfolding seatdesk_app asking_app selling_app bare_app named_app ladder_app check_app flights_app cover_app rooms_app loads_app run_app serve_app route_app bookings_app audit_app seal_app recover_app replies_app told_app waiting_app pickup_app history_app avs_app reconcile_app compare_app carry_app changes_app why_app explain_app season_app horizon_app clap_on_literals
returns-clause-ladder c = record { taken = refl; found = refl }

pub returns-clause-check : goal.returns-clause-check
unfolding seatdesk_app asking_app selling_app bare_app named_app ladder_app check_app flights_app cover_app rooms_app loads_app run_app serve_app route_app bookings_app audit_app seal_app recover_app replies_app told_app waiting_app pickup_app history_app avs_app reconcile_app compare_app carry_app changes_app why_app explain_app season_app horizon_app clap_on_literals
returns-clause-check c = record { taken = refl; found = refl }

pub returns-clause-flights : goal.returns-clause-flights
unfolding seatdesk_app asking_app selling_app bare_app named_app ladder_app check_app flights_app cover_app rooms_app loads_app run_app serve_app route_app bookings_app audit_app seal_app recover_app replies_app told_app waiting_app pickup_app history_app avs_app reconcile_app compare_app carry_app changes_app why_app explain_app season_app horizon_app clap_on_literals
returns-clause-flights c = record { taken = refl; found = refl }

pub returns-clause-audit : goal.returns-clause-audit
unfolding seatdesk_app asking_app selling_app bare_app named_app ladder_app check_app flights_app cover_app rooms_app loads_app run_app serve_app route_app bookings_app audit_app seal_app recover_app replies_app told_app waiting_app pickup_app history_app avs_app reconcile_app compare_app carry_app changes_app why_app explain_app season_app horizon_app clap_on_literals
returns-clause-audit c = record { taken = refl; found = refl }

pub returns-clause-run : goal.returns-clause-run
unfolding seatdesk_app asking_app selling_app bare_app named_app ladder_app check_app flights_app cover_app rooms_app loads_app run_app serve_app route_app bookings_app audit_app seal_app recover_app replies_app told_app waiting_app pickup_app history_app avs_app reconcile_app compare_app carry_app changes_app why_app explain_app season_app horizon_app clap_on_literals
returns-clause-run c = record { taken = refl; found = refl }

pub returns-clause-changes : goal.returns-clause-changes
unfolding seatdesk_app asking_app selling_app bare_app named_app ladder_app check_app flights_app cover_app rooms_app loads_app run_app serve_app route_app bookings_app audit_app seal_app recover_app replies_app told_app waiting_app pickup_app history_app avs_app reconcile_app compare_app carry_app changes_app why_app explain_app season_app horizon_app clap_on_literals
returns-clause-changes c = record { taken = refl; found = refl }

pub returns-clause-after : goal.returns-clause-after
unfolding seatdesk_app asking_app selling_app bare_app named_app ladder_app check_app flights_app cover_app rooms_app loads_app run_app serve_app route_app bookings_app audit_app seal_app recover_app replies_app told_app waiting_app pickup_app history_app avs_app reconcile_app compare_app carry_app changes_app why_app explain_app season_app horizon_app clap_on_literals
returns-clause-after c = record { taken = refl; found = refl }

pub returns-clause-resume : goal.returns-clause-resume
unfolding seatdesk_app asking_app selling_app bare_app named_app ladder_app check_app flights_app cover_app rooms_app loads_app run_app serve_app route_app bookings_app audit_app seal_app recover_app replies_app told_app waiting_app pickup_app history_app avs_app reconcile_app compare_app carry_app changes_app why_app explain_app season_app horizon_app clap_on_literals
returns-clause-resume c = record { taken = refl; found = refl }

pub returns-clause-refused : goal.returns-clause-refused
unfolding seatdesk_app asking_app selling_app bare_app named_app ladder_app check_app flights_app cover_app rooms_app loads_app run_app serve_app route_app bookings_app audit_app seal_app recover_app replies_app told_app waiting_app pickup_app history_app avs_app reconcile_app compare_app carry_app changes_app why_app explain_app season_app horizon_app clap_on_literals
returns-clause-refused c = record { taken = refl; found = refl }

pub returns-clause-cover : goal.returns-clause-cover
unfolding seatdesk_app asking_app selling_app bare_app named_app ladder_app check_app flights_app cover_app rooms_app loads_app run_app serve_app route_app bookings_app audit_app seal_app recover_app replies_app told_app waiting_app pickup_app history_app avs_app reconcile_app compare_app carry_app changes_app why_app explain_app season_app horizon_app clap_on_literals
returns-clause-cover c = record { taken = refl; found = refl }

pub returns-clause-rooms : goal.returns-clause-rooms
unfolding seatdesk_app asking_app selling_app bare_app named_app ladder_app check_app flights_app cover_app rooms_app loads_app run_app serve_app route_app bookings_app audit_app seal_app recover_app replies_app told_app waiting_app pickup_app history_app avs_app reconcile_app compare_app carry_app changes_app why_app explain_app season_app horizon_app clap_on_literals
returns-clause-rooms c = record { taken = refl; found = refl }

pub returns-clause-loads : goal.returns-clause-loads
unfolding seatdesk_app asking_app selling_app bare_app named_app ladder_app check_app flights_app cover_app rooms_app loads_app run_app serve_app route_app bookings_app audit_app seal_app recover_app replies_app told_app waiting_app pickup_app history_app avs_app reconcile_app compare_app carry_app changes_app why_app explain_app season_app horizon_app clap_on_literals
returns-clause-loads c = record { taken = refl; found = refl }

pub returns-clause-bookings : goal.returns-clause-bookings
unfolding seatdesk_app asking_app selling_app bare_app named_app ladder_app check_app flights_app cover_app rooms_app loads_app run_app serve_app route_app bookings_app audit_app seal_app recover_app replies_app told_app waiting_app pickup_app history_app avs_app reconcile_app compare_app carry_app changes_app why_app explain_app season_app horizon_app clap_on_literals
returns-clause-bookings c = record { taken = refl; found = refl }

pub returns-clause-told : goal.returns-clause-told
unfolding seatdesk_app asking_app selling_app bare_app named_app ladder_app check_app flights_app cover_app rooms_app loads_app run_app serve_app route_app bookings_app audit_app seal_app recover_app replies_app told_app waiting_app pickup_app history_app avs_app reconcile_app compare_app carry_app changes_app why_app explain_app season_app horizon_app clap_on_literals
returns-clause-told c = record { taken = refl; found = refl }

pub returns-clause-history : goal.returns-clause-history
unfolding seatdesk_app asking_app selling_app bare_app named_app ladder_app check_app flights_app cover_app rooms_app loads_app run_app serve_app route_app bookings_app audit_app seal_app recover_app replies_app told_app waiting_app pickup_app history_app avs_app reconcile_app compare_app carry_app changes_app why_app explain_app season_app horizon_app clap_on_literals
returns-clause-history c = record { taken = refl; found = refl }

pub returns-clause-waiting : goal.returns-clause-waiting
unfolding seatdesk_app asking_app selling_app bare_app named_app ladder_app check_app flights_app cover_app rooms_app loads_app run_app serve_app route_app bookings_app audit_app seal_app recover_app replies_app told_app waiting_app pickup_app history_app avs_app reconcile_app compare_app carry_app changes_app why_app explain_app season_app horizon_app clap_on_literals
returns-clause-waiting c = record { taken = refl; found = refl }

pub returns-clause-pickup : goal.returns-clause-pickup
unfolding seatdesk_app asking_app selling_app bare_app named_app ladder_app check_app flights_app cover_app rooms_app loads_app run_app serve_app route_app bookings_app audit_app seal_app recover_app replies_app told_app waiting_app pickup_app history_app avs_app reconcile_app compare_app carry_app changes_app why_app explain_app season_app horizon_app clap_on_literals
returns-clause-pickup c = record { taken = refl; found = refl }

pub returns-clause-against : goal.returns-clause-against
unfolding seatdesk_app asking_app selling_app bare_app named_app ladder_app check_app flights_app cover_app rooms_app loads_app run_app serve_app route_app bookings_app audit_app seal_app recover_app replies_app told_app waiting_app pickup_app history_app avs_app reconcile_app compare_app carry_app changes_app why_app explain_app season_app horizon_app clap_on_literals
returns-clause-against c = record { taken = refl; found = refl }

pub returns-clause-behind : goal.returns-clause-behind
unfolding seatdesk_app asking_app selling_app bare_app named_app ladder_app check_app flights_app cover_app rooms_app loads_app run_app serve_app route_app bookings_app audit_app seal_app recover_app replies_app told_app waiting_app pickup_app history_app avs_app reconcile_app compare_app carry_app changes_app why_app explain_app season_app horizon_app clap_on_literals
returns-clause-behind c = record { taken = refl; found = refl }

pub returns-clause-shards : goal.returns-clause-shards
unfolding seatdesk_app asking_app selling_app bare_app named_app ladder_app check_app flights_app cover_app rooms_app loads_app run_app serve_app route_app bookings_app audit_app seal_app recover_app replies_app told_app waiting_app pickup_app history_app avs_app reconcile_app compare_app carry_app changes_app why_app explain_app season_app horizon_app clap_on_literals
returns-clause-shards c = record { taken = refl; found = refl }

pub returns-clause-seal : goal.returns-clause-seal
unfolding seatdesk_app asking_app selling_app bare_app named_app ladder_app check_app flights_app cover_app rooms_app loads_app run_app serve_app route_app bookings_app audit_app seal_app recover_app replies_app told_app waiting_app pickup_app history_app avs_app reconcile_app compare_app carry_app changes_app why_app explain_app season_app horizon_app clap_on_literals
returns-clause-seal c = record { taken = refl; found = refl }

pub returns-clause-replies : goal.returns-clause-replies
unfolding seatdesk_app asking_app selling_app bare_app named_app ladder_app check_app flights_app cover_app rooms_app loads_app run_app serve_app route_app bookings_app audit_app seal_app recover_app replies_app told_app waiting_app pickup_app history_app avs_app reconcile_app compare_app carry_app changes_app why_app explain_app season_app horizon_app clap_on_literals
returns-clause-replies c = record { taken = refl; found = refl }

pub returns-clause-why : goal.returns-clause-why
unfolding seatdesk_app asking_app selling_app bare_app named_app ladder_app check_app flights_app cover_app rooms_app loads_app run_app serve_app route_app bookings_app audit_app seal_app recover_app replies_app told_app waiting_app pickup_app history_app avs_app reconcile_app compare_app carry_app changes_app why_app explain_app season_app horizon_app clap_on_literals
returns-clause-why c = record { taken = refl; found = refl }

pub returns-clause-explain : goal.returns-clause-explain
unfolding seatdesk_app asking_app selling_app bare_app named_app ladder_app check_app flights_app cover_app rooms_app loads_app run_app serve_app route_app bookings_app audit_app seal_app recover_app replies_app told_app waiting_app pickup_app history_app avs_app reconcile_app compare_app carry_app changes_app why_app explain_app season_app horizon_app clap_on_literals
returns-clause-explain c = record { taken = refl; found = refl }

pub returns-clause-desks : goal.returns-clause-desks
unfolding seatdesk_app asking_app selling_app bare_app named_app ladder_app check_app flights_app cover_app rooms_app loads_app run_app serve_app route_app bookings_app audit_app seal_app recover_app replies_app told_app waiting_app pickup_app history_app avs_app reconcile_app compare_app carry_app changes_app why_app explain_app season_app horizon_app clap_on_literals
returns-clause-desks c = record { taken = refl; found = refl }

pub returns-clause-manager : goal.returns-clause-manager
unfolding seatdesk_app asking_app selling_app bare_app named_app ladder_app check_app flights_app cover_app rooms_app loads_app run_app serve_app route_app bookings_app audit_app seal_app recover_app replies_app told_app waiting_app pickup_app history_app avs_app reconcile_app compare_app carry_app changes_app why_app explain_app season_app horizon_app clap_on_literals
returns-clause-manager c = record { taken = refl; found = refl }

pub returns-clause-pasted : goal.returns-clause-pasted
unfolding seatdesk_app asking_app selling_app bare_app named_app ladder_app check_app flights_app cover_app rooms_app loads_app run_app serve_app route_app bookings_app audit_app seal_app recover_app replies_app told_app waiting_app pickup_app history_app avs_app reconcile_app compare_app carry_app changes_app why_app explain_app season_app horizon_app clap_on_literals
returns-clause-pasted c = record { taken = refl; found = refl }

pub returns-clause-noted : goal.returns-clause-noted
unfolding seatdesk_app asking_app selling_app bare_app named_app ladder_app check_app flights_app cover_app rooms_app loads_app run_app serve_app route_app bookings_app audit_app seal_app recover_app replies_app told_app waiting_app pickup_app history_app avs_app reconcile_app compare_app carry_app changes_app why_app explain_app season_app horizon_app clap_on_literals
returns-clause-noted c = record { taken = refl; found = refl }

pub returns-clause-verbose : goal.returns-clause-verbose
unfolding seatdesk_app asking_app selling_app bare_app named_app ladder_app check_app flights_app cover_app rooms_app loads_app run_app serve_app route_app bookings_app audit_app seal_app recover_app replies_app told_app waiting_app pickup_app history_app avs_app reconcile_app compare_app carry_app changes_app why_app explain_app season_app horizon_app clap_on_literals
returns-clause-verbose c = record { taken = refl; found = refl }

pub returns-clause-serve : goal.returns-clause-serve
unfolding seatdesk_app asking_app selling_app bare_app named_app ladder_app check_app flights_app cover_app rooms_app loads_app run_app serve_app route_app bookings_app audit_app seal_app recover_app replies_app told_app waiting_app pickup_app history_app avs_app reconcile_app compare_app carry_app changes_app why_app explain_app season_app horizon_app clap_on_literals
returns-clause-serve c = record { taken = refl; found = refl }

pub returns-clause-pipes : goal.returns-clause-pipes
unfolding seatdesk_app asking_app selling_app bare_app named_app ladder_app check_app flights_app cover_app rooms_app loads_app run_app serve_app route_app bookings_app audit_app seal_app recover_app replies_app told_app waiting_app pickup_app history_app avs_app reconcile_app compare_app carry_app changes_app why_app explain_app season_app horizon_app clap_on_literals
returns-clause-pipes c = record { taken = refl; found = refl }

pub returns-clause-feed : goal.returns-clause-feed
unfolding seatdesk_app asking_app selling_app bare_app named_app ladder_app check_app flights_app cover_app rooms_app loads_app run_app serve_app route_app bookings_app audit_app seal_app recover_app replies_app told_app waiting_app pickup_app history_app avs_app reconcile_app compare_app carry_app changes_app why_app explain_app season_app horizon_app clap_on_literals
returns-clause-feed c = record { taken = refl; found = refl }

pub returns-clause-recover : goal.returns-clause-recover
unfolding seatdesk_app asking_app selling_app bare_app named_app ladder_app check_app flights_app cover_app rooms_app loads_app run_app serve_app route_app bookings_app audit_app seal_app recover_app replies_app told_app waiting_app pickup_app history_app avs_app reconcile_app compare_app carry_app changes_app why_app explain_app season_app horizon_app clap_on_literals
returns-clause-recover c = record { taken = refl; found = refl }

pub returns-clause-season : goal.returns-clause-season
unfolding seatdesk_app asking_app selling_app bare_app named_app ladder_app check_app flights_app cover_app rooms_app loads_app run_app serve_app route_app bookings_app audit_app seal_app recover_app replies_app told_app waiting_app pickup_app history_app avs_app reconcile_app compare_app carry_app changes_app why_app explain_app season_app horizon_app clap_on_literals
returns-clause-season c = record { taken = refl; found = refl }

pub returns-clause-avs : goal.returns-clause-avs
unfolding seatdesk_app asking_app selling_app bare_app named_app ladder_app check_app flights_app cover_app rooms_app loads_app run_app serve_app route_app bookings_app audit_app seal_app recover_app replies_app told_app waiting_app pickup_app history_app avs_app reconcile_app compare_app carry_app changes_app why_app explain_app season_app horizon_app clap_on_literals
returns-clause-avs c = record { taken = refl; found = refl }

pub returns-clause-since : goal.returns-clause-since
unfolding seatdesk_app asking_app selling_app bare_app named_app ladder_app check_app flights_app cover_app rooms_app loads_app run_app serve_app route_app bookings_app audit_app seal_app recover_app replies_app told_app waiting_app pickup_app history_app avs_app reconcile_app compare_app carry_app changes_app why_app explain_app season_app horizon_app clap_on_literals
returns-clause-since c = record { taken = refl; found = refl }

pub returns-clause-reconcile : goal.returns-clause-reconcile
unfolding seatdesk_app asking_app selling_app bare_app named_app ladder_app check_app flights_app cover_app rooms_app loads_app run_app serve_app route_app bookings_app audit_app seal_app recover_app replies_app told_app waiting_app pickup_app history_app avs_app reconcile_app compare_app carry_app changes_app why_app explain_app season_app horizon_app clap_on_literals
returns-clause-reconcile c = record { taken = refl; found = refl }

pub returns-clause-compare : goal.returns-clause-compare
unfolding seatdesk_app asking_app selling_app bare_app named_app ladder_app check_app flights_app cover_app rooms_app loads_app run_app serve_app route_app bookings_app audit_app seal_app recover_app replies_app told_app waiting_app pickup_app history_app avs_app reconcile_app compare_app carry_app changes_app why_app explain_app season_app horizon_app clap_on_literals
returns-clause-compare c = record { taken = refl; found = refl }

pub returns-clause-wanted : goal.returns-clause-wanted
unfolding seatdesk_app asking_app selling_app bare_app named_app ladder_app check_app flights_app cover_app rooms_app loads_app run_app serve_app route_app bookings_app audit_app seal_app recover_app replies_app told_app waiting_app pickup_app history_app avs_app reconcile_app compare_app carry_app changes_app why_app explain_app season_app horizon_app clap_on_literals
returns-clause-wanted c = record { taken = refl; found = refl }

pub returns-clause-quiet : goal.returns-clause-quiet
unfolding seatdesk_app asking_app selling_app bare_app named_app ladder_app check_app flights_app cover_app rooms_app loads_app run_app serve_app route_app bookings_app audit_app seal_app recover_app replies_app told_app waiting_app pickup_app history_app avs_app reconcile_app compare_app carry_app changes_app why_app explain_app season_app horizon_app clap_on_literals
returns-clause-quiet c = record { taken = refl; found = refl }

pub returns-clause-carry : goal.returns-clause-carry
unfolding seatdesk_app asking_app selling_app bare_app named_app ladder_app check_app flights_app cover_app rooms_app loads_app run_app serve_app route_app bookings_app audit_app seal_app recover_app replies_app told_app waiting_app pickup_app history_app avs_app reconcile_app compare_app carry_app changes_app why_app explain_app season_app horizon_app clap_on_literals
returns-clause-carry c = record { taken = refl; found = refl }

pub returns-clause-joined : goal.returns-clause-joined
unfolding seatdesk_app asking_app selling_app bare_app named_app ladder_app check_app flights_app cover_app rooms_app loads_app run_app serve_app route_app bookings_app audit_app seal_app recover_app replies_app told_app waiting_app pickup_app history_app avs_app reconcile_app compare_app carry_app changes_app why_app explain_app season_app horizon_app clap_on_literals
returns-clause-joined c = record { taken = refl; found = refl }

pub returns-clause-sharded : goal.returns-clause-sharded
unfolding seatdesk_app asking_app selling_app bare_app named_app ladder_app check_app flights_app cover_app rooms_app loads_app run_app serve_app route_app bookings_app audit_app seal_app recover_app replies_app told_app waiting_app pickup_app history_app avs_app reconcile_app compare_app carry_app changes_app why_app explain_app season_app horizon_app clap_on_literals
returns-clause-sharded c = record { taken = refl; found = refl }

pub returns-clause-trial : goal.returns-clause-trial
unfolding seatdesk_app asking_app selling_app bare_app named_app ladder_app check_app flights_app cover_app rooms_app loads_app run_app serve_app route_app bookings_app audit_app seal_app recover_app replies_app told_app waiting_app pickup_app history_app avs_app reconcile_app compare_app carry_app changes_app why_app explain_app season_app horizon_app clap_on_literals
returns-clause-trial c = record { taken = refl; found = refl }

pub returns-clause-protected : goal.returns-clause-protected
unfolding seatdesk_app asking_app selling_app bare_app named_app ladder_app check_app flights_app cover_app rooms_app loads_app run_app serve_app route_app bookings_app audit_app seal_app recover_app replies_app told_app waiting_app pickup_app history_app avs_app reconcile_app compare_app carry_app changes_app why_app explain_app season_app horizon_app clap_on_literals
returns-clause-protected c = record { taken = refl; found = refl }

pub returns-clause-route : goal.returns-clause-route
unfolding seatdesk_app asking_app selling_app bare_app named_app ladder_app check_app flights_app cover_app rooms_app loads_app run_app serve_app route_app bookings_app audit_app seal_app recover_app replies_app told_app waiting_app pickup_app history_app avs_app reconcile_app compare_app carry_app changes_app why_app explain_app season_app horizon_app clap_on_literals
returns-clause-route c = record { taken = refl; found = refl }

pub returns-clause-together : goal.returns-clause-together
unfolding seatdesk_app asking_app selling_app bare_app named_app ladder_app check_app flights_app cover_app rooms_app loads_app run_app serve_app route_app bookings_app audit_app seal_app recover_app replies_app told_app waiting_app pickup_app history_app avs_app reconcile_app compare_app carry_app changes_app why_app explain_app season_app horizon_app clap_on_literals
returns-clause-together c = record { taken = refl; found = refl }

pub returns-clause-waiters : goal.returns-clause-waiters
unfolding seatdesk_app asking_app selling_app bare_app named_app ladder_app check_app flights_app cover_app rooms_app loads_app run_app serve_app route_app bookings_app audit_app seal_app recover_app replies_app told_app waiting_app pickup_app history_app avs_app reconcile_app compare_app carry_app changes_app why_app explain_app season_app horizon_app clap_on_literals
returns-clause-waiters c = record { taken = refl; found = refl }
