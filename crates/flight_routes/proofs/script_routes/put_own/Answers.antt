use Rattle.flight_routes.proofs.Openings.{one_put}
use Rattle.flight_routes.proofs.script_routes.put_own.Goals as goal

pub returns-clause-added : goal.returns-clause-added
returns-clause-added c =
    let d = c.of_segment.ensures in
    one_put c.args.way.shards c.args.way.session c.shard-shard.result c.args.begun.now c.in-Some.opening c.args.line c.args.words.now c.args.request.now c.in-Some-request.request c.of_segment.result c.args.text.now.items c.put_route.new.text.items c.in-Some.is c.in-Some-request.is c.requires.own d.airline d.number d.suffix c.shard-shard.ensures.value c.in_ok-put_route.ensures
