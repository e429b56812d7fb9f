use Rattle.flight_routes.specs.ScriptRoutes.{message_of}
use Rattle.flight_routes.proofs.Openings.{put_stops}
use Rattle.flight_routes.proofs.script_routes.take_line.Goals as goal

pub returns-in-Err-put_own-clause-fault : goal.returns-in-Err-put_own-clause-fault
returns-in-Err-put_own-clause-fault c = put_stops c.numbered.result (message_of c.args.begun.now) c.message_of.result c.args.line c.args.words.now c.in-Ok.read.request c.in-Err-put_own.kind c.message_of.ensures c.in-Ok.ensures.asked c.in-Err-put_own.ensures.memory
