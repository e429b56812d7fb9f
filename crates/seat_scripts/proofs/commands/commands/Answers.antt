use Rattle.std.proofs.Common.{arith}
use Rattle.seat_scripts.proofs.Whole.{command_more, commands_whole}
use Rattle.seat_scripts.proofs.commands.commands.Goals as goal

pub loop-request-init : goal.loop-request-init
loop-request-init c = c.in_ok-commands.ensures.items

pub loop-request-preserved : goal.loop-request-preserved
loop-request-preserved c =
    command_more c.args.served.now c.args.requests.now c.loop-request.request-index c.request-item.result c.command_of.result
    c.loop-request.commands.items c.push.new.self.items c.loop-request.invariant c.loop-request-test.true c.request-item.is
    c.command_of.ensures c.in_ok-push.ensures.items

pub returns : goal.returns
returns c =
    commands_whole c.args.served.now c.args.requests.now c.loop-request.request-index c.loop-request.commands.items c.from_vec.result
    c.loop-request.invariant (omega (arith, c.loop-request-test.false)) c.from_vec.ensures
