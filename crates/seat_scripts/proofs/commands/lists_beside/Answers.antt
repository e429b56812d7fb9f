use Rattle.std.proofs.Common.{map}
use Rattle.seat_replies.specs.Requests.{commands_of}
use Rattle.seat_scripts.proofs.SideBySide.{all_found, on_ok}
use Rattle.seat_scripts.proofs.commands.lists_beside.Goals as goal

pub returns : goal.returns
returns g c =
    on_ok c.all_of.result
    (λ lists is. all_found lists.items (map (commands_of c.args.served.now) c.args.scripts.now) c.in_ok-found.found.items c.in_ok-found.ensures is)
    c.all_of.ensures
