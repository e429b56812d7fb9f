use Rattle.std.proofs.Common.{subst}
use Rattle.desk_stream.specs.Wanting.{IsRightWanted}
use Rattle.desk_stream.specs.declared.wanted.Wanted.{Wanted}
use Rattle.desk_stream.proofs.Wants.{row_wanted, seats_right}
use Rattle.desk_stream.proofs.wanted.asked_for.Goals as goal

pub returns-in-Seats-clause-right : goal.returns-in-Seats-clause-right
returns-in-Seats-clause-right g c =
    seats_right c.args.served.now c.args.serving.now.grid c.args.session c.in-Seats.wish c.asked_by.result c.requires.grid
    (subst (λ (w : Wanted). IsRightWanted c.args.served.now c.args.session w) c.in-Seats.is c.requires.right)
    c.requires.session c.asked_by.ensures

pub returns-in-Row-clause-right : goal.returns-in-Row-clause-right
returns-in-Row-clause-right g c =
    row_wanted c.args.served.now c.args.serving.now.grid c.args.session c.in-Row.control c.work.result c.requires.grid
    (subst (λ (w : Wanted). IsRightWanted c.args.served.now c.args.session w) c.in-Row.is c.requires.right)
    c.work.ensures
