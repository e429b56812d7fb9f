use Rattle.seat_rules.specs.Inventory.{state_now}
use Rattle.season_changes.proofs.Becoming.{old_compared}
use Rattle.season_changes.proofs.changes.add_compared.Goals as goal

pub returns : goal.returns
returns c =
    old_compared c.args.asked.now c.args.core.now.grid c.grid.result.now (state_now c.args.core.now).bookings c.args.i c.args.flight.now c.args.numbers.now
    c.args.name c.number_of.result c.what_becomes-what.result c.held_on.result c.waiting_on.result c.args.all.now.items c.add.new.all.items
    c.requires.numbers c.number_of.ensures c.grid.ensures c.what_becomes-what.ensures c.held_on.ensures c.waiting_on.ensures c.in_ok-add.ensures
