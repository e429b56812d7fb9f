use Rattle.season_changes.proofs.Becoming.{new_named}
use Rattle.season_changes.proofs.changes.add_if_new.Goals as goal

pub returns : goal.returns
returns c =
    new_named c.args._flights.now c.args.numbers.now c.args.name c.number_of.result c.what_added-what.result c.args.all.now.items c.add.new.all.items
    c.requires.numbers c.number_of.ensures c.what_added-what.ensures c.in_ok-add.ensures
