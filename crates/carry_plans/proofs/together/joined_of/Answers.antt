use Rattle.carry_plans.proofs.AsOne.{made_of_read, stopped_unmade, unmade_of_read}
use Rattle.carry_plans.proofs.together.joined_of.Goals as goal

pub returns-in-Err-clause-fault : goal.returns-in-Err-clause-fault
returns-in-Err-clause-fault g c =
    stopped_unmade c.args.asked.now c.args.new.now.loaded.flights c.args.new.now.loaded.grid c.args.old.loaded.flights c.args.old.loaded.grid
    c.args.read.texts c.as_slice.result.now c.as_slice.ensures c.in-Err.fault c.in-Err.ensures.fault

pub returns-in-Ok-made_together-clause-made : goal.returns-in-Ok-made_together-clause-made
returns-in-Ok-made_together-clause-made g c =
    made_of_read c.args.asked.now c.args.new.now.loaded.flights c.args.new.now.loaded.grid c.args.old.loaded.flights c.args.old.loaded.grid
    c.args.read.texts c.as_slice.result.now c.as_slice.ensures c.in-Ok.joined.core c.in-Ok.joined.counts c.in-Ok.ensures.ok c.in-Ok.ensures.grid
    c.in-Ok.ensures.counts c.args.new.now.basis c.args.read.knowns c.in-Ok-made_together.carriage c.in-Ok.ensures.few
    c.in-Ok-made_together.ensures.made

pub returns-clause-fault : goal.returns-clause-fault
returns-clause-fault g c =
    unmade_of_read c.args.asked.now c.args.new.now.loaded.flights c.args.new.now.loaded.grid c.args.old.loaded.flights c.args.old.loaded.grid
    c.args.read.texts c.as_slice.result.now c.as_slice.ensures c.in-Ok.joined.core c.in-Ok.joined.counts c.in-Ok.ensures.ok c.in-Ok.ensures.grid
    c.in-Ok.ensures.counts c.in-Err-made_together.fault c.in-Err-made_together.ensures.fault
