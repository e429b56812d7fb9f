use Rattle.carry_plans.specs.Joining.{text_of}
use Rattle.carry_plans.proofs.AsOne.{counted_texts, joined_texts, stopped_read, stopped_texts}
use Rattle.carry_plans.proofs.together.inventory_of.Goals as goal

pub returns-in-Ok-inventory_together-clause-ok : goal.returns-in-Ok-inventory_together-clause-ok
returns-in-Ok-inventory_together-clause-ok g c =
    joined_texts text_of c.as_mut_slice.result.now c.in-Ok.readers.items c.args.texts.now c.as_mut_slice.ensures.value c.in-Ok.ensures
    c.args.old.now.grid c.in-Ok-inventory_together.joined.core.journal c.in-Ok-inventory_together.ensures.ok

pub returns-in-Ok-inventory_together-clause-counts : goal.returns-in-Ok-inventory_together-clause-counts
returns-in-Ok-inventory_together-clause-counts g c =
    counted_texts text_of c.as_mut_slice.result.now c.in-Ok.readers.items c.args.texts.now c.as_mut_slice.ensures.value c.in-Ok.ensures
    c.in-Ok-inventory_together.joined.counts c.in-Ok-inventory_together.ensures.counts

pub returns-clause-fault : goal.returns-clause-fault
returns-clause-fault g c =
    stopped_read c.args.old.now.grid c.args.texts.now c.in-Err.fault c.of_journals.result c.of_journals.ensures
    (stopped_texts text_of c.as_mut_slice.result.now c.in-Ok.readers.items c.args.texts.now c.as_mut_slice.ensures.value c.in-Ok.ensures
    c.args.old.now.grid c.in-Err.fault c.in-Err.ensures.fault)
