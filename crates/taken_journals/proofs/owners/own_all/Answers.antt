use Rattle.std.proofs.Common.{◌∙◌, length, refl}
use Rattle.taken_journals.proofs.Owning.{owned_next, owned_none, owned_whole, within_at}
use Rattle.taken_journals.proofs.owners.own_all.Goals as goal

pub loop-entry-init : goal.loop-entry-init
loop-entry-init c = (owned_none c.args.place c.args.owners.now.items, refl)

pub own-requires : goal.own-requires
own-requires c =
    within_at (length c.args.owners.now.items) (length c.loop-entry.owners.items) c.args.entries.now c.loop-entry.entry-index c.entry-item.result
    c.requires c.loop-entry-test.true c.entry-item.is c.loop-entry.invariant.1

pub loop-entry-preserved : goal.loop-entry-preserved
loop-entry-preserved c = (
  owned_next c.args.place c.args.owners.now.items c.loop-entry.owners.items c.own.new.owners.items c.args.entries.now c.loop-entry.entry-index c.entry-item.result
      c.loop-entry-test.true c.entry-item.is c.loop-entry.invariant.0 c.own.ensures.owns,
  c.own.ensures.long ∙ c.loop-entry.invariant.1,
)

pub returns-clause-owns : goal.returns-clause-owns
returns-clause-owns c =
    owned_whole c.args.place c.args.owners.now.items c.loop-entry.owners.items c.args.entries.now c.loop-entry.entry-index c.loop-entry-test.false c.loop-entry.invariant.0

pub returns-clause-long : goal.returns-clause-long
returns-clause-long c = c.loop-entry.invariant.1
