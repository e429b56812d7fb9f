use Rattle.std.proofs.Common.{subst, take}
use Rattle.seat_seal.specs.Imprints.{HasTaken}
use Rattle.booked_texts.proofs.Taking.{taken_to}
use Rattle.booked_texts.proofs.beginning.Beginning.take_to.Goals as goal

pub returns-clause-at : goal.returns-clause-at
returns-clause-at c = record {
  within = c.requires.more.1;
  taken = subst (HasTaken c.take.new.self) (taken_to c.args.self.now.count c.args.count c.args.text.now c.requires.more.0)
      (c.take.ensures (take c.args.self.now.count c.args.text.now) c.requires.at.taken);
}
