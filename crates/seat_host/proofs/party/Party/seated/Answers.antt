use Rattle.std.proofs.Common.{List, length, take, sym, subst}
use Rattle.seat_journal.specs.declared.entry.Entry.{Entry}
use Rattle.seat_rules.specs.Histories.{of_session}
use Rattle.seat_host.specs.Sessions.{KeepsLines}
use Rattle.seat_host.proofs.Keeping.{given_all}
use Rattle.seat_host.proofs.Opening.{stands_seated}
use Rattle.seat_host.proofs.party.Party.seated.Goals as goal

pub invariant_of-result : goal.invariant_of-result
invariant_of-result g c =
    let own : List Entry = of_session c.args.id c.args.viewer.front in
    let all = given_all c.args.receipts own c.requires.receipts in (
      c.requires.viewer.0,
      c.requires.viewer.1,
      c.requires.stake,
      stands_seated g.K.Hosting.grid g.K.Hosting.sessions c.args.id (take (length c.args.receipts.numbers) own) c.args.viewer.front c.requires.number.0 c.requires.number.1 c.requires.legal.0 c.requires.legal.1 all,
      subst (KeepsLines c.args.receipts) (sym all) c.requires.receipts,
    )
