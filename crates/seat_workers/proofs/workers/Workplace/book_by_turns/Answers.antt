use Rattle.std.proofs.Common.{◌≡◌, ◌++◌, List, rules}
use Rattle.std.specs.Prelude.{map}
use Rattle.seat_journal.specs.declared.entry.Work.{Work}
use Rattle.seat_workers.specs.Working.{Asks, IsRefused}
use Rattle.seat_workers.proofs.Working.{all_back, all_front, asks_later, cut_there, at_more, at_refused}
use Rattle.seat_workers.proofs.workers.Workplace.book_by_turns.Goals as goal

pub take_turn-requires-clause-asks : goal.take_turn-requires-clause-asks
take_turn-requires-clause-asks g c κs within =
    let next : List Work = map g.J.Asking.asks c.split_at.result.0.now in
    let later : List Work = map g.J.Asking.asks c.split_at.result.1.now in
    let left : List Work = map g.J.Asking.asks c.loop-left.left.now in
    let parts : left ≡ next ++ later = cut_there g.J.Asking.asks c.loop-left.left.now c.split_at.result.0.now c.split_at.result.1.now c.min.result c.split_at.ensures.front c.split_at.ensures.back in
    all_front (Asks g.K.Hosting.grid c.loop-left.party.id) left next later parts c.loop-left.invariant.asks

pub returns-in_err-take_turn-clause-refused : goal.returns-in_err-take_turn-clause-refused
returns-in_err-take_turn-clause-refused g c =
    let list : List Work = map g.J.Asking.asks c.args.list.now in
    let next : List Work = map g.J.Asking.asks c.split_at.result.0.now in
    let later : List Work = map g.J.Asking.asks c.split_at.result.1.now in
    let left : List Work = map g.J.Asking.asks c.loop-left.left.now in
    let parts : left ≡ next ++ later = cut_there g.J.Asking.asks c.loop-left.left.now c.split_at.result.0.now c.split_at.result.1.now c.min.result c.split_at.ensures.front c.split_at.ensures.back in
    let here : IsRefused g.K.Hosting.grid g.K.Hosting.book g.K.Hosting.cap c.in_err-take_turn.field-0.0 list c.args.party.now c.take_turn.new.party =
    at_refused g.K.Hosting.grid g.K.Hosting.book g.K.Hosting.cap c.in_err-take_turn.field-0.0 list left next later c.args.party.now c.loop-left.party c.take_turn.new.party parts c.loop-left.invariant.at c.in_err-take_turn.ensures.refused in
    search rules

pub loop-left-preserved : goal.loop-left-preserved
loop-left-preserved g c =
    let list : List Work = map g.J.Asking.asks c.args.list.now in
    let next : List Work = map g.J.Asking.asks c.split_at.result.0.now in
    let later : List Work = map g.J.Asking.asks c.split_at.result.1.now in
    let left : List Work = map g.J.Asking.asks c.loop-left.left.now in
    let parts : left ≡ next ++ later = cut_there g.J.Asking.asks c.loop-left.left.now c.split_at.result.0.now c.split_at.result.1.now c.min.result c.split_at.ensures.front c.split_at.ensures.back in
    record {
      at = at_more list left next later c.args.party.now c.loop-left.party c.take_turn.new.party parts c.loop-left.invariant.at c.in_ok-take_turn.ensures.ok;
      asks = asks_later g.K.Hosting.grid next later c.loop-left.party c.take_turn.new.party c.in_ok-take_turn.ensures.ok (all_back (Asks g.K.Hosting.grid c.loop-left.party.id) left next later parts c.loop-left.invariant.asks);
    }
