use Rattle.std.proofs.Common.{◌<◌, length, arith, rules}
use Rattle.std.specs.Prelude.{map}
use Rattle.seat_workers.specs.Working.{IsRefused}
use Rattle.seat_workers.proofs.Working.{asks_at, refused_at, run_at}
use Rattle.seat_workers.proofs.workers.Workplace.book_all.Goals as goal

pub book_next-requires-clause-asks : goal.book_next-requires-clause-asks
book_next-requires-clause-asks g c κs within =
    let below : c.loop-wish.wish-index < length c.args.list.now = omega (arith, c.loop-wish-test.true) in
    asks_at g.J.Asking.asks g.K.Hosting.grid _ c.args.list.now c.loop-wish.wish-index c.wish-item.result c.work.result c.args.party.now c.loop-wish.party below c.wish-item.is c.work.ensures c.requires.asks c.loop-wish.invariant

pub returns-in_err-book_next-clause-refused : goal.returns-in_err-book_next-clause-refused
returns-in_err-book_next-clause-refused g c =
    let below : c.loop-wish.wish-index < length c.args.list.now = omega (arith, c.loop-wish-test.true) in
    let here : IsRefused g.K.Hosting.grid g.K.Hosting.book g.K.Hosting.cap c.in_err-book_next.field-0.0 (map g.J.Asking.asks c.args.list.now) c.args.party.now c.book_next.new.party =
    refused_at g.J.Asking.asks g.K.Hosting.grid g.K.Hosting.book g.K.Hosting.cap c.in_err-book_next.field-0.0 c.args.list.now c.loop-wish.wish-index c.wish-item.result c.work.result c.args.party.now c.loop-wish.party c.book_next.new.party below c.wish-item.is c.work.ensures c.loop-wish.invariant c.in_err-book_next.ensures.refused in
    search rules

pub loop-wish-preserved : goal.loop-wish-preserved
loop-wish-preserved g c =
    let below : c.loop-wish.wish-index < length c.args.list.now = omega (arith, c.loop-wish-test.true) in
    run_at g.J.Asking.asks c.args.list.now c.loop-wish.wish-index c.wish-item.result c.work.result c.args.party.now c.loop-wish.party c.book_next.new.party below c.wish-item.is c.work.ensures c.loop-wish.invariant c.in_ok-book_next.ensures.ok
