use Rattle.std.proofs.Common.{ℕ, arith, subst, sym, zero-add}
use Rattle.seat_pickup.specs.Pairs.{pairs_at}
use Rattle.seat_pickup.specs.Pickups.{moved_behind}
use Rattle.seat_tables.specs.Sheets.{ArePut}
use Rattle.seat_tables.proofs.Putting.{put_more, put_none, put_whole}
use Rattle.pickup_questions.specs.PairRows.{pair_names, rows_of_pair}
use Rattle.pickup_questions.proofs.by_pair.put_pairs.Goals as goal

pub loop-number-init : goal.loop-number-init
loop-number-init c = put_none pair_names c.args.sheet.now c.requires.ready

pub loop-number-preserved : goal.loop-number-preserved
loop-number-preserved c =
    let rows = rows_of_pair (moved_behind c.args.core.now.grid c.args.core.now.journal c.args.lines (pairs_at c.args.moves.now.pairing)) in
    put_more pair_names rows 0 c.loop-number.number c.args.pairs.now c.index-pairs-place.result c.args.sheet.now c.loop-number.sheet c.put_pair.new.sheet
    c.loop-number.invariant (omega (arith, c.loop-number-test.true, c.requires.count)) c.index-pairs-place.is
    (subst (λ (k : ℕ). ArePut pair_names (rows k c.index-pairs-place.result) c.loop-number.sheet c.put_pair.new.sheet) (sym (zero-add c.loop-number.number)) c.in_ok-put_pair.ensures)

pub returns : goal.returns
returns c =
    put_whole pair_names (rows_of_pair (moved_behind c.args.core.now.grid c.args.core.now.journal c.args.lines (pairs_at c.args.moves.now.pairing))) 0 c.loop-number.number c.args.pairs.now c.args.sheet.now c.loop-number.sheet
    c.loop-number.invariant (omega (arith, c.loop-number-test.false, c.requires.count))
