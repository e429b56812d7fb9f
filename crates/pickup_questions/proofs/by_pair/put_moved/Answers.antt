use Rattle.std.proofs.Common.{List, OnOk, ◌∙◌, ap, subst}
use Rattle.seat_pickup.specs.Pickups.{moved_behind}
use Rattle.seat_pickup.specs.declared.pairing.Pairing.{Pairing}
use Rattle.seat_tables.specs.Sheets.{ArePut}
use Rattle.seat_tables.specs.declared.cell.Cell.{Cell}
use Rattle.pickup_questions.specs.PairRows.{pair_names}
use Rattle.pickup_questions.proofs.Pairing.{rows_are}
use Rattle.pickup_questions.proofs.by_pair.put_moved.Goals as goal

pub returns : goal.returns
returns c =
    subst (λ (rows : List (List Cell)). OnOk c.put_pairs.result (ArePut pair_names rows c.args.sheet.now c.put_pairs.new.sheet))
    (rows_are c.args.asked.now c.args.flights.now (moved_behind c.args.core.now.grid c.args.core.now.journal c.args.lines) c.deref.result.now c.deref-2.result.now
    c.in_ok-moves.moves.pairing (ap (λ (p : Pairing). p.asked) c.in_ok-moves.ensures.pairing) (ap (λ (p : Pairing). p.flights.now) c.in_ok-moves.ensures.pairing)
    (ap (λ (p : Pairing). p.pairs.now) c.in_ok-moves.ensures.pairing) (c.deref.ensures.value ∙ c.in_ok-pairs.ensures) (c.deref-2.ensures.value ∙ c.in_ok-pairs.ensures))
    c.put_pairs.ensures
