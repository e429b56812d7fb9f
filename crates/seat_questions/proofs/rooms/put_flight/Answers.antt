use Rattle.std.proofs.Common.{ℕ, subst, sym, zero-add}
use Rattle.seat_rules.specs.Inventory.{state_now}
use Rattle.seat_desk.proofs.Texts.{put_more}
use Rattle.seat_questions.specs.Rooms.{IsFirstPart}
use Rattle.seat_questions.proofs.rooms.put_flight.Goals as goal

pub loop-from-preserved : goal.loop-from-preserved
loop-from-preserved c =
    let runs = c.in_ok-put_runs.ensures in
    put_more (IsFirstPart c.args.served.now c.args.asked.now (state_now c.args.core.now) c.args.index c.args.flight.now) 0 c.loop-from.from c.as_slice-legs.result.now c.index-legs-from.result c.args.text.now.items c.loop-from.text.items
    c.put_runs.new.text.items runs.part c.loop-from.invariant c.loop-from-test.true c.index-legs-from.is
    (subst (λ (k : ℕ). IsFirstPart c.args.served.now c.args.asked.now (state_now c.args.core.now) c.args.index c.args.flight.now k c.index-legs-from.result runs.part) (sym (zero-add c.loop-from.from)) runs.is_text) runs.written
