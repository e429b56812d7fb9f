use Rattle.std.proofs.Common.{ℕ, List, [], subst, sym, zero-add}
use Rattle.seat_questions.proofs.Common.{Flight}
use Rattle.seat_rules.specs.Inventory.{state_now}
use Rattle.seat_desk.proofs.Texts.{put_more, put_none, text_whole}
use Rattle.seat_questions.specs.Rooms.{IsFlightPart}
use Rattle.seat_questions.proofs.Covers.{there, here}
use Rattle.seat_questions.proofs.RoomTexts.{legs_alike}
use Rattle.seat_questions.proofs.rooms.text_over.Goals as goal

pub loop-index-init : goal.loop-index-init
loop-index-init c = rw c.new-text.ensures.items (put_none (IsFlightPart c.args.flights.now c.args.asked.now (state_now c.args.core.now)) 0 [])

pub loop-index-preserved : goal.loop-index-preserved
loop-index-preserved c =
    let runs = c.in_ok-put_flight.ensures in
    let state = state_now c.args.core.now in
    let at_index : IsFlightPart c.args.flights.now c.args.asked.now state c.loop-index.index c.flight.result runs.part =
    subst (λ (l : List Flight). IsFlightPart l c.args.asked.now state c.loop-index.index c.flight.result runs.part) c.requires.served runs.is_text in
    put_more (IsFlightPart c.args.flights.now c.args.asked.now state) 0 c.loop-index.index c.args.flights.now c.flight.result [] c.loop-index.text.items c.put_flight.new.text.items runs.part
    c.loop-index.invariant (there c.args.flights.now c.loop-index.index c.flight.result c.flight.ensures.value) (here c.args.flights.now c.loop-index.index c.flight.result c.flight.ensures.value)
    (subst (λ (k : ℕ). IsFlightPart c.args.flights.now c.args.asked.now state k c.flight.result runs.part) (sym (zero-add c.loop-index.index)) at_index) runs.written

pub returns : goal.returns
returns c = text_whole (IsFlightPart c.args.flights.now c.args.asked.now (state_now c.args.core.now)) 0 c.loop-index.index c.len-index-end.result c.args.flights.now c.loop-index.text.items c.loop-index.invariant c.len-index-end.ensures.value c.loop-index-test.false

pub put_flight-requires-clause-few : goal.put_flight-requires-clause-few
put_flight-requires-clause-few c = c.flight.ensures.legs

pub put_flight-requires-clause-legs : goal.put_flight-requires-clause-legs
put_flight-requires-clause-legs c = legs_alike c.args.flights.now c.args.core.now.grid c.loop-index.index c.flight.result c.requires.grid c.flight.ensures.value
