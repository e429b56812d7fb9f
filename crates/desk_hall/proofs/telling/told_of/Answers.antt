use Rattle.std.proofs.Common.{List, ℕ, [], ◌++◌, ◌∙◌, ap, subst, sym}
use Rattle.seat_desk.specs.FlightsDesk.{IsPut}
use Rattle.seat_desk.proofs.Texts.{put_none}
use Rattle.seat_replies.specs.RunDesk.{at_any}
use Rattle.desk_hall.specs.Telling.{IsTurn}
use Rattle.desk_hall.proofs.Told.{turn_more, turns_whole}
use Rattle.desk_hall.proofs.telling.told_of.Goals as goal

pub loop-turn-preserved : goal.loop-turn-preserved
loop-turn-preserved g c =
    turn_more c.args.flights.now c.args.serving.now.grid c.args.serving.now.journal c.args.session c.loop-turn.turn-index c.args.turns.now
    c.turn-item.result c.loop-turn.text.items c.in_ok-part.part.items c.extend_from_slice.new.self.items c.loop-turn.invariant
    c.loop-turn-test.true c.turn-item.is c.in_ok-part.ensures
    (c.in_ok-extend_from_slice.ensures.items ∙ ap (λ (l : List ℕ). c.loop-turn.text.items ++ l) c.as_slice.ensures.value)

pub loop-turn-init : goal.loop-turn-init
loop-turn-init g c =
    let is = at_any (IsTurn c.args.flights.now c.args.serving.now.grid c.args.serving.now.journal c.args.session) in
    subst (λ (l : List ℕ). IsPut is 0 [] [] l) (sym c.new-text.ensures.items) (put_none is 0 [])

pub returns : goal.returns
returns g c =
    turns_whole c.args.flights.now c.args.serving.now.grid c.args.serving.now.journal c.args.session c.loop-turn.turn-index c.args.turns.now
    c.loop-turn.text.items c.loop-turn.invariant c.loop-turn-test.false
