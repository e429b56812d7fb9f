use Rattle.std.proofs.Common.{List, Option, ℕ, subst}
use Rattle.std.specs.Prelude.{IfOk}
use Rattle.desk_hall.specs.Halls.{Hallful, IsToldBy, IsToldTo}
use Rattle.desk_hall.specs.Telling.{IsTurn}
use Rattle.desk_hall.specs.declared.turn.Turn.{Turn}
use Rattle.seat_desk.specs.FlightsDesk.{IsText}
use Rattle.seat_replies.specs.RunDesk.{at_any}
use Rattle.desk_hall.proofs.hall.Hall.told.Goals as goal

pub returns-clause-told : goal.returns-clause-told
returns-clause-told g c =
    subst (λ (h : Hallful g.row.D.Denot). IfOk c.told_by.result (λ text. IsToldTo h c.args.session text.items))
    c.self.view_is
    (subst (λ (b : Option ℕ). IfOk c.told_by.result (λ text. IsToldBy b (IsText (at_any (IsTurn c.self.inside.flights.now c.self.inside.serving.grid c.self.inside.serving.journal c.args.session)) 0 c.self.inside.turns.items) text.items))
    c.backlog_of.ensures
    (subst (λ (l : List Turn). IfOk c.told_by.result (λ text. IsToldBy c.backlog_of.result (IsText (at_any (IsTurn c.self.inside.flights.now c.self.inside.serving.grid c.self.inside.serving.journal c.args.session)) 0 l) text.items))
    c.as_slice.ensures.value c.told_by.ensures))
