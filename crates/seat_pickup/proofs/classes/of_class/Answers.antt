use Rattle.std.proofs.Common.{refl}
use Rattle.seat_pickup.specs.declared.classes.Pickup.{Pickup}
use Rattle.seat_pickup.proofs.Picking.{pickup_is}
use Rattle.seat_pickup.proofs.classes.of_class.Goals as goal

pub returns : goal.returns
returns c =
    let made : Pickup = record {
      flight = c.args.index;
      name = c.name_of.result;
      class = c.args.class;
      before = c.in_ok-sums.sums.before;
      sold = c.in_ok-sums.sums.sold;
      cancelled = c.in_ok-sums.sums.cancelled;
      confirmed = c.in_ok-sums.sums.confirmed;
      held = c.in_ok-sums.sums.held;
    } in
    pickup_is c.args.core.now.grid c.args.core.now.journal c.args.lines c.args.moves.now.split c.args.index c.args.flight.now c.args.class c.letter.result c.in_ok-sums.sums made
    c.requires.classes c.letter.ensures.value c.in_ok-sums.ensures refl c.name_of.ensures.airline c.name_of.ensures.number c.name_of.ensures.suffix refl refl refl refl refl refl
