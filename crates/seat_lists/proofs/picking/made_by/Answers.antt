use Rattle.std.proofs.Common.{ap, subst, sym, ◌∙◌}
use Rattle.seat_rules.specs.Applying.{IsOrdered}
use Rattle.seat_rules.specs.Inventory.{state_now}
use Rattle.seat_lists.specs.Picking.{numbered}
use Rattle.seat_lists.proofs.Picks.{in_order, line_asked, line_unasked, made_found, made_none}
use Rattle.seat_lists.proofs.picking.made_by.Goals as goal

pub with_number-requires : goal.with_number-requires
with_number-requires c = subst IsOrdered (sym c.bookings_on.ensures) (in_order c.args.core.now.grid c.args.core.now.journal c.in-Some.place.flight c.requires.legal)

pub returns-in-Some-clause-found : goal.returns-in-Some-clause-found
returns-in-Some-clause-found c =
    made_found c.with_number.result (numbered c.args.line.now.number (state_now c.args.core.now).bookings) (numbered c.args.line.now.number c.bookings_on.result.now)
    (line_asked c.args.core.now.grid c.args.core.now.journal c.args.line.now c.in-Some.place c.requires.legal c.requires.line (sym c.place_asked.ensures ∙ c.in-Some.is)
    ∙ ap (numbered c.args.line.now.number) (sym c.bookings_on.ensures)) c.with_number.ensures.found

pub returns-in-Some-clause-none : goal.returns-in-Some-clause-none
returns-in-Some-clause-none c =
    made_none c.with_number.result (numbered c.args.line.now.number (state_now c.args.core.now).bookings) (numbered c.args.line.now.number c.bookings_on.result.now)
    (line_asked c.args.core.now.grid c.args.core.now.journal c.args.line.now c.in-Some.place c.requires.legal c.requires.line (sym c.place_asked.ensures ∙ c.in-Some.is)
    ∙ ap (numbered c.args.line.now.number) (sym c.bookings_on.ensures)) c.with_number.ensures.none

pub returns-in-None-clause-none : goal.returns-in-None-clause-none
returns-in-None-clause-none c =
    line_unasked c.args.core.now.grid c.args.core.now.journal c.args.line.now c.requires.legal c.requires.line (sym c.place_asked.ensures ∙ c.in-None.is)
