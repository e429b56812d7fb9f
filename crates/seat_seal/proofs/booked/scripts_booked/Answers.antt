use Rattle.std.proofs.Common.{List, IsPermutation, ap, subst, ◌∙◌}
use Rattle.std.specs.List.{flat_map}
use Rattle.std.proofs.lemmas.List.{take_all}
use Rattle.seat_seal.specs.Booked.{scripts_of}
use Rattle.seat_seal.specs.declared.imprint.Imprint.{Imprint}
use Rattle.seat_seal.proofs.Adding.{more_booked}
use Rattle.seat_seal.proofs.booked.scripts_booked.Goals as goal

pub loop-run-preserved : goal.loop-run-preserved
loop-run-preserved c =
    more_booked (scripts_of c.args.lines) c.args.runs.now c.loop-run.run-index c.run-item.result c.loop-run.booked.items c.add_scripts.new.booked.items c.loop-run-test.true
    c.run-item.is c.loop-run.invariant c.in_ok-add_scripts.ensures

pub returns-clause-all : goal.returns-clause-all
returns-clause-all c =
    subst (λ (xs : List Imprint). IsPermutation xs c.in_order.result)
    (c.loop-run.invariant ∙ ap (flat_map (scripts_of c.args.lines)) (take_all c.loop-run.run-index c.args.runs.now c.loop-run-test.false)) c.in_order.ensures.all

pub returns-clause-sorted : goal.returns-clause-sorted
returns-clause-sorted c = c.in_order.ensures.sorted
