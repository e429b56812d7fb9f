use Rattle.std.proofs.Common.{List, ◌++◌, ◌∙◌, ap, map}
use Rattle.std.proofs.lemmas.List.{take_all}
use Rattle.seat_seal.specs.Booked.{imprint_in}
use Rattle.seat_seal.specs.declared.scripts.Script.{Script}
use Rattle.seat_seal.proofs.Adding.{more_added}
use Rattle.seat_seal.proofs.booked.add_each.Goals as goal

pub loop-script-preserved : goal.loop-script-preserved
loop-script-preserved c =
    more_added c.args.scripts.now c.loop-script.script-index c.script-item.result c.args.booked.now.items c.loop-script.booked.items c.push.new.self.items
    c.loop-script-test.true c.script-item.is c.loop-script.invariant c.in_ok-push.ensures.items

pub returns : goal.returns
returns c =
    c.loop-script.invariant
    ∙ ap (λ (l : List Script). c.args.booked.now.items ++ map imprint_in l) (take_all c.loop-script.script-index c.args.scripts.now c.loop-script-test.false)
