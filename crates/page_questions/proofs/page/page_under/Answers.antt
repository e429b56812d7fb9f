use Rattle.std.proofs.Common.{refl}
use Rattle.seat_rules.specs.Inventory.{state_now}
use Rattle.page_questions.proofs.Paging.{section_more}
use Rattle.page_questions.proofs.page.page_under.Goals as goal

pub loop-i-preserved : goal.loop-i-preserved
loop-i-preserved c =
    section_more c.args.asked.now (state_now c.args.core.now) c.args.flights.now c.args.first c.args.heads.now c.loop-i.i _
    c.loop-i.text.items c.put_letter.new.text.items c.loop-i.invariant c.loop-i-test.true refl c.in_ok-put_letter.ensures
