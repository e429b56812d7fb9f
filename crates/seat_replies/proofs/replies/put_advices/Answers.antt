use Rattle.std.proofs.Common.{List, subst, sym}
use Rattle.seat_replies.proofs.Common.{Advice}
use Rattle.seat_desk.specs.FlightsDesk.{IsPut}
use Rattle.seat_desk.proofs.Texts.{put_none, put_whole}
use Rattle.seat_replies.specs.Answering.{AreBooked}
use Rattle.seat_replies.specs.RunDesk.{IsAdviceLine, at_any}
use Rattle.seat_replies.proofs.Parts.{advice_booked, advices_more}
use Rattle.seat_replies.proofs.replies.put_advices.Goals as goal

pub loop-advice-init : goal.loop-advice-init
loop-advice-init c = put_none (at_any (IsAdviceLine c.args.flights.now c.args.journal.now c.args.entry.now)) 0 c.args.text.now.items

pub put_advice-requires : goal.put_advice-requires
put_advice-requires c =
    advice_booked c.args.flights.now c.args.journal.now c.as_slice-advice-items.result.now c.loop-advice.advice-index c.advice-item.result
    (subst (λ (l : List Advice). AreBooked c.args.flights.now c.args.journal.now l) (sym c.as_slice-advice-items.ensures) c.requires) c.loop-advice-test.true c.advice-item.is

pub loop-advice-preserved : goal.loop-advice-preserved
loop-advice-preserved c =
    advices_more c.args.flights.now c.args.journal.now c.args.entry.now c.loop-advice.advice-index c.as_slice-advice-items.result.now c.advice-item.result c.args.text.now.items c.loop-advice.text.items c.put_advice.new.text.items
    c.loop-advice.invariant c.loop-advice-test.true c.advice-item.is c.in_ok-put_advice.ensures

pub returns : goal.returns
returns c =
    let Is = at_any (IsAdviceLine c.args.flights.now c.args.journal.now c.args.entry.now) in
    subst (λ (l : List Advice). IsPut Is 0 l c.args.text.now.items c.loop-advice.text.items) c.as_slice-advice-items.ensures
    (put_whole Is 0 c.loop-advice.advice-index c.as_slice-advice-items.result.now c.args.text.now.items c.loop-advice.text.items c.loop-advice.invariant c.loop-advice-test.false)
