use Rattle.seat_availability.specs.Answers.{told}
use Rattle.seat_availability.proofs.Answering.{text_whole}
use Rattle.seat_availability.proofs.availability.text_of.Goals as goal

pub returns : goal.returns
returns c =
    text_whole c.in_ok-all.all.items c.as_slice.result.now (told c.args.behind c.args.asked.now c.args.flights.now c.args.core.now.grid c.args.core.now.journal)
    c.new-text.result.items c.put_messages.new.text.items c.new-text.ensures.items c.in_ok-all.ensures c.as_slice.ensures.value c.in_ok-put_messages.ensures
