use Rattle.std.proofs.Common.{◌∙◌, sym}
use Rattle.seat_seal.proofs.Calendar.{day_is}
use Rattle.seat_seal.proofs.date.Date.day.Goals as goal

pub returns : goal.returns
returns c = day_is c.args.self.now c.of.result (sym c.is_of_century.ensures ∙ c.if-not-is_of_century.false) c.of.ensures.valid.1 c.of.ensures.value
