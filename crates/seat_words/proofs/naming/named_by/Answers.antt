use Rattle.seat_words.proofs.naming.named_by.Goals as goal

pub returns : goal.returns
returns c = c.named_among.ensures
