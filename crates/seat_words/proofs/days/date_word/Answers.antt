use Rattle.std.proofs.Common.{◌∙◌, ap}
use Rattle.seat_words.specs.DayWords.{date_word_in}
use Rattle.seat_words.proofs.DayLaws.{date_again}
use Rattle.seat_words.proofs.days.date_word.Goals as goal

pub returns-clause-only : goal.returns-clause-only
returns-clause-only c = λ n h. c.read_date.ensures ∙ ap date_word_in c.as_bytes.ensures.value ∙ date_again c.args.word.now n h
