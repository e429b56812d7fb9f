use Rattle.std.proofs.Common.{append_assoc}
use Rattle.desk_telling.proofs.lines.put_limit.Goals as goal

pub returns-clause-text : goal.returns-clause-text
returns-clause-text c =
    rw (c.put-4.ensures.text, c.letters.ensures.value, c.put-3.ensures.text, c.put_number-2.ensures.text, c.put-2.ensures.text, c.put_number.ensures.text, c.put.ensures.text, c.letter.ensures.value)
    (simp append_assoc)
