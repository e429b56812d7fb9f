use Rattle.std.proofs.Common.{append_assoc}
use Rattle.desk_telling.proofs.lines.put_sale.Goals as goal

pub returns-clause-text : goal.returns-clause-text
returns-clause-text c =
    rw (c.put-5.ensures.text, c.letters.ensures.value, c.put-4.ensures.text, c.put-3.ensures.text, c.sale_word.ensures.value, c.put-2.ensures.text, c.put.ensures.text, c.scope_letter.ensures)
    (simp append_assoc)
