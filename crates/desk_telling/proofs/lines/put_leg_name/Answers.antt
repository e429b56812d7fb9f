use Rattle.std.proofs.Common.{ap, ◌∙◌, ◌++◌, List, ℕ}
use Rattle.desk_telling.proofs.Spelling.{leg_name_put}
use Rattle.desk_telling.proofs.lines.put_leg_name.Goals as goal

pub returns-clause-text : goal.returns-clause-text
returns-clause-text c =
    let d = c.bytes.ensures in
    leg_name_put c.args.flight.now c.args.leg.now c.args.line.now.items c.put.new.text.items c.put_number.new.text.items c.put_suffix.new.line.items c.put-2.new.text.items
    c.bytes.result c.put-3.new.text.items c.put-4.new.text.items c.put-5.new.text.items c.put-6.new.text.items
    (c.put.ensures.text ∙ ap (λ (l : List ℕ). c.args.line.now.items ++ l) c.characters.ensures.value) c.put_number.ensures.text c.put_suffix.ensures.text c.put-2.ensures.text
    (record { year = d.year; month = d.month; day = d.day; date = d.date; written = d.written }) c.put-3.ensures.text c.put-4.ensures.text
    (c.put-5.ensures.text ∙ ap (λ (l : List ℕ). c.put-4.new.text.items ++ l) c.letters.ensures.value)
    (c.put-6.ensures.text ∙ ap (λ (l : List ℕ). c.put-5.new.text.items ++ l) c.letters-2.ensures.value)
