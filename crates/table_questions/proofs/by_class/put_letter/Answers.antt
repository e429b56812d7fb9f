use Rattle.std.proofs.Common.{ℕ, OnOk, ◌∙◌, subst, sym}
use Rattle.std.specs.Char.{is_ascii_uppercase}
use Rattle.seat_rules.specs.Inventory.{state_now}
use Rattle.seat_tables.specs.Sheets.{ArePut}
use Rattle.table_questions.specs.SumRows.{class_names, sums_of_class}
use Rattle.table_questions.proofs.Classes.{is_letter, same_class}
use Rattle.table_questions.proofs.by_class.put_letter.Goals as goal

pub returns-in-Some : goal.returns-in-Some
returns-in-Some c =
    subst (λ (n : ℕ). OnOk c.put_class.result (ArePut class_names (sums_of_class c.args.asked.now (state_now c.args.core.now) c.args.flights.now n) c.args.sheet.now c.put_class.new.sheet))
    (same_class c.args.letter c.in-Some.class (is_ascii_uppercase c.args.letter) (is_letter c.args.letter c.requires.from c.requires.to) (sym c.in-Some.is ∙ c.new.ensures))
    c.put_class.ensures
