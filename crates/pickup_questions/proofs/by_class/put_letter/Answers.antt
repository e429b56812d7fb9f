use Rattle.std.proofs.Common.{ℕ, OnOk, ◌∙◌, subst, sym}
use Rattle.std.specs.Char.{is_ascii_uppercase}
use Rattle.seat_tables.specs.Sheets.{ArePut}
use Rattle.pickup_questions.specs.GroupRows.{class_names, rows_of_class}
use Rattle.pickup_questions.proofs.Lettering.{is_letter, same_class}
use Rattle.pickup_questions.proofs.by_class.put_letter.Goals as goal

pub returns-in-Some : goal.returns-in-Some
returns-in-Some c =
    subst (λ (n : ℕ). OnOk c.put_class.result (ArePut class_names (rows_of_class c.args.moved.now.all.now n) c.args.sheet.now c.put_class.new.sheet))
    (same_class c.args.letter c.in-Some.class (is_ascii_uppercase c.args.letter) (is_letter c.args.letter c.requires.from c.requires.to) (sym c.in-Some.is ∙ c.new.ensures))
    c.put_class.ensures
