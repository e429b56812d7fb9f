use Rattle.std.proofs.Common.{ℕ, ◌≡◌, arith, subst}
use Rattle.seat_rules.specs.Inventory.{state_now}
use Rattle.seat_tables.specs.Sheets.{ArePut}
use Rattle.seat_tables.proofs.Putting.{put_none}
use Rattle.table_questions.specs.SumRows.{class_names, class_sums, rows_of_each, sums_of_class}
use Rattle.table_questions.proofs.Days.{day_more}
use Rattle.table_questions.proofs.by_class.ClassSumsTable.put_rows.Goals as goal

pub loop-i-init : goal.loop-i-init
loop-i-init c = record { rows = put_none class_names c.args.sheet.now c.requires.ready; within = omega arith }

pub loop-i-preserved : goal.loop-i-preserved
loop-i-preserved c = record {
  rows =
      day_more class_names (sums_of_class c.args.self.now.loads (state_now c.args.core.now) c.args.flights.now) c.loop-i.i 65 c.args.sheet.now c.loop-i.sheet c.put_letter.new.sheet
      c.loop-i.invariant.rows c.in_ok-put_letter.ensures;
  within = omega (arith, c.loop-i-test.true);
}

pub returns : goal.returns
unfolding class_sums
returns c =
    let all : c.loop-i.i ≡ 26 = omega (arith, c.loop-i.invariant.within, c.loop-i-test.false) in
    subst (λ (n : ℕ). ArePut class_names (rows_of_each (sums_of_class c.args.self.now.loads (state_now c.args.core.now) c.args.flights.now) n 65) c.args.sheet.now c.loop-i.sheet) all
    c.loop-i.invariant.rows
