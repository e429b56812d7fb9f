use Rattle.std.proofs.Common.{ℕ, ◌≡◌, arith, subst, sym, zero-add}
use Rattle.seat_tables.specs.Sheets.{ArePut}
use Rattle.seat_tables.proofs.Putting.{put_none}
use Rattle.table_questions.specs.SumRows.{rows_of_each}
use Rattle.table_questions.proofs.Days.{day_more}
use Rattle.pickup_questions.specs.Groups.{group_of}
use Rattle.pickup_questions.specs.GroupRows.{day_names, rows_of_day, rows_on_day}
use Rattle.pickup_questions.proofs.by_day.put_days.Goals as goal

pub numbered-requires : goal.numbered-requires
numbered-requires c =
    (omega (arith, c.requires.bound.0), omega (arith, c.loop-i-test.true, c.requires.days))

pub loop-i-init : goal.loop-i-init
loop-i-init c = record { rows = put_none day_names c.args.sheet.now c.requires.ready; within = omega arith }

pub loop-i-preserved : goal.loop-i-preserved
loop-i-preserved c = record {
  rows =
      day_more day_names (rows_of_day (group_of c.args.moved.now.groups) c.args.first c.args.moved.now.all.now) c.loop-i.i 0 c.args.sheet.now c.loop-i.sheet c.put_day.new.sheet
      c.loop-i.invariant.rows
      (subst (λ (k : ℕ). ArePut day_names (rows_of_day (group_of c.args.moved.now.groups) c.args.first c.args.moved.now.all.now k) c.loop-i.sheet c.put_day.new.sheet) (sym (zero-add c.loop-i.i))
      (subst (λ (d : ℕ). ArePut day_names (rows_on_day (group_of c.args.moved.now.groups) c.args.moved.now.all.now c.loop-i.i d) c.loop-i.sheet c.put_day.new.sheet) c.numbered.ensures c.in_ok-put_day.ensures));
  within = omega (arith, c.loop-i-test.true);
}

pub returns : goal.returns
returns c =
    let all : c.loop-i.i ≡ c.args.count = omega (arith, c.loop-i.invariant.within, c.loop-i-test.false) in
    subst (λ (n : ℕ). ArePut day_names (rows_of_each (rows_of_day (group_of c.args.moved.now.groups) c.args.first c.args.moved.now.all.now) n 0) c.args.sheet.now c.loop-i.sheet) all
    c.loop-i.invariant.rows
