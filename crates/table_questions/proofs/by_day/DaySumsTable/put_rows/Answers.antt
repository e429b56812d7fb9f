use Rattle.std.proofs.Common.{ℕ, ◌+◌, arith, subst}
use Rattle.seat_rules.specs.Inventory.{state_now}
use Rattle.seat_tables.specs.Sheets.{ArePut}
use Rattle.seat_tables.proofs.Putting.{put_none}
use Rattle.table_questions.specs.SumRows.{day_names, sums_of_day}
use Rattle.table_questions.proofs.Days.{day_more, days_whole}
use Rattle.table_questions.proofs.by_day.DaySumsTable.put_rows.Goals as goal

pub numbered-requires : goal.numbered-requires
numbered-requires c =
    (omega (arith, c.days_from-first.ensures.bound.0), omega (arith, c.loop-i-test.true, c.saturating_sub-count.ensures, c.latest_of.ensures.bound))

pub loop-i-init : goal.loop-i-init
loop-i-init c = record { rows = put_none day_names c.args.sheet.now c.requires.ready; within = omega arith }

pub loop-i-preserved : goal.loop-i-preserved
loop-i-preserved c =
    let rows = sums_of_day c.args.self.now.loads (state_now c.args.core.now) c.args.flights.now in
    record {
      rows =
          day_more day_names rows c.loop-i.i c.days_from-first.result c.args.sheet.now c.loop-i.sheet c.put_day.new.sheet c.loop-i.invariant.rows
          (subst (λ (d : ℕ). ArePut day_names (rows d) c.loop-i.sheet c.put_day.new.sheet) c.numbered.ensures c.in_ok-put_day.ensures);
      within = omega (arith, c.loop-i-test.true);
    }

pub returns : goal.returns
returns c =
    days_whole (sums_of_day c.args.self.now.loads (state_now c.args.core.now) c.args.flights.now) c.loop-i.i c.saturating_sub-count.result c.days_from-first.result c.latest_of.result
    c.args.flights.now c.args.sheet.now c.loop-i.sheet c.loop-i.invariant.rows c.loop-i.invariant.within c.loop-i-test.false c.saturating_sub-count.ensures
    c.latest_of.ensures.value c.days_from-first.ensures.value
