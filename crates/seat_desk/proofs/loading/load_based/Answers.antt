use Rattle.std.proofs.Common.{inl, inr}
use Rattle.seat_desk.proofs.Grounds.{based_whole, ground_whole, loaded_whole, rows_first_large, rows_large, rows_refused, scheduled, set_first_large, set_large, set_refused}
use Rattle.seat_desk.proofs.loading.load_based.Goals as goal

pub returns-in-Err-clause-fault : goal.returns-in-Err-clause-fault
returns-in-Err-clause-fault g c = λ input. set_refused _ _ _ _ c.in-Err.fault (c.in-Err.ensures.fault input)

pub returns-in-Err-clause-large : goal.returns-in-Err-clause-large
returns-in-Err-clause-large g c = λ large. set_large _ _ c.args.inputs.now.first c.args.inputs.now.days (c.in-Err.ensures.large large)

pub returns-in-Err-clause-device : goal.returns-in-Err-clause-device
returns-in-Err-clause-device g c = λ failed. inl (c.in-Err.ensures.device failed)

pub returns-in-Err-clause-first_large : goal.returns-in-Err-clause-first_large
returns-in-Err-clause-first_large g c = λ large. set_first_large _ _ _ _ (c.in-Err.ensures.large large)

pub returns-in-Err-clause-first_failed : goal.returns-in-Err-clause-first_failed
returns-in-Err-clause-first_failed g c = λ failed. inl (c.in-Err.ensures.device failed)

pub returns-in-Err-read_rows-clause-fault : goal.returns-in-Err-read_rows-clause-fault
returns-in-Err-read_rows-clause-fault g c =
    λ input. rows_refused _ _ _ _ c.in-Ok.read.0 c.in-Ok.ensures.flights c.in-Err-read_rows.fault (c.in-Err-read_rows.ensures.fault input)

pub returns-in-Err-read_rows-clause-large : goal.returns-in-Err-read_rows-clause-large
returns-in-Err-read_rows-clause-large g c = λ large. rows_large _ _ _ _ c.in-Ok.read.0 c.in-Ok.ensures.flights (c.in-Err-read_rows.ensures.large large)

pub returns-in-Err-read_rows-clause-device : goal.returns-in-Err-read_rows-clause-device
returns-in-Err-read_rows-clause-device g c = λ failed. inr (c.in-Err-read_rows.ensures.device failed)

pub returns-in-Err-read_rows-clause-first_large : goal.returns-in-Err-read_rows-clause-first_large
returns-in-Err-read_rows-clause-first_large g c =
    λ large. rows_first_large _ _ _ _ c.in-Ok.read.0 c.in-Ok.ensures.flights (c.in-Err-read_rows.ensures.large large)

pub returns-in-Err-read_rows-clause-first_failed : goal.returns-in-Err-read_rows-clause-first_failed
returns-in-Err-read_rows-clause-first_failed g c = λ failed. inr (record {
  ahead = scheduled _ (g.I.Read.remaining c.args.inputs.now.limits) _ _ c.in-Ok.read.0 c.in-Ok.ensures.flights;
  here = c.in-Err-read_rows.ensures.device failed;
})

pub returns-clause-ok : goal.returns-clause-ok
returns-clause-ok g c =
    loaded_whole _ _ _ _ c.in-Ok.read.0 c.in-Ok.ensures.flights c.in-Ok-read_rows.read.0 c.in_ok-grid.grid c.in-Ok-read_rows.ensures.rows c.in_ok-grid.ensures.ok

pub returns-clause-rows : goal.returns-clause-rows
returns-clause-rows g c =
    ground_whole _ _ _ _ c.in-Ok.read.0 c.in-Ok.ensures.flights c.in-Ok-read_rows.read.0 c.in-Ok-read_rows.ensures.rows

pub returns-clause-basis : goal.returns-clause-basis
returns-clause-basis g c = λ has.
    based_whole _ _ _ _ c.in-Ok.read.1 c.in-Ok-read_rows.read.1 (c.in-Ok.ensures.digest has) (c.in-Ok-read_rows.ensures.digest has)
