use Rattle.std.proofs.Common.{◌≡◌, List, IfOk, subst}
use Rattle.seat_nesting.specs.Counting.{limits_of, table_of}
use Rattle.seat_rules.specs.declared.booking.Booking.{Booking}
use Rattle.seat_rules.specs.Sequential.{sales_by}
use Rattle.seat_rules.specs.Tables.{advices_by}
use Rattle.seat_core.proofs.sales.advices_opened.Goals as goal

pub returns-in-Some-clause-told : goal.returns-in-Some-clause-told
returns-in-Some-clause-told c =
    let P : List Booking → Type 0 = λ l. IfOk c.advices_open.result (λ told. told.items ≡ advices_by (sales_by (limits_of c.args.counts.now) c.args.change.now) (table_of c.args.counts.now) l) in
    subst P c.in-Some.ensures.some c.advices_open.ensures.told
