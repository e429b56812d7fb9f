use Rattle.std.proofs.Common.{ℕ, List, inr, subst}
use Rattle.std.specs.Io.KnownBytes.{Appends}
use Rattle.airline_base.specs.Noting.{TookFront}
use Rattle.table_questions.specs.FlightTable.{IsFlightTable}
use Rattle.seat_desk.proofs.ReadWhole.{of_input}
use Rattle.table_questions.proofs.flights.desk_flight_table.Goals as goal

pub returns-in-Ok-clause-ok : goal.returns-in-Ok-clause-ok
returns-in-Ok-clause-ok g c = record {
  text = c.in_ok-text.text.items;
  right = of_input (IsFlightTable c.args.form c.args.first c.args.days) (g.R.Read.remaining c.args.input.now) c.in_ok-bytes.bytes.items c.deref.result.now c.in_ok-text.text.items
      c.deref.ensures.value c.in_ok-bytes.ensures.whole c.in_ok-text.ensures.ok;
  written = subst (λ (l : List ℕ). Appends (g.W.Write.contents c.args.out.now) (g.W.Write.contents c.put_all.new.out) l) c.deref-2.ensures.value c.in-Ok.ensures.ok;
}

pub returns-clause-device : goal.returns-clause-device
returns-clause-device g c = λ _. inr (record {
  counted = c.in-Err.ensures.device;
  text = c.in_ok-text.text.items;
  right = of_input (IsFlightTable c.args.form c.args.first c.args.days) (g.R.Read.remaining c.args.input.now) c.in_ok-bytes.bytes.items c.deref.result.now c.in_ok-text.text.items
      c.deref.ensures.value c.in_ok-bytes.ensures.whole c.in_ok-text.ensures.ok;
  begun = subst (λ (l : List ℕ). TookFront (g.W.Write.contents c.args.out.now) (g.W.Write.contents c.put_all.new.out) l) c.deref-2.ensures.value c.in-Err.ensures.front;
})
