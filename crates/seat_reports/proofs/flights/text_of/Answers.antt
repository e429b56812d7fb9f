use Rattle.std.proofs.Common.{[]}
use Rattle.seat_reports.specs.FlightLines.{IsFlightLine}
use Rattle.seat_desk.proofs.Texts.{put_none, text_whole}
use Rattle.seat_reports.proofs.FlightLines.{flights_more}
use Rattle.seat_reports.proofs.flights.text_of.Goals as goal

pub loop-index-init : goal.loop-index-init
loop-index-init c = rw c.new-text.ensures.items (put_none IsFlightLine 0 [])

pub loop-index-preserved : goal.loop-index-preserved
loop-index-preserved c = flights_more c.args.flights.now c.loop-index.index c.flight.result c.loop-index.text.items c.put_flight.new.text.items c.loop-index.invariant c.flight.ensures.value c.in_ok-put_flight.ensures

pub returns : goal.returns
returns c = text_whole IsFlightLine 0 c.loop-index.index c.len-index-end.result c.args.flights.now c.loop-index.text.items c.loop-index.invariant c.len-index-end.ensures.value c.loop-index-test.false
