use Rattle.std.proofs.Common.{◌≡◌, ℕ, List, ◌≤◌, length, sym, subst}
use Rattle.sha2.specs.Sha256.{sha256}
use Rattle.seat_desk.specs.CheckDesk.{most_set_bytes}
use Rattle.seat_desk.specs.Halves.{HasFlights}
use Rattle.seat_desk.proofs.Grounds.{of_input}
use Rattle.seat_desk.proofs.loading.read_flights.Goals as goal

pub returns-clause-flights : goal.returns-clause-flights
returns-clause-flights g c =
    of_input (HasFlights c.args.first c.args.days c.in_ok-flights.flights) (g.S.Read.remaining c.args.input.now) c.in_ok-bytes.bytes.items c.deref.result.now c.deref.ensures.value c.in_ok-bytes.ensures.whole
    (record { within = subst (λ (l : List ℕ). length l ≤ most_set_bytes) (sym c.deref.ensures.value) c.in_ok-bytes.ensures.within; is_schedule = c.in_ok-flights.ensures.ok })

pub returns-clause-digest : goal.returns-clause-digest
returns-clause-digest g c = λ has.
    of_input (λ xs. c.digest_where.result ≡ sha256 xs) (g.S.Read.remaining c.args.input.now) c.in_ok-bytes.bytes.items c.deref-2.result.now c.deref-2.ensures.value c.in_ok-bytes.ensures.whole (c.digest_where.ensures has)
