use Rattle.std.proofs.Common.{◌≡◌, ℕ, List, ◌≤◌, length, sym, subst}
use Rattle.sha2.specs.Sha256.{sha256}
use Rattle.seat_desk.specs.Halves.{HasRows}
use Rattle.seat_desk.specs.Loading.{most_limit_bytes}
use Rattle.seat_desk.proofs.Grounds.{of_input}
use Rattle.seat_desk.proofs.loading.read_rows.Goals as goal

pub returns-clause-rows : goal.returns-clause-rows
returns-clause-rows g c =
    of_input (HasRows c.in_ok-rows.rows) (g.L.Read.remaining c.args.input.now) c.in_ok-bytes.bytes.items c.deref.result.now c.deref.ensures.value c.in_ok-bytes.ensures.whole
    (record { within = subst (λ (l : List ℕ). length l ≤ most_limit_bytes) (sym c.deref.ensures.value) c.in_ok-bytes.ensures.within; are_rows = c.in_ok-rows.ensures.ok })

pub returns-clause-digest : goal.returns-clause-digest
returns-clause-digest g c = λ has.
    of_input (λ ys. c.digest_where.result ≡ sha256 ys) (g.L.Read.remaining c.args.input.now) c.in_ok-bytes.bytes.items c.deref-2.result.now c.deref-2.ensures.value c.in_ok-bytes.ensures.whole (c.digest_where.ensures has)
