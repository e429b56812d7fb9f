use Rattle.std.proofs.Common.{◌≡◌, ◌+◌}
use Rattle.std.specs.Prelude.{vec_len}
use Rattle.seat_host.proofs.Gathered.{Gathering}
use Rattle.seat_host.proofs.settling.settle_all.Given as goal

abbrev pub invariant-loop-done : goal.invariant-loop-done
invariant-loop-done g l = record {
  same : l.under_lock ≡ l.initial.under_lock;
  gathering : Gathering l.initial.sessions.items g.K.Hosting.sessions l.initial.under_lock l.sessions.items
      l.slots.items;
  left : vec_len l.sessions + l._done ≡ vec_len l.initial.sessions;
}
