use Rattle.std.proofs.Common.{◌≡◌, ℕ, arith, subst}
use Rattle.seat_scripts.specs.Against.{AreAskedBelow}
use Rattle.seat_scripts.proofs.against.first_unasked.Goals as goal

pub returns-clause-same : goal.returns-clause-same
returns-clause-same c =
    let nine : c.loop-session.session ≡ 9 = omega (arith, c.loop-session-test.false, c.loop-session.invariant.within) in
    subst (λ (s : ℕ). AreAskedBelow c.args.flights.now c.args.scripts.now c.args.lines.now s) nine c.loop-session.invariant.below
