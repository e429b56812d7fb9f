use Rattle.std.proofs.Common.{◌≡◌, ℕ, arith, subst}
use Rattle.seat_scripts.specs.Resuming.{HaveBegunBelow}
use Rattle.seat_scripts.proofs.resuming.all_begun.Goals as goal

pub returns-clause-ok : goal.returns-clause-ok
returns-clause-ok c =
    let nine : c.loop-session.session ≡ 9 = omega (arith, c.loop-session-test.false, c.loop-session.invariant.within) in
    subst (λ (s : ℕ). HaveBegunBelow c.args.flights.now c.args.scripts.now c.args.lines.now s) nine c.loop-session.invariant.below
