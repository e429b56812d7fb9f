use Rattle.std.proofs.Common.{◌≡◌, ◌+◌, ℕ, ap, arith, length}
use Rattle.seat_scripts.proofs.Beginnings.{older_within, parted_at}
use Rattle.seat_scripts.proofs.against.own_past.Goals as goal

pub returns-clause-parted : goal.returns-clause-parted
returns-clause-parted c =
    let begins = c.in_default.ensures.begins in
    let first : length c.journal-first.result.now ≡ length c.args.older.now.journal = ap length c.journal-first.ensures.value in
    let all : length c.journal.result.now ≡ length c.args.core.now.journal = ap length c.journal.ensures.value in
    parted_at c.args.older.now.journal c.args.core.now.journal c.args.more (length c.journal-first.result.now + c.args.more) begins
    (ap (λ (n : ℕ). n + c.args.more) first)
    (omega (arith, c.if-journal-first.false, first, all, older_within c.args.older.now.journal c.args.core.now.journal begins))
