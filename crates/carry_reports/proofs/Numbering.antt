-- A number has a journal among so many, or one behind them.
use Rattle.std.proofs.Common.{ℕ, ◌+◌, ◌-◌, ◌≤◌, suc, nat_le, Bool, true, false, List, [], ◌∷◌, length, arith, if◌then◌else◌}
use Rattle.carry_reports.specs.Numbers.{journal_of}

pub journal_few : (counts : List ℕ) (n : ℕ) → journal_of counts n ≤ length counts + 1
journal_few [] n = omega arith
journal_few (count ∷ counts) n = by (nat_le n count) _ _ (journal_few counts (n - count))
  where
    by : (b : Bool) (m l : ℕ) → m ≤ l + 1 → (if b then 1 else m + 1) ≤ suc l + 1
    by true m l few = omega arith
    by false m l few = omega (arith, few)
