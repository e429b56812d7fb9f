-- What a clause reads of a `Counted`.
use Rattle.std.specs.Prelude.{ℕ}
use Rattle.airline_base.specs.declared.counted.Counted.{Counted}

-- `c.into_inner()`
abbrev pub counted_inner : {T : Type 0} → Counted T → T
counted_inner c = c.inner

-- `c.failures()`
abbrev pub counted_failures : {T : Type 0} → Counted T → ℕ
counted_failures c = c.count
