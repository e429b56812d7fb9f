-- What a clause reads of a `Fuse`.
use Rattle.std.specs.Prelude.{ℕ, Bool}
use Rattle.memory_disk.specs.declared.fuse.Fuse.{Fuse}

-- `fuse.into_inner()`
abbrev pub fused : {D : Type 0} → Fuse D → D
fused f = f.inner

-- how many calls are still passed on
abbrev pub calls_left : {D : Type 0} → Fuse D → ℕ
calls_left f = f.calls_left

-- `fuse.failures()`
abbrev pub fuse_failures : {D : Type 0} → Fuse D → ℕ
fuse_failures f = f.count

-- it refused a sync
abbrev pub lost_sync : {D : Type 0} → Fuse D → Bool
lost_sync f = f.lost_sync
