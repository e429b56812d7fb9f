-- Which of several hosts has a flight. It goes by the flight's designator, so that a flight has one on all its days.
use Rattle.std.specs.Prelude.{ℕ, ◌+◌, ◌*◌, ◌%◌, ◌^◌, List, [], ◌∷◌, ◌++◌, Option, decimal}
use Rattle.std.specs.Int.Bits.{bit_xor}
use Rattle.airline_base.specs.Fields.{suffix_text}
use Rattle.flight_routes.specs.declared.designators.Designator.{Designator}

-- airline, number without leading zeros, suffix
abbrev pub name_text : List ℕ → ℕ → Option ℕ → List ℕ
name_text airline number suffix = airline ++ decimal number ++ suffix_text suffix

abbrev pub own_name : Designator → List ℕ
own_name d = name_text d.airline d.number d.suffix

-- FNV-1a with 32 bits (Fowler, Noll and Vo)
unfoldable pub fnv_step : ℕ → ℕ → ℕ
fnv_step hash byte = (bit_xor hash byte * 16_777_619) % 2 ^ 32

abbrev pub fnv_from : ℕ → List ℕ → ℕ
fnv_from hash [] = hash
fnv_from hash (byte ∷ bytes) = fnv_from (fnv_step hash byte) bytes

unfoldable pub fnv_of : List ℕ → ℕ
fnv_of bytes = fnv_from 2_166_136_261 bytes

-- the shard of a name, counted from 1
abbrev pub shard_of : ℕ → List ℕ → ℕ
shard_of shards name = fnv_of name % shards + 1
