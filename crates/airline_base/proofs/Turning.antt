-- What the turns of a reading make together.
use Rattle.std.proofs.Common.{ℕ, List, ◌++◌, length, arith}
use Rattle.std.specs.Prelude.{Option}
use Rattle.std.proofs.lemmas.List.{length-append}
use Rattle.std.proofs.KnownBytes.{Consumes-trans}
use Rattle.airline_base.specs.Noting.{Held, WantsRoom}

-- what a turn wants room for, the reading does
pub wants_more : (max : ℕ) (old mid new : Option (List ℕ)) (k j : ℕ) (bytes : List ℕ) → Held max old mid k j bytes
    → WantsRoom max (length bytes) mid new → WantsRoom max 0 old new
wants_more max old mid new k j bytes held wants = record {
  given = bytes ++ wants.given;
  consumed = Consumes-trans old mid new bytes wants.given held.consumed wants.consumed;
  some = omega (arith, length-append bytes wants.given, wants.some);
  within = omega (arith, length-append bytes wants.given, wants.within);
}
