-- Digests, and the hex digits that spell them.
use Rattle.std.specs.Prelude.{◌≡◌, ℕ, List, length, Option, Some, None, Result, Ok, Err}
use Rattle.hex.specs.declared.error.FromHexError.{FromHexError}
use Rattle.hex.specs.Hex.{IsBytes, decode_sized}

-- 32 bytes
pub record IsDigest (d : List ℕ) : Type 0 where
  pub count : length d ≡ 32
  pub each : IsBytes d

abbrev pub decoded : Result (List ℕ) FromHexError → Option (List ℕ)
decoded (Ok digest) = Some digest
decoded (Err e) = None

-- the digest that 64 hex digits spell
unfoldable pub digest_in : List ℕ → Option (List ℕ)
digest_in text = decoded (decode_sized text 32)
