-- Words that name a desk's two pipes.
use Rattle.std.specs.Prelude.{ℕ, ◌==◌, ◌&&◌, nat_lt, if◌then◌else◌, Bool, length, Option, Some, None}
use Rattle.std.specs.List.{after_first, before_first, position_or_len}
use Rattle.clap.specs.Words.{Text}

-- the sign between them is :
abbrev pub is_colon : ℕ → Bool
is_colon byte = byte == 58

-- a first colon, and a pipe on each side of it
abbrev pub pipes_in : Text → Option (Text × Text)
pipes_in word =
    if nat_lt (position_or_len is_colon word) (length word)
    && (nat_lt 0 (length (before_first is_colon word)) && nat_lt 0 (length (after_first is_colon word)))
    then Some (before_first is_colon word, after_first is_colon word) else None
