-- The rows of a session's script.
use Rattle.std.specs.Prelude.{ℕ, List}
use Rattle.script_refusals.specs.Cleaning.{refusals_of}
use Rattle.script_refusals.specs.Listing.{rows_text}

-- the rows of the lines of a script that are refused
abbrev pub rows_of : ℕ → List ℕ → List ℕ
rows_of session bytes = rows_text session (refusals_of bytes)
