-- The lines of a text: each ends with LF, with CR LF, or where the bytes end.
use Rattle.std.specs.Prelude.{ℕ, Bool, ◌==◌, nat_lt, if◌then◌else◌, List, length}
use Rattle.std.specs.List.{position_or_len, before_first, after_first}
use Rattle.std.specs.Str.Lines.{strip_carriage_return}

abbrev pub is_line_feed : ℕ → Bool
is_line_feed c = c == 10

-- the first line without its end, and the bytes behind that end
unfoldable pub line_at : List ℕ → List ℕ × List ℕ
line_at bytes = (
  if nat_lt (position_or_len is_line_feed bytes) (length bytes)
      then strip_carriage_return (before_first is_line_feed bytes) else bytes,
  after_first is_line_feed bytes,
)
