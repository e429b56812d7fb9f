-- The text of a season file.
use Rattle.std.specs.Prelude.{◌≡◌, ℕ, ◌≤◌, ◌+◌, ◌==◌, if◌then◌else◌, List, [], ◌∷◌, length, take, None, IsUtf8}
use Rattle.seat_season.specs.declared.fault.TextFault.{TextFault}
use Rattle.seat_season.specs.declared.fault.TextFault.TheVariants.{Line, Memory}
use Rattle.toml.specs.Parse.{parse_document}

-- how many line ends (LF) there are
abbrev pub line_ends : List ℕ → ℕ
line_ends [] = 0
line_ends (byte ∷ bytes) = if byte == 10 then 1 + line_ends bytes else line_ends bytes

-- the line is that of a byte of the text, or of its end
pub record IsLineOf (text : List ℕ) (line : ℕ) : Type 0 where
  pub place : ℕ
  pub within : place ≤ length text
  pub line_is : line ≡ 1 + line_ends (take place text)

-- it is no UTF-8 or no TOML, and the line is one of it. Want of memory says nothing of the text
abbrev pub IsNoTable : List ℕ → TextFault → Type 0
IsNoTable text (Line line) = (IsUtf8 text → parse_document text ≡ None) × IsLineOf text line
IsNoTable text Memory = Unit {0}
