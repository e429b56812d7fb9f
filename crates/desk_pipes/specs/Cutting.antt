-- Bytes that come in pieces, cut into lines.
use Rattle.std.specs.Prelude.{◌≡◌, ℕ, List, [], ◌∷◌, ◌++◌, take, if◌then◌else◌}
use Rattle.airline_base.specs.Lines.{is_line_feed}

-- of a line 257 bytes are held, which is enough to tell that it is too long
unfoldable pub held : List ℕ → List ℕ
held bytes = take 257 bytes

-- behind these bytes of a line come those: the lines that end in them, each with its end as far as it is held
abbrev pub lines_cut : List ℕ → List ℕ → List (List ℕ)
lines_cut before [] = []
lines_cut before (c ∷ bytes) =
    if is_line_feed c then held (before ++ c ∷ []) ∷ lines_cut [] bytes else lines_cut (held (before ++ c ∷ [])) bytes

-- and what is held behind them of a line that has not ended
abbrev pub rest_cut : List ℕ → List ℕ → List ℕ
rest_cut before [] = before
rest_cut before (c ∷ bytes) = if is_line_feed c then rest_cut [] bytes else rest_cut (held (before ++ c ∷ [])) bytes

-- in whatever pieces the bytes come, the lines are the same
abbrev pub PiecesDoNotMatter : Type 0
PiecesDoNotMatter = (before first more : List ℕ)
    → lines_cut before (first ++ more) ≡ lines_cut before first ++ lines_cut (rest_cut before first) more
