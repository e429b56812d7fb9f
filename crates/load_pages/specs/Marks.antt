-- The pieces of HTML that stand between values.
use Rattle.std.specs.Prelude.{ℕ, List, ◌∷◌, codes}
use Rattle.load_pages.specs.declared.marks.Mark.{Mark}
use Rattle.load_pages.specs.declared.marks.Mark.TheVariants.{Section, Title, Region, Table, Column, Body, Row, Gap, Close, End}

unfoldable pub mark_text : Mark → List ℕ
mark_text Section = 10 ∷ codes "<section><h2 id="
mark_text Title = codes ">Class "
mark_text Region = codes "</h2><div role=region tabindex=0 aria-labelledby="
mark_text Table = codes "><table><thead><tr><th scope=col>Flight"
mark_text Column = codes "<th scope=col>"
mark_text Body = codes "<tbody>"
mark_text Row = 10 ∷ codes "<tr><th scope=row>"
mark_text Gap = codes "<td colspan="
mark_text Close = codes ">"
mark_text End = codes "</table></div></section>"
