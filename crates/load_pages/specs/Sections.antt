-- A section for a class: its columns, a day each, and its rows.
use Rattle.std.specs.Prelude.{◌≡◌, ℕ, zero, suc, ◌+◌, List, [], ◌∷◌, ◌++◌, None}
use Rattle.airline_base.specs.Days.{IsDateText}
use Rattle.load_pages.specs.Marks.{mark_text}
use Rattle.load_pages.specs.Rows.{rows_text}
use Rattle.load_pages.specs.declared.load.LegLoad.{LegLoad}
use Rattle.load_pages.specs.declared.marks.Mark.TheVariants.{Section, Title, Region, Table, Column, Body, End}

-- a column for each of so many days from one on
abbrev pub AreHeads : ℕ → ℕ → List ℕ → Type 0
AreHeads zero day text = text ≡ []
AreHeads (suc n) day text =
    (date rest : List ℕ) × IsDateText day date × (text ≡ mark_text Column ++ date ++ rest) × AreHeads n (day + 1) rest

-- the head of one is written behind what was there
pub record IsHeadPut (day : ℕ) (old new : List ℕ) : Type 0 where
  pub date : List ℕ
  pub is_date : IsDateText day date
  pub written : new ≡ old ++ mark_text Column ++ date

-- the title of a class, and its table up to the columns
abbrev pub class_text : ℕ → List ℕ
class_text class = mark_text Section ++ class ∷ [] ++ mark_text Title ++ class ∷ [] ++ mark_text Region ++ class ∷ [] ++ mark_text Table

abbrev pub filled_text : List ℕ → ℕ → ℕ → List LegLoad → List ℕ
filled_text heads class first loads =
    class_text class ++ heads ++ mark_text Body ++ rows_text first None loads ++ mark_text End

-- a class of no leg has none
abbrev pub section_text : List ℕ → ℕ → ℕ → List LegLoad → List ℕ
section_text heads class first [] = []
section_text heads class first (load ∷ loads) = filled_text heads class first (load ∷ loads)
