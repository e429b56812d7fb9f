-- The lines that say in what a list differs, and the last line.
use Rattle.std.specs.Prelude.{◌≡◌, ℕ, List, [], ◌∷◌, ◌++◌, length, decimal, codes, Option, Some, None}
use Rattle.airline_base.specs.Days.{IsDateText}
use Rattle.airline_base.specs.Fields.{suffix_text}
use Rattle.airimp_lines.specs.declared.segment.Segment.{Segment}
use Rattle.seat_desk.specs.FlightsDesk.{IsText}
use Rattle.partner_questions.specs.declared.difference.Difference.{Difference}
use Rattle.partner_questions.specs.declared.difference.Standing.{Standing}

-- HK2, HL1 or NONE
abbrev pub standing_text : Option Standing → List ℕ
standing_text None = codes "NONE"
standing_text (Some s) = s.code ++ decimal s.seats

-- a number, or `-` where there is none
abbrev pub line_text : Option ℕ → List ℕ
line_text None = codes "-"
line_text (Some line) = decimal line

-- the airline, the number without leading zeros, the suffix, and a blank
abbrev pub flight_text : Segment → List ℕ
flight_text s = s.airline ++ decimal s.number ++ suffix_text s.suffix ++ codes " "

-- BOARDOFF CLASS behind a blank
abbrev pub pair_text : Segment → List ℕ
pair_text s = codes " " ++ s.board ++ s.off ++ codes " " ++ s.class ∷ []

-- DESIGNATOR DDMMMYY BOARDOFF CLASS
pub record IsSegmentName (s : Segment) (text : List ℕ) : Type 0 where
  pub day : List ℕ
  pub is_day : IsDateText s.day day
  pub written : text ≡ flight_text s ++ day ++ pair_text s

-- `-` stands for a segment that no flight has
abbrev pub IsNameText : Option Segment → List ℕ → Type 0
IsNameText None text = text ≡ codes "-"
IsNameText (Some s) text = IsSegmentName s text

-- DIFFERS LOCATOR and a blank
abbrev pub difference_head : Difference → List ℕ
difference_head d = codes "DIFFERS " ++ d.locator ++ codes " "

-- theirs STATUS here STATUS line NUMBER behind a blank, and the line's end
abbrev pub standings_text : Difference → List ℕ
standings_text d =
    codes " theirs " ++ standing_text d.theirs ++ codes " here " ++ standing_text d.here ++ codes " line " ++ line_text d.line
    ++ 10 ∷ []

-- DIFFERS LOCATOR SEGMENT theirs STATUS here STATUS line NUMBER
pub record IsDifferenceLine (d : Difference) (line : List ℕ) : Type 0 where
  pub name : List ℕ
  pub is_name : IsNameText d.segment name
  pub written : line ≡ difference_head d ++ name ++ standings_text d

-- same N behind a blank
unfoldable pub same_text : ℕ → List ℕ
same_text same = codes " same " ++ decimal same

-- differ N behind a blank, and the line's end
unfoldable pub differ_text : ℕ → List ℕ
differ_text differ = codes " differ " ++ decimal differ ++ 10 ∷ []

-- RECONCILED same N differ N
abbrev pub last_text : ℕ → ℕ → List ℕ
last_text same differ = codes "RECONCILED" ++ same_text same ++ differ_text differ

-- a line for each difference, and the last one
pub record IsDifferenceText (all : List Difference) (same : ℕ) (text : List ℕ) : Type 0 where
  pub part : List ℕ
  pub are_lines : IsText (λ n. IsDifferenceLine) 0 all part
  pub written : text ≡ part ++ last_text same (length all)

-- ---- the parts of the text

-- a text is written behind what was there
pub record IsWrittenBehind (is : List ℕ → Type 0) (old new : List ℕ) : Type 0 where
  pub part : List ℕ
  pub is_part : is part
  pub written : new ≡ old ++ part
