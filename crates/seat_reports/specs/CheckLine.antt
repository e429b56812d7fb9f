-- What `check` writes: one line that sums up a data set.
use Rattle.std.specs.Prelude.{◌≡◌, ◌≤◌, ℕ, Bool, List, ◌∷◌, [], ◌++◌, length, decimal, codes, Option, Some, None, if◌then◌else◌}
use Rattle.airline_base.specs.Days.{IsDateText}
use Rattle.ssim_records.specs.SetText.{IsDataSet}
use Rattle.ssim_records.specs.declared.set.DataSet.{DataSet}
use Rattle.seat_desk.specs.CheckDesk.{most_set_bytes, most_records}

-- the end of a validity, `00XXX00` where it is open
abbrev pub IsEndText : Option ℕ → List ℕ → Type 0
IsEndText None text = text ≡ codes "00XXX00"
IsEndText (Some day) text = IsDateText day text

-- L for local times, U for UTC
abbrev pub mode_text : Bool → List ℕ
mode_text local = (if local then codes " L " else codes " U ")

abbrev pub counts_text : ℕ → ℕ → List ℕ
counts_text legs segments = codes " legs " ++ decimal legs ++ codes " segments " ++ decimal segments ++ 10 ∷ []

-- AIRLINE MODE FROM TO legs N segments N
pub record IsCheckLine (set : DataSet) (line : List ℕ) : Type 0 where
  pub from : List ℕ
  pub to : List ℕ
  pub is_from : IsDateText set.carrier.from from
  pub is_to : IsEndText set.carrier.to to
  pub written : line ≡ set.carrier.airline ++ mode_text set.carrier.local ++ from ++ codes " " ++ to
      ++ counts_text (length set.legs) set.segments

-- the bytes are not too large, and the line sums up the data set that they are
pub record Sums (bytes line : List ℕ) : Type 0 where
  pub within : length bytes ≤ most_set_bytes
  pub set : DataSet
  pub is_set : IsDataSet most_records bytes set
  pub is_line : IsCheckLine set line
