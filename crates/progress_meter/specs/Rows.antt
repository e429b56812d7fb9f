-- Worked rows of the line of a meter.
use Rattle.std.specs.Prelude.{◌≡◌, ℕ, ◌++◌, List, ◌∷◌, Option, None, Some, codes}
use Rattle.progress_meter.specs.Lines.{erased, meter_text}
use Rattle.progress_meter.specs.declared.stand.Stage.{Stage}
use Rattle.progress_meter.specs.declared.stand.Stage.TheVariants.{Reading, Replaying, Booking}
use Rattle.progress_meter.specs.declared.stand.Stand.{Stand}

-- a command at this stage, with so many bytes read, so many to read and so many lines, says this after so many seconds
abbrev pub Says : Stage → ℕ → Option ℕ → ℕ → ℕ → List ℕ → Type 0
Says stage read size lines seconds text =
    meter_text (record { stage = stage; read = read; size = size; lines = lines; seconds = seconds })
    ≡ 13 ∷ (codes "seatdesk: " ++ (text ++ erased))

-- the size is known
abbrev pub Sized : Type 0
Sized = Says Reading 12_499_999 (Some 61_000_000) 0 3 (codes "read 12.4 of 61.0 MB, 3 s")

-- it is not, as of a pipe
abbrev pub Unmeasured : Type 0
Unmeasured = Says Reading 99_999 None 0 1 (codes "read 0.0 MB, 1 s")

-- all is read
abbrev pub Replayed : Type 0
Replayed = Says Replaying 43_700_000 (Some 43_700_000) 900_000 12 (codes "replaying 900,000 lines, 12 s")

abbrev pub Millions : Type 0
Millions = Says Replaying 88_000_000 None 1_999_007 12 (codes "replaying 1,999,007 lines, 12 s")

abbrev pub Lineless : Type 0
Lineless = Says Replaying 200_000_000 None 0 2 (codes "working on 200.0 MB, 2 s")

abbrev pub Booked : Type 0
Booked = Says Booking 43_700_000 None 7_042 5 (codes "booking behind 7,042 lines, 5 s")

abbrev pub Begun : Type 0
Begun = Says Booking 16_777_216 (Some 16_777_216) 0 1 (codes "booking, 1 s")
