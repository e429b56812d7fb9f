-- What the line of a meter says of a command that has not ended yet.
use Rattle.std.specs.Prelude.{ℕ, ◌/◌, ◌%◌, ◌++◌, ◌==◌, nat_lt, nat_le, List, [], ◌∷◌, Option, None, Some, codes, decimal, if◌then◌else◌}
use Rattle.progress_meter.specs.declared.stand.Stage.{Stage}
use Rattle.progress_meter.specs.declared.stand.Stage.TheVariants.{Reading, Replaying, Booking}
use Rattle.progress_meter.specs.declared.stand.Stand.{Stand}

-- bytes in megabytes of 1,000,000, to a tenth and rounded down: 12.4
unfoldable pub megabytes : ℕ → List ℕ
megabytes bytes = decimal (bytes / 1_000_000) ++ (codes "." ++ decimal (bytes / 100_000 % 10))

-- the last three digits of a number, with leading zeros
unfoldable pub three_digits : ℕ → List ℕ
three_digits n = decimal (n / 100 % 10) ++ (decimal (n / 10 % 10) ++ decimal (n % 10))

-- a number with a comma ahead of its last three digits, and of the three ahead of these: 900,000
unfoldable pub thousands : ℕ → List ℕ
thousands n = if nat_lt n 1_000 then decimal n else decimal (n / 1_000) ++ (codes "," ++ three_digits n)

unfoldable pub grouped : ℕ → List ℕ
grouped n = if nat_lt n 1_000_000 then thousands n
    else decimal (n / 1_000_000) ++ (codes "," ++ (three_digits (n / 1_000) ++ (codes "," ++ three_digits n)))

-- how much there is to read, where that is known
unfoldable pub size_text : Option ℕ → List ℕ
size_text None = []
size_text (Some size) = codes " of " ++ megabytes size

unfoldable pub reading_text : Stand → List ℕ
reading_text s = codes "read " ++ (megabytes s.read ++ (size_text s.size ++ codes " MB"))

-- once all is read: the lines of the journals, and without any the bytes
unfoldable pub replaying_text : Stand → List ℕ
replaying_text s = if s.lines == 0 then codes "working on " ++ (megabytes s.read ++ codes " MB")
    else codes "replaying " ++ (grouped s.lines ++ codes " lines")

unfoldable pub behind_text : ℕ → List ℕ
behind_text lines = codes "booking behind " ++ (grouped lines ++ codes " lines")

unfoldable pub booking_text : Stand → List ℕ
booking_text s = if s.lines == 0 then codes "booking" else behind_text s.lines

unfoldable pub stage_text : Stage → Stand → List ℕ
stage_text Reading s = reading_text s
stage_text Replaying s = replaying_text s
stage_text Booking s = booking_text s

-- ESC [ K: what stands behind the cursor in its line is gone
abbrev pub erased : List ℕ
erased = 27 ∷ codes "[K"

-- the line takes the place of the one before, and the cursor stays behind it: seatdesk: read 12.4 of 61.0 MB, 3 s
unfoldable pub meter_text : Stand → List ℕ
meter_text s = 13 ∷ codes "seatdesk: " ++ (stage_text s.stage s ++ (codes ", " ++ (decimal s.seconds ++ (codes " s" ++ erased))))

-- no line stands there
abbrev pub cleared_text : List ℕ
cleared_text = 13 ∷ erased
