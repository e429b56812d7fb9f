-- What is counted while inputs are read.
use Rattle.std.specs.Prelude.{◌≡◌, ℕ, ◌+◌, ◌-◌, ◌==◌, min, nat_le, Bool, true, false, Option, None, Some, List, [], ◌∷◌, ◌++◌, length, if◌then◌else◌}
use Rattle.std.specs.List.{count_by}
use Rattle.airline_base.specs.Lines.{is_line_feed}
use Rattle.progress_meter.specs.declared.course.Course.{Course}
use Rattle.progress_meter.specs.declared.course.Lines.{Lines}
use Rattle.progress_meter.specs.declared.course.Lines.TheVariants.{Uncounted, Ended, Open}
use Rattle.progress_meter.specs.declared.course.Told.{Told}
use Rattle.progress_meter.specs.declared.course.Told.TheVariants.{More, End, Nothing}
use Rattle.progress_meter.specs.declared.gauge.Counts.{Counts}
use Rattle.progress_meter.specs.declared.stand.Stage.{Stage}
use Rattle.progress_meter.specs.declared.stand.Stage.TheVariants.{Reading}
use Rattle.progress_meter.specs.declared.stand.Stand.{Stand}

-- a command reads while one of its inputs is not at its end
abbrev pub stage_of : Stage → ℕ → Stage
stage_of work unread = if unread == 0 then work else Reading

-- all that there is to read is known where each input has a size, and where no more was read than these come to
abbrev pub size_of : ℕ → ℕ → ℕ → Option ℕ
size_of unmeasured read size = if unmeasured == 0 then (if nat_le read size then Some size else None) else None

-- how far a command is, by what was counted of its inputs
abbrev pub stand_of : Stage → Counts → ℕ → Stand
stand_of work c seconds = record {
  stage = stage_of work c.unread;
  read = c.read;
  size = size_of c.unmeasured c.read c.size;
  lines = c.lines;
  seconds = seconds;
}

-- ---- one input

-- how many lines end in these bytes
abbrev pub feeds : List ℕ → ℕ
feeds bytes = count_by is_line_feed bytes

-- the lines of a journal's text that are neither its head nor its END line
abbrev pub lines_of : Lines → ℕ → ℕ
lines_of Uncounted ends = 0
lines_of Ended ends = ends - 2
lines_of Open ends = ends - 1

-- of those that are counted
abbrev pub ends_in : Lines → List ℕ → ℕ
ends_in Uncounted bytes = 0
ends_in Ended bytes = feeds bytes
ends_in Open bytes = feeds bytes

-- an input of which nothing was read
abbrev pub begun : Lines → Course
begun lines = record { lines = lines; ends = 0; is_over = false }

-- the most that 64 bits count
abbrev pub most_ends : ℕ
most_ends = 18_446_744_073_709_551_615

-- behind a read that gave bytes
abbrev pub gone_on : Course → List ℕ → Course
gone_on c bytes = record { lines = c.lines; ends = min (c.ends + ends_in c.lines bytes) most_ends; is_over = c.is_over }

-- behind one that gave none
abbrev pub ended : Course → Course
ended c = record { lines = c.lines; ends = c.ends; is_over = true }

abbrev pub read_on : Course → List ℕ → Course
read_on c [] = ended c
read_on c (b ∷ bytes) = gone_on c (b ∷ bytes)

-- the end, and the lines that are counted; once
abbrev pub told_at_end : Course → Told
told_at_end c = if c.is_over then Nothing else End (lines_of c.lines c.ends)

-- what such a read tells
abbrev pub told_by : Course → List ℕ → Told
told_by c [] = told_at_end c
told_by c (b ∷ bytes) = More (length (b ∷ bytes))

-- as many lines ended where bytes come in one read as where they come in two
abbrev pub CutsMakeNoDifference : Type 0
CutsMakeNoDifference = (c : Course) (xs ys : List ℕ) → gone_on (gone_on c xs) ys ≡ gone_on c (xs ++ ys)
