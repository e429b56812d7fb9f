-- What the manager sets, one line after the other: other limits, and classes that are closed.
use Rattle.std.specs.Prelude.{◌≡◌, ◌+◌, ◌<◌, true, List, [], ◌∷◌, ◌++◌, length, map, Some}
use Rattle.seat_journal.specs.declared.entry.Change.{Change}
use Rattle.seat_journal.specs.declared.entry.Entry.{Entry}
use Rattle.seat_journal.specs.declared.entry.Work.{Work}
use Rattle.seat_journal.specs.declared.entry.Work.TheVariants.{Limit, Sale}
use Rattle.seat_nesting.specs.Nesting.{Ladders, legs_of}
use Rattle.seat_rules.specs.Journal.{calls_of, next_line}
use Rattle.carry_lines.specs.declared.mark.Mark.{Mark}

-- ---- what is set

abbrev pub changes_of : List Change → List Work
changes_of rows = map (λ row. Limit row) rows

-- what closes a class
abbrev pub closing : Mark → Work
closing m = Sale (record { flight = m.flight; leg = m.leg; class = Some m.class; closed = true })

abbrev pub closings_of : List Mark → List Work
closings_of marks = map closing marks

-- a flight and a leg that the limits have
abbrev pub FitsMark : Ladders → Mark → Type 0
FitsMark grid m = m.leg < length (legs_of grid m.flight)

-- ---- the lines

-- the manager's next line, which asks for this
abbrev pub manager_line : Ladders → List Entry → Work → Entry
manager_line grid past work = next_line grid past 0 (calls_of past 0 + 1) work

-- these lines, and those by which the manager asks for one thing after the other
abbrev pub lines_set : Ladders → List Entry → List Work → List Entry
lines_set grid past [] = past
lines_set grid past (work ∷ works) = lines_set grid (past ++ manager_line grid past work ∷ []) works

-- of these some that come first were set, and others are left
pub record SetsFirst (grid : Ladders) (old new : List Entry) (works : List Work) : Type 0 where
  pub asked : List Work
  pub left : List Work
  pub parts : works ≡ asked ++ left
  pub some : 0 < length left
  pub lines : new ≡ lines_set grid old asked
