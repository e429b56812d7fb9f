-- The runs that a seal has.
use Rattle.std.specs.Prelude.{ℕ, zero, ◌-◌, Bool, not, nat_eq, List, [], ◌∷◌, ◌++◌, drop, filter, length}
use Rattle.seat_seal.specs.declared.run.Run.{Run}
use Rattle.seat_seal.specs.Text.{most_runs}

-- it began behind another number of lines than this run
abbrev pub is_elsewhere : Run → Run → Bool
is_elsewhere run other = not (nat_eq run.behind other.behind)

-- the last ones, as many as a seal says
abbrev pub last_runs : List Run → List Run
last_runs runs = drop (length runs - most_runs) runs

-- the runs that are known once this one is done, of whatever days: those that began behind other numbers of lines, and last this one.
-- One behind as many lines is the one that this goes on with, or it asked nothing
abbrev pub runs_with : List Run → Run → List Run
runs_with earlier run = last_runs (filter (is_elsewhere run) earlier ++ run ∷ [])

-- how many lines stand ahead of the last run's scripts, 0 where there is no run
abbrev pub lines_behind : List Run → ℕ
lines_behind [] = zero
lines_behind (r ∷ []) = r.behind
lines_behind (r ∷ s ∷ more) = lines_behind (s ∷ more)
