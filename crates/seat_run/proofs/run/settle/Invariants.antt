use Rattle.seat_run.proofs.run.settle.Given as goal

-- the host that is opened from these parts
abbrev pub ghosts-run_over : goal.ghosts-run_over
ghosts-run_over g a = record { grid = a.parts.grid; cap = a.parts.cap; book = a.parts.book; sessions = a.parts.sessions; names = a.parts.names }
