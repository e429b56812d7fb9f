use Rattle.host_trials.proofs.working_tests.overlap.Given as goal

-- the host that the parts are of
abbrev pub ghosts-run : goal.ghosts-run
ghosts-run g a = record { grid = a.parts.grid; cap = a.parts.cap; book = a.parts.book; sessions = a.parts.sessions; names = a.parts.names }
