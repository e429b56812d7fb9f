-- As many files as sessions so far.
use Rattle.std.proofs.Common.{◌≡◌, length}
use Rattle.command_inputs.proofs.sessions.scripts_opened.Given as goal

abbrev pub invariant-loop-place : goal.invariant-loop-place
invariant-loop-place l = length l.files.items ≡ l.place
