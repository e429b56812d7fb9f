-- The lines that are cut, and those that are still to come of what is left, for which there is room.
use Rattle.std.proofs.Common.{◌≡◌, ◌≤◌, ◌+◌, ◌++◌, length, map, vec_capacity, vec_len}
use Rattle.desk_pipes.specs.Cutting.{lines_cut, rest_cut}
use Rattle.desk_pipes.proofs.cutting.cut_lines.Given as goal

abbrev pub invariant-loop-rest : goal.invariant-loop-rest
invariant-loop-rest l =
    (map (λ h. h.items) l.lines.items ++ lines_cut l.line.items l.rest
    ≡ map (λ h. h.items) l.initial.lines.items ++ lines_cut l.initial.line.items l.piece)
    × (rest_cut l.line.items l.rest ≡ rest_cut l.initial.line.items l.piece)
    × (vec_len l.lines + length l.rest ≤ vec_capacity l.lines)
    × (vec_capacity l.lines ≡ vec_capacity l.initial.lines)

abbrev pub decreases-loop-rest : goal.decreases-loop-rest
decreases-loop-rest l = length l.rest
