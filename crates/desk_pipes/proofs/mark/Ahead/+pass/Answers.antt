use Rattle.std.proofs.Common.{◌<◌, List, ℕ, ap, arith, length, subst, take}
use Rattle.std.specs.Prelude.{◌-◌, drop}
use Rattle.desk_pipes.specs.Marks.{SeesOn}
use Rattle.desk_pipes.proofs.Marks.{sees_none, sees_piece, whole_piece}
use Rattle.desk_pipes.proofs.mark.Ahead.+pass.Goals as goal

pub returns-clause-all : goal.returns-clause-all
returns-clause-all c = λ c' low.
    let some : 0 < length c'.args.piece.now = omega (arith, c'.in-len1-up.len_at_least) in
    whole_piece c'.args.piece.now c'.pass.result some (c'.pass.ensures.all low)

pub returns-clause-seen : goal.returns-clause-seen
returns-clause-seen c = λ c'.
    let some : 0 < length c'.args.piece.now = omega (arith, c'.in-len1-up.len_at_least) in
    sees_piece c'.args.self.now.mark.bytes c'.args.piece.now c'.args.self.now.seen c'.step.new.self.seen c'.pass.new.self.seen c'.pass.result _ some
    c'.step.ensures.seen
    (subst (λ (m : List ℕ). SeesOn m c'.step.new.self.seen (take c'.pass.result (take (length c'.args.piece.now - 1) (drop 1 c'.args.piece.now)))
    c'.pass.new.self.seen)
    (ap (λ mark. mark.bytes) c'.step.ensures.mark) c'.pass.ensures.seen)

pub returns-in_default-clause-seen : goal.returns-in_default-clause-seen
returns-in_default-clause-seen c = λ c'. sees_none c'.args.self.now.mark.bytes c'.args.self.now.seen

pub returns-then-is_over-clause-seen : goal.returns-then-is_over-clause-seen
returns-then-is_over-clause-seen c = λ c'. sees_none c'.args.self.now.mark.bytes c'.args.self.now.seen
