use Rattle.std.proofs.Common.{List, ◌∷◌, ◌++◌, ◌∙◌, [], ap, arith}
use Rattle.seat_journal.specs.declared.entry.Command.{Command}
use Rattle.seat_replies.proofs.Going.{idle_next}
use Rattle.seat_scripts.proofs.commands.add_idle.Goals as goal

pub loop-alloc-preserved : goal.loop-alloc-preserved
loop-alloc-preserved c =
    idle_next c.loop-alloc.lists.items c.push.new.self.items _ c.args.sessions c.loop-alloc.invariant (omega (arith, c.loop-alloc-test.true, c.len.ensures, c.from.ensures))
    (c.in_ok-push.ensures.items ∙ ap (λ (list : List Command). c.loop-alloc.lists.items ++ list ∷ []) (c.from_vec.ensures ∙ c.new.ensures.items))
