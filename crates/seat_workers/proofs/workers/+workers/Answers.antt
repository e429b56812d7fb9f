use Rattle.std.proofs.Common.{All, sym, subst}
use Rattle.seat_rules.specs.Journal.{FitsCommand}
use Rattle.seat_workers.proofs.Working.{all_first, all_later}
use Rattle.seat_workers.proofs.workers.+workers.Goals as goal

pub work_all-side_by_side-requires-clause-list : goal.work_all-side_by_side-requires-clause-list
work_all-side_by_side-requires-clause-list g t c κs within =
    subst (λ list. All (FitsCommand g.K.Hosting.grid) list) (sym c.as_slice.ensures)
    (all_first (λ list. All (FitsCommand g.K.Hosting.grid) list) c.args.lists.now c.in-Some.list.now c.in-Some.later.now c.in-Some.ensures.cases.0 c.requires.commands)

pub work_all-side_by_side-requires-clause-commands : goal.work_all-side_by_side-requires-clause-commands
work_all-side_by_side-requires-clause-commands g t c κs within =
    all_later (λ list. All (FitsCommand g.K.Hosting.grid) list) c.args.lists.now c.in-Some.list.now c.in-Some.later.now c.in-Some.ensures.cases.0 c.requires.commands
