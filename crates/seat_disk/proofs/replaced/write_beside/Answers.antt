use Rattle.std.proofs.Common.{IsTrue, refl, subst, sym, ◌∙◌}
use Rattle.std.proofs.lemmas.Result.{on_ok_weaker}
use Rattle.seat_disk.specs.declared.synced.Synced.{Synced}
use Rattle.seat_disk.proofs.replaced.write_beside.Goals as goal

pub returns-clause-kept : goal.returns-clause-kept
returns-clause-kept g c = on_ok_weaker c.sync.result (λ known left stands. c.sync.ensures.beside ∙ known left stands) c.sync.ensures.kept

pub returns-clause-synced : goal.returns-clause-synced
returns-clause-synced g c = on_ok_weaker c.sync.result (λ is. subst (λ (s : Synced). IsTrue s.beside) (sym is) refl) c.sync.ensures.synced
