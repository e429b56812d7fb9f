use Rattle.std.proofs.Common.{ap, ◌∙◌}
use Rattle.std.proofs.lemmas.Result.{on_ok_weaker}
use Rattle.seat_disk.specs.Syncs.{kept_name}
use Rattle.seat_disk.proofs.replaced.take_name.Goals as goal

pub returns-clause-synced : goal.returns-clause-synced
returns-clause-synced g c = on_ok_weaker c.sync_folder.result (λ is. is ∙ ap kept_name c.in_ok-rename.ensures.synced) c.sync_folder.ensures.synced
