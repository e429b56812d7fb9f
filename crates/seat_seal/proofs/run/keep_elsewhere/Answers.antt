use Rattle.std.proofs.Common.{rules}
use Rattle.arrayvec.proofs.ArrayVecLemmas.{filter-from_retain}
use Rattle.seat_seal.specs.Runs.{is_elsewhere}
use Rattle.seat_seal.proofs.run.keep_elsewhere.Goals as goal

pub returns : goal.returns
returns c = filter-from_retain _ (is_elsewhere c.args.run.now) _ (λ x b f' y called. search rules) _ _ c.retain.ensures.filtered
