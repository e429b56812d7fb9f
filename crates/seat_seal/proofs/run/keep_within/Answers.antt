use Rattle.std.proofs.Common.{nat_le, rules}
use Rattle.arrayvec.proofs.ArrayVecLemmas.{filter-from_retain}
use Rattle.seat_seal.proofs.run.keep_within.Goals as goal

pub returns : goal.returns
returns c = filter-from_retain _ (λ r. nat_le r.behind c.args.lines) _ (λ x b f' y called. search rules) _ _ c.retain.ensures.filtered
