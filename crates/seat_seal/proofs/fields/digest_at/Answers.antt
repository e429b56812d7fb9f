use Rattle.std.proofs.Common.{sym}
use Rattle.seat_seal.proofs.FieldLaws.{no_digest}
use Rattle.seat_seal.proofs.fields.digest_at.Goals as goal

pub returns-in_default : goal.returns-in_default
returns-in_default c = sym (no_digest c.args.bytes.now c.in_default.ensures.cases)
