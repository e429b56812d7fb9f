use Rattle.std.proofs.Common.{rules}
use Rattle.seat_desk.proofs.schedule.data_set.Goals as goal

pub returns-in_default : goal.returns-in_default
returns-in_default c = record {
  ok = tt;
  fault = λ _. record {
    within = c.requires;
    first = c.in-Err.ensures.fault c.in_default.not-Memory;
    none = λ set is. c.in_default.not-Memory (c.in-Err.ensures.only set is);
  };
  kind = search rules;
}
