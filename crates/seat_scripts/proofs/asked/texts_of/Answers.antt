use Rattle.std.proofs.Common.{inl, inr, map}
use Rattle.seat_scripts.specs.AskedFrom.{HaveRequests}
use Rattle.seat_scripts.proofs.asked.texts_of.Goals as goal

pub returns-in-Err-clause-none : goal.returns-in-Err-clause-none
returns-in-Err-clause-none g c =
    let wrong = c.in-Err.ensures in
    record {
      refused = λ input. inl (record { of_script = wrong.script input; is_refused = wrong.fault input });
      large = λ is. inl (wrong.large is);
      device = λ is. inl (wrong.device is);
    }

pub returns-in-Err-limit_changes-clause-none : goal.returns-in-Err-limit_changes-clause-none
returns-in-Err-limit_changes-clause-none g c =
    let wrong = c.in-Err-limit_changes.ensures in
    let right : HaveRequests c.args.today (map g.I.Read.remaining c.args.scripts.now) = record { scripts = c.in-Ok.read.scripts; are_scripts = c.in-Ok.ensures.ok } in
    record {
      refused = λ input. inr (record { ahead = right; here = record { of_changes = wrong.changes input; unchanged = wrong.fault input } });
      large = λ is. inr (record { ahead = right; here = wrong.large is });
      device = λ is. inr (record { ahead = right; here = wrong.device is });
    }

pub returns-in-Ok-limit_changes-clause-ok : goal.returns-in-Ok-limit_changes-clause-ok
returns-in-Ok-limit_changes-clause-ok g c =
    let read = c.in-Ok.ensures in
    let made = c.in-Ok-limit_changes.ensures in
    record {
      are_scripts = read.ok;
      are_right = read.right;
      are_imprints = read.imprints;
      is_one_booked = read.booked;
      are_changes = made.ok;
      on_legs = made.legs;
      is_imprint = made.imprint;
      is_booked = made.booked;
    }
