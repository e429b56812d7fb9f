use Rattle.std.proofs.Common.{ℕ, Some, ap, length, map, subst, ◌∙◌}
use Rattle.seat_seal.specs.Booked.{scripts_booked}
use Rattle.seat_seal.specs.Known.{runs_known}
use Rattle.seat_scripts.specs.Repeated.{IsOneBooked}
use Rattle.seat_scripts.specs.declared.against.Against.{Against}
use Rattle.seat_scripts.proofs.against.read_behind.Goals as goal

pub returns-in-Err-clause-none : goal.returns-in-Err-clause-none
returns-in-Err-clause-none g c =
    let wrong = c.in-Err.ensures in
    record {
      refused = λ input. record { of_script = wrong.script input; is_refused = wrong.fault input };
      large = wrong.large;
      device = wrong.device;
    }

pub returns-in-Ok-clause-ok : goal.returns-in-Ok-clause-ok
returns-in-Ok-clause-ok g c =
    let read = c.in-Ok.read in
    let is = c.in-Ok.ensures in
    record {
      more = c.lines_taken-more.result;
      more_is = c.lines_taken-more.ensures;
      scripts = read;
      are_scripts = is.ok;
      are_right = is.right;
      are_imprints = is.imprints;
      is_booked = subst (λ (n : ℕ). IsOneBooked (scripts_booked (Some n) (runs_known c.args.both.known)) (map g.C.Read.remaining c.args.scripts.now) read.is_booked) c.lines_ahead.ensures is.booked;
      read_is = c.against_by.ensures;
    }

pub returns-in-Ok-clause-count : goal.returns-in-Ok-clause-count
returns-in-Ok-clause-count g c = ap (λ (a : Against). length a.scripts) c.against_by.ensures ∙ c.in-Ok.ensures.count
