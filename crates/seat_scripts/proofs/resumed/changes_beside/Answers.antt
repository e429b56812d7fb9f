use Rattle.std.proofs.Common.{◌≡◌, Bool, None, Some, inl, inr, subst, ℕ}
use Rattle.std.proofs.lemmas.Result.{err_from_is_err_and}
use Rattle.seat_seal.specs.Booked.{changes_booked}
use Rattle.seat_seal.specs.Known.{runs_known}
use Rattle.seat_scripts.proofs.Judged.{not_device, not_large}
use Rattle.seat_scripts.specs.Begun.{fault_of_known}
use Rattle.seat_scripts.specs.GoneOn.{lines_ahead}
use Rattle.seat_scripts.specs.Repeated.{IsBookedOf}
use Rattle.seat_scripts.proofs.resumed.changes_beside.Goals as goal

pub returns-in_err-made-clause-fault : goal.returns-in_err-made-clause-fault
returns-in_err-made-clause-fault g c =
    let p = err_from_is_err_and c.from_residual.result c.from_residual.ensures.1 in
    rw (p.1, p.2) (λ input. inl (record { of_changes = c.in_err-made.ensures.changes input; unchanged = c.in_err-made.ensures.fault input }))

pub returns-in_err-of_known-clause-fault : goal.returns-in_err-of_known-clause-fault
returns-in_err-of_known-clause-fault g c =
    let p = err_from_is_err_and c.from_residual-in_err-of_known.result c.from_residual-in_err-of_known.ensures.1 in
    let read = c.args.read.now in
    let made = c.in_ok-made.made in
    let said = c.in_err-of_known.ensures.fault in
    rw (p.1, p.2) (λ input. inr (record {
      made = made;
      are_changes = c.in_ok-made.ensures.ok;
      of_runs = said.0;
      is_judged = record {
        booked = made.are_booked;
        are_booked = subst (λ (n : ℕ). IsBookedOf (changes_booked (Some n) (runs_known read.known)) (g.D.Read.remaining c.args.changes.now) made.are_booked) c.lines_ahead.ensures c.in_ok-made.ensures.booked;
        answer_is = subst (λ (b : Bool). fault_of_known c.args.again c.args.given (lines_ahead read) read.known b ≡ Some said.0) c.either-is_repeated.ensures said.2;
      };
      fault_is = said.1;
    }))

pub returns-in_err-of_known-clause-large : goal.returns-in_err-of_known-clause-large
returns-in_err-of_known-clause-large g c =
    let p = err_from_is_err_and c.from_residual-in_err-of_known.result c.from_residual-in_err-of_known.ensures.1 in
    let said = c.in_err-of_known.ensures.fault in
    rw (p.1, p.2) (λ large. absurd (not_large c.in_err-of_known.field-0.0 said.0 said.1 large))

pub returns-in_err-of_known-clause-device : goal.returns-in_err-of_known-clause-device
returns-in_err-of_known-clause-device g c =
    let p = err_from_is_err_and c.from_residual-in_err-of_known.result c.from_residual-in_err-of_known.ensures.1 in
    let said = c.in_err-of_known.ensures.fault in
    rw (p.1, p.2) (λ device. absurd (not_device c.in_err-of_known.field-0.0 said.0 said.1 device))

pub returns-clause-ok : goal.returns-clause-ok
returns-clause-ok g c =
    let read = c.args.read.now in
    let made = c.in_ok-made.made in
    record {
      are_changes = c.in_ok-made.ensures.ok;
      are_on_legs = c.in_ok-made.ensures.legs;
      is_imprint = c.in_ok-made.ensures.imprint;
      is_judged = record {
        booked = made.are_booked;
        are_booked = subst (λ (n : ℕ). IsBookedOf (changes_booked (Some n) (runs_known read.known)) (g.D.Read.remaining c.args.changes.now) made.are_booked) c.lines_ahead.ensures c.in_ok-made.ensures.booked;
        answer_is = subst (λ (b : Bool). fault_of_known c.args.again c.args.given (lines_ahead read) read.known b ≡ None) c.either-is_repeated.ensures c.in_ok-of_known.ensures.ok;
      };
    }
