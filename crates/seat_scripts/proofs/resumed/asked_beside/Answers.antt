use Rattle.std.proofs.Common.{inl, inr, subst, ◌≡◌}
use Rattle.seat_desk.specs.Desk.{IsOfInput}
use Rattle.seat_scripts.proofs.Common.{Memory}
use Rattle.seat_scripts.proofs.resumed.asked_beside.Goals as goal

pub returns-in-Err-clause-fault : goal.returns-in-Err-clause-fault
returns-in-Err-clause-fault g c = λ input. inl (c.in-Err.ensures.fault input)

pub returns-in-Err-asked_behind-clause-fault : goal.returns-in-Err-asked_behind-clause-fault
returns-in-Err-asked_behind-clause-fault g c =
    let wrong = c.in-Err-asked_behind in
    λ input. inr (record {
      made = c.in-Ok.made;
      are_beside = c.in-Ok.ensures.ok;
      is_no_rest = wrong.ensures.fault (λ (e : wrong.fault ≡ Memory). subst IsOfInput e input);
    })

pub returns-in-Ok-asked_behind-clause-ok : goal.returns-in-Ok-asked_behind-clause-ok
returns-in-Ok-asked_behind-clause-ok g c =
    let left = c.in-Ok-asked_behind.ensures.ok in
    record {
      made = c.in-Ok.made;
      are_beside = c.in-Ok.ensures.ok;
      is_rest = left.is_rest;
      flights_are = left.flights_are;
      past_is = left.past_is;
      basis_is = left.basis_is;
      imprints_are = left.imprints_are;
      imprint_is = left.imprint_is;
      behind_is = left.behind_is;
      earlier_is = left.earlier_is;
    }
