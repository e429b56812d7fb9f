use Rattle.std.proofs.Common.{ap, inl, inr, length, refl, ◌∙◌}
use Rattle.seat_scripts.specs.AskedFrom.{is_repeated}
use Rattle.seat_scripts.specs.declared.asked.Asked.{Asked}
use Rattle.seat_scripts.proofs.asked.asked_from.Goals as goal

pub returns-in-Err-clause-none : goal.returns-in-Err-clause-none
returns-in-Err-clause-none g c = inl c.in-Err.ensures.none

pub returns-in-Err-asked_of-clause-none : goal.returns-in-Err-asked_of-clause-none
returns-in-Err-asked_of-clause-none g c =
    let read = c.in-Ok.read in
    let are = c.in-Ok.ensures.ok in
    let said = c.in-Err-asked_of.ensures.fault in
    inr (record {
      read = read;
      are_texts = are;
      of_past = said.of_past;
      is_judged = record {
        repeated = is_repeated read;
        are_repeated = record {
          scripts = read.scripts.is_booked;
          are_scripts = are.is_one_booked;
          changes = read.changes.are_booked;
          are_changes = are.is_booked;
          answer_is = refl;
        };
        answer_is = said.answer_is;
      };
      fault_is = said.fault_is;
    })

pub returns-in-Ok-asked_of-clause-ok : goal.returns-in-Ok-asked_of-clause-ok
returns-in-Ok-asked_of-clause-ok g c =
    let read = c.in-Ok.read in
    let are = c.in-Ok.ensures.ok in
    let said = c.in-Ok-asked_of.ensures.ok in
    record {
      read = read;
      are_texts = are;
      is_judged = record {
        repeated = is_repeated read;
        are_repeated = record {
          scripts = read.scripts.is_booked;
          are_scripts = are.is_one_booked;
          changes = read.changes.are_booked;
          are_changes = are.is_booked;
          answer_is = refl;
        };
        answer_is = said.answer_is;
      };
      asked_is = said.asked_is;
    }

pub returns-in-Ok-asked_of-clause-count : goal.returns-in-Ok-asked_of-clause-count
returns-in-Ok-asked_of-clause-count g c = ap (λ (a : Asked). length a.scripts) c.in-Ok-asked_of.ensures.ok.asked_is ∙ c.in-Ok.ensures.count
