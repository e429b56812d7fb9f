use Rattle.std.proofs.Common.{ap, sym, ◌∙◌}
use Rattle.seat_scripts.specs.Repeated.{fault_of_past}
use Rattle.seat_scripts.proofs.asked.asked_of.Goals as goal

pub returns-in-Err-clause-fault : goal.returns-in-Err-clause-fault
returns-in-Err-clause-fault c =
    let said = c.in-Err.ensures.fault in
    record {
      of_past = said.0;
      answer_is = ap (fault_of_past c.args.again c.args.start.known) (sym c.either-is_repeated.ensures) ∙ said.2;
      fault_is = said.1;
    }

pub returns-in-Ok-clause-ok : goal.returns-in-Ok-clause-ok
returns-in-Ok-clause-ok c = record {
  answer_is = ap (fault_of_past c.args.again c.args.start.known) (sym c.either-is_repeated.ensures) ∙ c.in-Ok.ensures.ok;
  asked_is = c.asked_by.ensures;
}
