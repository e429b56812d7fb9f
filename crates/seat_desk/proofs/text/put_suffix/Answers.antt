use Rattle.std.proofs.Common.{◌∙◌, ◌++◌, ap, sym}
use Rattle.std.proofs.lemmas.List.{append-nil}
use Rattle.airline_base.specs.Fields.{suffix_text}
use Rattle.seat_desk.proofs.text.put_suffix.Goals as goal

pub returns-in-None : goal.returns-in-None
returns-in-None c = sym (append-nil c.args.text.now.items) ∙ ap (λ s. c.args.text.now.items ++ suffix_text s) (sym c.in-None.is)
