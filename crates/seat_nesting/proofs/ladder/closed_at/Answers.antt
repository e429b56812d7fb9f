use Rattle.std.proofs.Common.{Option, length, ap, sym, ◌∙◌}
use Rattle.std.proofs.lemmas.Bool.{ltb-false, ltb-true}
use Rattle.std.proofs.lemmas.Option.{slice_get-get_or, slice_get_past}
use Rattle.seat_nesting.specs.Changing.{closed_from}
use Rattle.seat_nesting.specs.declared.ladder.Step.{Step}
use Rattle.seat_nesting.proofs.ladder.closed_at.Goals as goal

pub returns-in-Some : goal.returns-in-Some
returns-in-Some c =
    ap (λ (s : Step). s.closed) c.in-Some.ensures.lookup.1
    ∙ ap (λ (o : Option Step). closed_from o c.args.closed)
    (sym (slice_get-get_or c.args.marks.now c.args.rank c.in-Some.step.now (ltb-true c.args.rank (length c.args.marks.now) (sym c.in-Some.ensures.lookup.0))))

pub returns-in-None : goal.returns-in-None
returns-in-None c =
    sym (ap (λ (o : Option Step). closed_from o c.args.closed)
    (slice_get_past c.args.marks.now c.args.rank (ltb-false c.args.rank (length c.args.marks.now) (sym c.in-None.ensures.lookup.0))))
