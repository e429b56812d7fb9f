use Rattle.std.proofs.Common.{List, Some, None, ap, ◌∙◌}
use Rattle.std.specs.List.{slice_get}
use Rattle.carry_protections.specs.declared.course.Course.{Course}
use Rattle.carry_protections.proofs.Numbering.{course_is}
use Rattle.carry_protections.proofs.by_place.Courses.course.Goals as goal

pub returns-in-Some : goal.returns-in-Some
returns-in-Some c =
    c.row_at.ensures
    ∙ ap (λ (l : List Course). slice_get l c.in-Some.number) c.as_slice.ensures.value
    ∙ course_is c.self.inside.numbers c.self.inside.rows.items c.args.self.now c.args.place (Some c.in-Some.number) c.self.invariant c.in-Some.ensures c.self.view_is

pub returns-in-None : goal.returns-in-None
returns-in-None c =
    course_is c.self.inside.numbers c.self.inside.rows.items c.args.self.now c.args.place None c.self.invariant c.in-None.ensures c.self.view_is
