use Rattle.std.proofs.Common.{◌≡◌, List, false, length, ap, subst, sym, ◌∙◌}
use Rattle.carry_protections.specs.Courses.{has_course}
use Rattle.carry_protections.specs.declared.course.Course.{Course}
use Rattle.carry_protections.proofs.Numbering.{numbers_more}
use Rattle.carry_protections.proofs.by_place.Courses.push.Goals as goal

pub invariant_of-self-2 : goal.invariant_of-self-2
invariant_of-self-2 c =
    let i = c.self.inside in
    let none : has_course i.rows.items c.args.course.from ≡ false =
    subst (λ (l : List Course). has_course l c.args.course.from ≡ false) (sym c.self.view_is) c.requires in
    numbers_more i.numbers c.reserve.new.numbers c.put_reserved.new.numbers i.rows.items c.push_row.new.rows.items c.args.course c.spot_of.result
    c.count_of-number.result c.self.invariant c.reserve.ensures.same none c.in_ok-push_row.ensures.added c.spot_of.ensures (c.count_of-number.ensures ∙ ap length c.as_slice.ensures.value) c.put_reserved.ensures
