use Rattle.std.proofs.Common.{◌∙◌}
use Rattle.carry_protections.proofs.Numbering.{has_it}
use Rattle.carry_protections.proofs.by_place.Courses.has.Goals as goal

pub returns : goal.returns
returns c =
    c.is_some.ensures
    ∙ has_it c.self.inside.numbers c.self.inside.rows.items c.args.self.now c.args.place c.number_at.result c.self.invariant c.number_at.ensures c.self.view_is
