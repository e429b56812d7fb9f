use Rattle.std.proofs.Common.{ap, map, ◌∙◌}
use Rattle.limit_changes.specs.Laws.{change_in}
use Rattle.carry_limits.proofs.Promised as promised
use Rattle.carry_limits.proofs.changing.changes_for.Goals as goal

pub returns : goal.returns
returns c = record {
  value = promised.value c.args.seasons.now c.args.by.now _ c.in_ok-rows.rows.items c.in_ok-all.all.items c.requires.legs
      c.in_ok-lifted.ensures.value c.in_ok-lifted.ensures.nested c.in_ok-lifted.ensures.file c.in_ok-rows.ensures (c.in_ok-all.ensures ∙ ap (map change_in) c.deref.ensures.value);
  fits = promised.fits c.args.seasons.now c.args.by.now _ c.in_ok-rows.rows.items c.in_ok-all.all.items c.requires.legs
      c.in_ok-lifted.ensures.value c.in_ok-lifted.ensures.nested c.in_ok-lifted.ensures.file c.in_ok-rows.ensures (c.in_ok-all.ensures ∙ ap (map change_in) c.deref.ensures.value);
  accepted = promised.accepted c.args.seasons.now c.args.by.now _ c.in_ok-rows.rows.items c.in_ok-all.all.items c.requires.legs
      c.in_ok-lifted.ensures.value c.in_ok-lifted.ensures.nested c.in_ok-lifted.ensures.file c.in_ok-rows.ensures (c.in_ok-all.ensures ∙ ap (map change_in) c.deref.ensures.value);
  reached = promised.reached c.args.seasons.now c.args.by.now _ c.in_ok-rows.rows.items c.in_ok-all.all.items c.requires.legs
      c.in_ok-lifted.ensures.value c.in_ok-lifted.ensures.nested c.in_ok-lifted.ensures.file c.in_ok-rows.ensures (c.in_ok-all.ensures ∙ ap (map change_in) c.deref.ensures.value);
  room = promised.room c.args.seasons.now c.args.by.now _ c.in_ok-rows.rows.items c.in_ok-all.all.items c.requires.legs
      c.in_ok-lifted.ensures.value c.in_ok-lifted.ensures.nested c.in_ok-lifted.ensures.file c.in_ok-rows.ensures (c.in_ok-all.ensures ∙ ap (map change_in) c.deref.ensures.value);
  ladders = c.in_ok-lifted.ensures.file.nests c.requires.legs;
}
