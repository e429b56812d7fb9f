use Rattle.std.proofs.Common.{◌-◌, length, ap, sym, ◌∙◌}
use Rattle.std.proofs.lemmas.List.FromFn.{length-range_with_len}
use Rattle.ssim_flights.proofs.rows.RowRange.len.Goals as goal

pub returns : goal.returns
returns c = sym (length-range_with_len c.self.inside.begin (c.self.inside.end - c.self.inside.begin)) ∙ ap length c.self.view_is
