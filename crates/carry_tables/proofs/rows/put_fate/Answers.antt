use Rattle.std.proofs.Common.{◌≡◌, length, ap, sym, ◌∙◌}
use Rattle.std.proofs.lemmas.List.{length-map}
use Rattle.carry_tables.proofs.Rowing.{as_many, fate_put, names_shown}
use Rattle.carry_tables.specs.FateRows.{all_names, shown}
use Rattle.carry_tables.proofs.rows.put_fate.Goals as goal

pub put_row-requires-clause-whole : goal.put_row-requires-clause-whole
put_row-requires-clause-whole c =
    let same : length c.names-columns.result ≡ length c.whole_row-row.result =
    sym (length-map c.names-columns.result _) ∙ ap length c.names-columns.ensures ∙ sym (ap length c.whole_row-row.ensures) in
    ap length c.shown.ensures ∙ as_many c.args.counts.now c.names-columns.result c.whole_row-row.result same ∙ sym (ap length c.shown-2.ensures)

pub returns : goal.returns
returns c =
    fate_put c.args.counts.now _ _ c.args.olds.now c.args.news.now c.args.fated.now c.args.sheet.now c.put_row.new.sheet
    (names_shown _ c.args.counts.now _ _ all_names c.shown.ensures c.names-columns.ensures)
    (c.shown-2.ensures ∙ ap (shown c.args.counts.now) c.whole_row-row.ensures) c.in_ok-put_row.ensures
