use Rattle.std.proofs.Common.{sym, ◌∙◌}
use Rattle.seat_restoring.proofs.Sealed.{are_seals, are_unsealable}
use Rattle.seat_restoring.proofs.sealing.seals_of.Goals as goal

pub returns-then-not-may_be_sealed-clause-none : goal.returns-then-not-may_be_sealed-clause-none
returns-then-not-may_be_sealed-clause-none c = are_unsealable c.args.seal.now c.args.basis.now c.args.bytes.now c.args.found.now.core.journal c.args.imprint.now c.count_of-lines.result
    c.runs_over-runs.result c.runs_over-more.result c.open_over-begun.result c.closed_over-newer.result
    c.requires.imprint c.count_of-lines.ensures c.runs_over-runs.ensures c.closed_over-newer.ensures.entry c.runs_over-more.ensures c.open_over-begun.ensures.entry
    c.era_of-era.result c.era_of-era.ensures c.closed_over-newer.ensures.era c.open_over-begun.ensures.era
    (sym c.may_be_sealed.ensures ∙ c.if-not-may_be_sealed.true)

pub returns-clause-seals : goal.returns-clause-seals
returns-clause-seals c = are_seals c.args.seal.now c.args.basis.now c.args.bytes.now c.args.found.now.core.journal c.args.imprint.now c.count_of-lines.result
    c.runs_over-runs.result c.runs_over-more.result c.open_over-begun.result c.closed_over-newer.result
    c.requires.imprint c.count_of-lines.ensures c.runs_over-runs.ensures c.closed_over-newer.ensures.entry c.runs_over-more.ensures c.open_over-begun.ensures.entry
    c.era_of-era.result c.era_of-era.ensures c.closed_over-newer.ensures.era c.open_over-begun.ensures.era
    c.seal_texts.result.both.items c.seal_texts.result.alone.items c.seal_texts.ensures.both c.seal_texts.ensures.alone c.seal_texts.ensures.first c.seal_texts.ensures.each c.seal_texts.ensures.last
