use Rattle.std.proofs.lemmas.Result.{err_from_is_err_and}
use Rattle.command_inputs.proofs.Located.{spreads}
use Rattle.command_inputs.proofs.locators.locators_asked.Goals as goal

pub returns-in_err-add_locator-clause-fault : goal.returns-in_err-add_locator-clause-fault
returns-in_err-add_locator-clause-fault c =
    let p = err_from_is_err_and c.from_residual.result c.from_residual.ensures.1 in
    rw (p.1, p.2) (spreads (λ w. w.now) c.args.words.now c.loop-word.word-index _ c.loop-word.locators.items c.in_err-add_locator.field-0.0 c.loop-word.invariant c.loop-word-test.true c.in_err-add_locator.ensures.fault)
