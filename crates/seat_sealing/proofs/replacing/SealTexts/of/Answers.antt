use Rattle.seat_sealing.proofs.replacing.SealTexts.of.Goals as goal

pub returns-clause-both : goal.returns-clause-both
returns-clause-both c = c.seal_text.ensures.text

pub returns-clause-alone : goal.returns-clause-alone
returns-clause-alone c = c.seal_text-alone.ensures.text
