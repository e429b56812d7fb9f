use Rattle.std.proofs.Common.{sym, ap, ◌∙◌, Some}
use Rattle.seat_seal.specs.declared.seal.Seal.{Seal}
use Rattle.seat_seal.proofs.Answering.{not_none, is_that, keeps_rules, text_is, has_text}
use Rattle.seat_seal.proofs.reading.read_seal.Goals as goal

pub returns-in_err-seal-clause-only : goal.returns-in_err-seal-clause-only
returns-in_err-seal-clause-only c = λ seal is text. absurd (not_none c.args.bytes.now c.seal_at.result seal c.seal_at.ensures c.in_err-seal.was is text)

pub returns-then-not-is_seal-clause-only : goal.returns-then-not-is_seal-clause-only
returns-then-not-is_seal-clause-only c = λ seal is text.
    let same = is_that c.args.bytes.now c.seal_at.result c.in_ok-seal.seal seal c.seal_at.ensures c.in_ok-seal.was is text in
    absurd (keeps_rules c.in_ok-seal.seal seal same is (sym c.is_seal.ensures ∙ c.if-not-is_seal.true))

pub returns-then-not-is_text_of-clause-only : goal.returns-then-not-is_text_of-clause-only
returns-then-not-is_text_of-clause-only c = λ seal is text.
    let same = is_that c.args.bytes.now c.seal_at.result c.in_ok-seal.seal seal c.seal_at.ensures c.in_ok-seal.was is text in
    absurd (has_text c.args.bytes.now c.in_ok-seal.seal seal same text (sym c.is_text_of.ensures.value ∙ c.if-not-is_text_of.true))

pub returns-clause-only : goal.returns-clause-only
returns-clause-only c = λ seal is text. ap (λ (s : Seal). Some s) (is_that c.args.bytes.now c.seal_at.result c.in_ok-seal.seal seal c.seal_at.ensures c.in_ok-seal.was is text)

pub returns-clause-found : goal.returns-clause-found
returns-clause-found c = (
  record {
    first = c.is_text_of.ensures.first;
    second = c.is_text_of.ensures.second;
    rules = sym c.is_seal.ensures ∙ c.if-not-is_seal.false;
  },
  text_is c.args.bytes.now c.in_ok-seal.seal (sym c.is_text_of.ensures.value ∙ c.if-not-is_text_of.false),
)
