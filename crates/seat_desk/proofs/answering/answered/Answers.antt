use Rattle.std.proofs.Common.{◌≡◌, ◌⊎◌, inl, inr, subst}
use Rattle.seat_desk.specs.Answering.{IsFirstTooLarge, IsRefusedAnswer}
use Rattle.seat_desk.specs.Desk.{IsOfInput}
use Rattle.seat_desk.specs.declared.fault.DeskFault.{DeskFault}
use Rattle.seat_desk.specs.declared.fault.DeskFault.TheVariants.{Device, Memory, TooLarge}
use Rattle.seat_desk.specs.Loading.{IsFirstTooLargeLoad, IsRefusedLoad}
use Rattle.seat_desk.proofs.Answered.{answer_of, behind_load, refused_of}
use Rattle.seat_desk.proofs.answering.answered.Goals as goal

pub returns-in-Err-text-clause-fault : goal.returns-in-Err-text-clause-fault
returns-in-Err-text-clause-fault g c =
    refused_of (g.I.Read.remaining c.args.inputs.now.set) (g.I.Read.remaining c.args.inputs.now.limits) (g.I.Read.remaining c.args.journal.now) c.args.inputs.now.first c.args.inputs.now.days
    c.in-Ok.based.loaded.flights c.in-Ok.based.loaded.rows c.in-Ok.based.loaded.grid c.in-Ok-read_input.bytes.items c.deref.result.now c.args.beside.now c.in-Ok.based.basis c.is_some.result
    c.in-Ok.ensures.rows c.in-Ok.ensures.basis c.is_some.ensures c.in-Ok.ensures.ladders c.in-Ok-read_input.ensures.whole c.in-Ok-read_input.ensures.within c.deref.ensures.value
    (g.Q.Question.refuses c.args.question.now) c.in-Err-text.fault c.in_ok-agreed.ensures.ok c.in-Err-text.ensures.fault

pub returns-in-Err-clause-fault : goal.returns-in-Err-clause-fault
returns-in-Err-clause-fault g c = λ input.
    behind_load (λ xs ys. IsRefusedLoad xs ys c.args.inputs.now.first c.args.inputs.now.days c.in-Err.fault)
    (λ xs ys zs. IsRefusedAnswer (g.Q.Question.refuses c.args.question.now) c.args.beside.now xs ys c.args.inputs.now.first c.args.inputs.now.days zs c.in-Err.fault)
    (g.I.Read.remaining c.args.inputs.now.set) (g.I.Read.remaining c.args.inputs.now.limits) (g.I.Read.remaining c.args.journal.now) (λ xs ys zs is. inl is) (c.in-Err.ensures.fault input)

pub returns-in-Err-clause-large : goal.returns-in-Err-clause-large
returns-in-Err-clause-large g c = λ large.
    behind_load (λ xs ys. IsFirstTooLargeLoad xs ys c.args.inputs.now.first c.args.inputs.now.days) (λ xs ys zs. IsFirstTooLarge xs ys c.args.inputs.now.first c.args.inputs.now.days zs)
    (g.I.Read.remaining c.args.inputs.now.set) (g.I.Read.remaining c.args.inputs.now.limits) (g.I.Read.remaining c.args.journal.now) (λ xs ys zs is. inl is) (c.in-Err.ensures.first_large large)

pub returns-in-Ok-text-clause-ok : goal.returns-in-Ok-text-clause-ok
returns-in-Ok-text-clause-ok g c =
    answer_of (g.I.Read.remaining c.args.inputs.now.set) (g.I.Read.remaining c.args.inputs.now.limits) (g.I.Read.remaining c.args.journal.now) c.args.inputs.now.first c.args.inputs.now.days
    c.in-Ok.based.loaded.flights c.in-Ok.based.loaded.rows c.in-Ok.based.loaded.grid c.in-Ok-read_input.bytes.items c.deref.result.now c.args.beside.now c.in-Ok.based.basis c.is_some.result
    c.in-Ok.ensures.rows c.in-Ok.ensures.basis c.is_some.ensures c.in-Ok.ensures.ladders c.in-Ok-read_input.ensures.whole c.in-Ok-read_input.ensures.within c.deref.ensures.value
    (g.Q.Question.answers c.args.question.now) c.in-Ok-text.text.items c.in_ok-agreed.ensures.ok c.in-Ok-text.ensures.ok

pub load_based-requires-clause-first : goal.load_based-requires-clause-first
load_based-requires-clause-first g c = c.requires.first

pub load_based-requires-clause-days : goal.load_based-requires-clause-days
load_based-requires-clause-days g c = c.requires.days

pub returns-in-Err-clause-device : goal.returns-in-Err-clause-device
returns-in-Err-clause-device g c = λ device. inl (c.in-Err.ensures.first_failed device)

-- a read that failed says nothing of what was read
not_input : (fault : DeskFault) → (fault ≡ TooLarge) ⊎ ((fault ≡ Device) ⊎ (fault ≡ Memory)) → IsOfInput fault → ⊥
not_input fault (inl is) input = subst IsOfInput is input
not_input fault (inr (inl is)) input = subst IsOfInput is input
not_input fault (inr (inr is)) input = subst IsOfInput is input

pub returns-in-Err-read_input-clause-fault : goal.returns-in-Err-read_input-clause-fault
returns-in-Err-read_input-clause-fault g c = λ input. absurd (not_input c.in-Err-read_input.fault c.in-Err-read_input.ensures.kind input)

pub returns-in-Err-text-clause-large : goal.returns-in-Err-text-clause-large
returns-in-Err-text-clause-large g c = λ large. absurd (c.in-Err-text.ensures.kind.1 large)

pub returns-in-Err-text-clause-device : goal.returns-in-Err-text-clause-device
returns-in-Err-text-clause-device g c = λ device. absurd (c.in-Err-text.ensures.kind.0 device)
