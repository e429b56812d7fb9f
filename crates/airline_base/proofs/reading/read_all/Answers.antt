use Rattle.std.proofs.Common.{◌≡◌, ℕ, ◌<◌, List, ◌++◌, Option, Some, None, length, ap, sym, subst, ◌∙◌, arith}
use Rattle.std.specs.Option.{IfSome}
use Rattle.std.specs.Io.KnownBytes.{Consumes, IsAtEnd}
use Rattle.std.proofs.KnownBytes.{Consumes-trans}
use Rattle.std.proofs.lemmas.List.{append-nil, length-append}
use Rattle.std.proofs.lemmas.Result.{err_from_is_err_and}
use Rattle.airline_base.specs.Noting.{GaveMore, noted}
use Rattle.airline_base.proofs.Turning.{wants_more}
use Rattle.airline_base.proofs.reading.read_all.Goals as goal

-- of a reader that has nothing left all was read
whole_read : (old new : Option (List ℕ)) (bytes : List ℕ) → Consumes old new bytes → IsAtEnd new → IfSome old (λ xs. bytes ≡ xs)
whole_read None new bytes consumed ends = tt
whole_read (Some xs) None bytes consumed ends = absurd consumed
whole_read (Some xs) (Some ys) bytes consumed ends = sym (consumed ∙ ap (λ (l : List ℕ). bytes ++ l) ends ∙ append-nil bytes)

gave_more : (max : ℕ) (old mid : Option (List ℕ)) (bytes : List ℕ) → Consumes old mid bytes → GaveMore max (length bytes) mid
    → IfSome old (λ xs. max < length xs)
gave_more max None mid bytes consumed more = tt
gave_more max (Some xs) None bytes consumed more = absurd consumed
gave_more max (Some xs) (Some ys) bytes consumed more = omega (arith, more, ap length consumed, length-append bytes ys)

pub returns-in_err-take_turn-clause-memory : goal.returns-in_err-take_turn-clause-memory
returns-in_err-take_turn-clause-memory g c =
    let p = err_from_is_err_and c.from_residual.result c.from_residual.ensures.1 in
    rw (p.1, p.2) (λ e. wants_more c.args.max _ _ _ _ _ c.loop-bytes.bytes.items c.loop-bytes.invariant (c.in_err-take_turn.ensures.memory e))

pub returns-in_err-take_turn-clause-bound : goal.returns-in_err-take_turn-clause-bound
returns-in_err-take_turn-clause-bound g c = rw (err_from_is_err_and c.from_residual.result c.from_residual.ensures.1).1 tt

pub returns-in_err-take_turn-clause-bytes : goal.returns-in_err-take_turn-clause-bytes
returns-in_err-take_turn-clause-bytes g c = rw (err_from_is_err_and c.from_residual.result c.from_residual.ensures.1).1 tt

pub returns-in_err-take_turn-clause-end : goal.returns-in_err-take_turn-clause-end
returns-in_err-take_turn-clause-end g c = rw (err_from_is_err_and c.from_residual.result c.from_residual.ensures.1).1 tt

pub returns-in_err-take_turn-clause-whole : goal.returns-in_err-take_turn-clause-whole
returns-in_err-take_turn-clause-whole g c = rw (err_from_is_err_and c.from_residual.result c.from_residual.ensures.1).1 tt

pub returns-in_err-take_turn-clause-counted : goal.returns-in_err-take_turn-clause-counted
returns-in_err-take_turn-clause-counted g c = rw (err_from_is_err_and c.from_residual.result c.from_residual.ensures.1).1 tt

pub returns-in_err-take_turn-clause-device : goal.returns-in_err-take_turn-clause-device
returns-in_err-take_turn-clause-device g c =
    let p = err_from_is_err_and c.from_residual.result c.from_residual.ensures.1 in
    rw (p.1, p.2) (λ e. c.in_err-take_turn.ensures.device e ∙ ap noted c.loop-bytes.invariant.counted)

pub returns-in_err-take_turn-clause-uncounted : goal.returns-in_err-take_turn-clause-uncounted
returns-in_err-take_turn-clause-uncounted g c =
    let p = err_from_is_err_and c.from_residual.result c.from_residual.ensures.1 in
    rw (p.1, p.2) (λ e. c.in_err-take_turn.ensures.uncounted e ∙ c.loop-bytes.invariant.counted)

pub returns-in_err-take_turn-clause-large : goal.returns-in_err-take_turn-clause-large
returns-in_err-take_turn-clause-large g c =
    let p = err_from_is_err_and c.from_residual.result c.from_residual.ensures.1 in
    rw (p.1, p.2) (λ e. gave_more c.args.max (g.R.Read.remaining c.args.reader.now) (g.R.Read.remaining c.loop-bytes.reader) c.loop-bytes.bytes.items
    c.loop-bytes.invariant.consumed (c.in_err-take_turn.ensures.large e))

pub take_turn-requires : goal.take_turn-requires
take_turn-requires g c = record { room = c.loop-bytes.invariant.within }

pub returns-clause-bound : goal.returns-clause-bound
returns-clause-bound g c = c.in_ok-take_turn.ensures.turned.within

pub returns-clause-bytes : goal.returns-clause-bytes
returns-clause-bytes g c =
    let turn = c.in_ok-take_turn.ensures.turned in
    subst (Consumes (g.R.Read.remaining c.args.reader.now) (g.R.Read.remaining c.take_turn.new.reader)) (sym turn.appended)
    (Consumes-trans (g.R.Read.remaining c.args.reader.now) (g.R.Read.remaining c.loop-bytes.reader) (g.R.Read.remaining c.take_turn.new.reader)
    c.loop-bytes.bytes.items turn.got c.loop-bytes.invariant.consumed turn.consumed)

pub returns-clause-end : goal.returns-clause-end
returns-clause-end g c = (c.in_ok-take_turn.ensures.turned.ended c.if-branch.false).1

pub returns-clause-whole : goal.returns-clause-whole
returns-clause-whole g c =
    whole_read (g.R.Read.remaining c.args.reader.now) (g.R.Read.remaining c.take_turn.new.reader) c.take_turn.new.bytes.items
    (returns-clause-bytes g c) (returns-clause-end g c)

pub loop-bytes-preserved : goal.loop-bytes-preserved
loop-bytes-preserved g c =
    let turn = c.in_ok-take_turn.ensures.turned in
    record {
      consumed = subst (Consumes (g.R.Read.remaining c.args.reader.now) (g.R.Read.remaining c.take_turn.new.reader)) (sym turn.appended)
          (Consumes-trans (g.R.Read.remaining c.args.reader.now) (g.R.Read.remaining c.loop-bytes.reader) (g.R.Read.remaining c.take_turn.new.reader)
          c.loop-bytes.bytes.items turn.got c.loop-bytes.invariant.consumed turn.consumed);
      within = turn.within;
      counted = c.in_ok-take_turn.ensures.counted ∙ c.loop-bytes.invariant.counted;
    }
