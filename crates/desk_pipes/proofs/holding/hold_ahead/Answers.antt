use Rattle.std.proofs.Common.{◌∙◌, ℕ, List, arith, subst, sym}
use Rattle.desk_pipes.specs.Marks.{IsSeen}
use Rattle.desk_pipes.proofs.Marks.{more_read, none_read, none_seen}
use Rattle.desk_pipes.proofs.holding.hold_ahead.Goals as goal

pub pieces-init : goal.pieces-init
pieces-init g c = (
  none_read (g.I.Read.remaining c.args.input.now) c.clear.new.self.items c.clear.ensures.items,
  subst (λ (x : List ℕ × ℕ). IsSeen c.of-ahead.result.mark.bytes x.0 x.1)
      (λ i. (sym c.clear.ensures.items i, sym c.of-ahead.ensures.1 i)) (none_seen c.of-ahead.result.mark.bytes),
  omega (arith, c.of-ahead.ensures.1),
  c.of-ahead.ensures.0,
)

pub pieces-preserved : goal.pieces-preserved
pieces-preserved g c = (
  more_read (g.I.Read.remaining c.args.input.now) (g.I.Read.remaining c.pieces.input) (g.I.Read.remaining c.read.new.self)
      c.pieces.held.items _ c.hold_piece.new.held.items c.pieces.invariant.0 c.in_ok-n.ensures.bytes.0 c.hold_piece.ensures.held,
  c.hold_piece.ensures.seen c.if-hold_piece.false,
  c.hold_piece.ensures.open c.if-hold_piece.false,
  c.hold_piece.ensures.mark ∙ c.pieces.invariant.3,
)

pub returns-then-hold_piece-clause-bytes : goal.returns-then-hold_piece-clause-bytes
returns-then-hold_piece-clause-bytes g c =
    more_read (g.I.Read.remaining c.args.input.now) (g.I.Read.remaining c.pieces.input) (g.I.Read.remaining c.read.new.self)
    c.pieces.held.items _ c.hold_piece.new.held.items c.pieces.invariant.0 c.in_ok-n.ensures.bytes.0 c.hold_piece.ensures.held
