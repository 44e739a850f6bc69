use Rattle.std.proofs.Common.{get_or, sym, arith}
use Rattle.text.proofs.Values.{digit_bounds, read_small}
use Rattle.text.proofs.figures.read_figure.Goals as goal

pub overflow_mul-value : goal.overflow_mul-value
overflow_mul-value c = omega (arith, read_small c.args.piece.now c.loop-b.value c.loop-b.b-index c.loop-b.invariant (omega arith))

pub overflow_add-value : goal.overflow_add-value
overflow_add-value c =
    omega (
      arith,
      read_small c.args.piece.now c.loop-b.value c.loop-b.b-index c.loop-b.invariant (omega arith),
      digit_bounds (get_or c.args.piece.now c.loop-b.b-index 0) (sym c.if-not-is_ascii_digit.ensures.value),
    )
