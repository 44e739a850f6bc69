use Rattle.text.proofs.Values.{ReadTo}
use Rattle.text.proofs.figures.read_figure.Given as goal

abbrev pub invariant-loop-b : goal.invariant-loop-b
invariant-loop-b l = ReadTo l.piece l.value l.b-index
