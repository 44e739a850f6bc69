use Rattle.patterns.proofs.Rowing.{JoinedTo}
use Rattle.patterns.proofs.pattern.Row.greater.Given as goal

abbrev pub invariant-loop-k : goal.invariant-loop-k
invariant-loop-k l = JoinedTo l.self.values l.other.values l.k l.value-items
