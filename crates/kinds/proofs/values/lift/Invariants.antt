use Rattle.std.proofs.Common.{◌≡◌, take}
use Rattle.patterns.specs.Spellings.{greater}
use Rattle.kinds.proofs.values.lift.Given as goal

abbrev pub invariant-loop-k : goal.invariant-loop-k
invariant-loop-k l = l.gaps ≡ greater l.initial.gaps (take l.k l.row.values)
