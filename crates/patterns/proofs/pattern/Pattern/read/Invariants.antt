use Rattle.patterns.proofs.Spells.{At}
use Rattle.patterns.proofs.pattern.Pattern.read.Given as goal

abbrev pub invariant-loop-i : goal.invariant-loop-i
invariant-loop-i l = At l.text l.i l.symbols l.values l.len
