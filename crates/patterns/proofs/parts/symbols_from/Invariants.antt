use Rattle.std.proofs.Common.{◌≡◌, ℕ, ◌+◌, ◌<◌, get_or}
use Rattle.words.specs.Views.{headword}
use Rattle.patterns.specs.Parts.{padded}
use Rattle.patterns.proofs.parts.symbols_from.Given as goal

abbrev pub invariant-loop-k : goal.invariant-loop-k
invariant-loop-k l = (j : ℕ) → j < l.k → get_or l.symbol-items j 0 ≡ get_or (padded (headword l.word)) (l.start + j) 0
