use Rattle.std.proofs.Common.{◌≡◌, eqb, take}
use Rattle.std.specs.List.{list_all}
use Rattle.words.proofs.row.are_unused.Given as goal

abbrev pub invariant-loop-symbol : goal.invariant-loop-symbol
invariant-loop-symbol l = l.fit ≡ list_all (λ s. eqb s 0) (take l.symbol-index l.symbols)
