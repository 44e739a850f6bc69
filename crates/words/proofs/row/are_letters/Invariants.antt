use Rattle.std.proofs.Common.{◌≡◌, take}
use Rattle.std.specs.List.{list_all}
use Rattle.words.specs.Rows.{is_symbol}
use Rattle.words.proofs.row.are_letters.Given as goal

abbrev pub invariant-loop-symbol : goal.invariant-loop-symbol
invariant-loop-symbol l = l.fit ≡ list_all is_symbol (take l.symbol-index l.symbols)
