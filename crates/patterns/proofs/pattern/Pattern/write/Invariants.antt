use Rattle.std.proofs.Common.{◌≡◌, ◌++◌, length, drop}
use Rattle.std.specs.Iterator.Adapters.{zip_first, zip_second}
use Rattle.std.specs.Slice.Iter.{iter_rest}
use Rattle.patterns.specs.Texts.{text_to}
use Rattle.patterns.specs.Views.{symbols_of}
use Rattle.patterns.proofs.pattern.Pattern.write.Given as goal

-- the text so far stands first, and the memory behind it is as it was
abbrev pub invariant-loop-symbol : goal.invariant-loop-symbol
invariant-loop-symbol l = record {
  symbols : iter_rest (zip_first l.initial.symbol-iterator) ≡ symbols_of l.self.spelling;
  values : iter_rest (zip_second l.initial.symbol-iterator) ≡ drop 1 l.self.row.values;
  place : l.at ≡ length (text_to (symbols_of l.self.spelling) l.self.row.values (length l.yielded));
  left : l.memory ≡ text_to (symbols_of l.self.spelling) l.self.row.values (length l.yielded) ++ drop l.at l.initial.memory;
}
