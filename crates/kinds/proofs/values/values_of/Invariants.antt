use Rattle.std.proofs.Common.{◌≡◌, length}
use Rattle.words.specs.Views.{headword}
use Rattle.kinds.specs.Gaps.{gap_count}
use Rattle.kinds.proofs.Starting.{StartsTo}
use Rattle.kinds.proofs.values.values_of.Given as goal

abbrev pub invariant-loop-start : goal.invariant-loop-start
invariant-loop-start g l = record { full : length l.gaps ≡ gap_count; raised : StartsTo (g.B.ReadingBook.held l.book) (headword l.word) l.start l.gaps }
