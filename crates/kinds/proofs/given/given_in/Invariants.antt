use Rattle.words.specs.Views.{headword}
use Rattle.kinds.specs.Kinds.{given as is_given}
use Rattle.kinds.proofs.Masks.{Setting}
use Rattle.kinds.proofs.given.given_in.Given as goal

abbrev pub invariant-loop-i : goal.invariant-loop-i
invariant-loop-i g l = Setting (is_given (g.B.ReadingBook.held l.book) (headword l.word)) l.initial.i l.i-end l.i l.given
