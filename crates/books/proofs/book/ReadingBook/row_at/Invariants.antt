use Rattle.std.proofs.Common.{◌+◌, ◌-◌, ◌≤◌}
use Rattle.words.specs.Views.{headword}
use Rattle.books.proofs.Ruling.{PartsTo}
use Rattle.books.proofs.book.ReadingBook.row_at.Given as goal

-- the parts of fewer symbols have been looked up
abbrev pub invariant-loop-len : goal.invariant-loop-len
invariant-loop-len g l = (l.len ≤ l.len-end + 1) × PartsTo (g.Self.ReadingBook.held l.self) (headword l.word) l.start (l.len - 1) l.row.values
