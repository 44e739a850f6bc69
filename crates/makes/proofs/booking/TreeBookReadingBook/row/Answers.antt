use Rattle.std.proofs.Common.{sym, ap, ◌∙◌}
use Rattle.patterns.specs.declared.pattern.Row.{Row}
use Rattle.patterns.specs.Views.{symbols_of}
use Rattle.makes.specs.TreeBooks.{rows}
use Rattle.makes.proofs.Booked.{book_lookup}
use Rattle.makes.proofs.booking.TreeBookReadingBook.row.Goals as goal

pub returns : goal.returns
returns c = ap (λ (r : Row). r.values) c.value.ensures ∙ sym (book_lookup (rows c.args.self.now.standing.tree) (symbols_of c.args.spelling.now))
