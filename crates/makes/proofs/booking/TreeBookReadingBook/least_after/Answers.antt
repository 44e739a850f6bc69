use Rattle.std.proofs.Common.{sym, ap, ◌∙◌}
use Rattle.patterns.specs.Views.{symbols_of}
use Rattle.books.specs.Maps.{least_of, after}
use Rattle.makes.specs.TreeBooks.{rows}
use Rattle.makes.proofs.Booked.{book_least, book_after}
use Rattle.makes.proofs.booking.TreeBookReadingBook.least_after.Goals as goal

pub returns : goal.returns
returns c =
    let m = rows c.args.self.now.standing.tree in
    let u = symbols_of c.args.other.now in
    c.least_after.ensures ∙ sym (ap least_of (book_after u m) ∙ book_least (after u m))
