use Rattle.std.proofs.Common.{◌≡◌, ℕ, ◌<◌, Bool, ◌||◌, ltb, List, length, get_or, Ok, Err, Result, sym, ap, ◌∙◌, subst, ap₂}
use Rattle.std.proofs.lemmas.List.{length-map}
use Rattle.patterns.specs.declared.pattern.Row.{Row}
use Rattle.patterns.specs.Views.{symbols_of}
use Rattle.patterns.proofs.Round.{valid_of}
use Rattle.books.specs.Maps.{Map, holds}
use Rattle.books.specs.Calls.{Raising}
use Rattle.books.specs.declared.book.Full.{Full}
use Rattle.tree.specs.Stands.{limit_of, allowed, Adding}
use Rattle.tree.specs.RowKind.{row_kind}
use Rattle.makes.specs.TreeBooks.{book_of, rows, Bounded}
use Rattle.makes.proofs.Booked.{book_holds, book_joined, joined_bounded}
use Rattle.makes.proofs.booking.TreeBookWritingBook.raise.Goals as goal

-- a joining is allowed in a book where it is in its rows
allowed_book : (m : Map Row) (limit : ℕ) (u : List ℕ) → (holds (book_of m) u || ltb (length (book_of m)) limit) ≡ allowed m limit u
allowed_book m limit u = ap₂ (λ (b : Bool) (n : ℕ). b || ltb n limit) (book_holds m u) (length-map m (λ e. (e.0, e.1.values)))

raising : (m n : Map Row) (limit : ℕ) (u : List ℕ) (r : Row) (o : Result (Unit {0}) Full) → Adding row_kind m limit u r o n → Raising (book_of m) limit (u, r.values) o (book_of n)
raising m n limit u r (Ok done) j = (allowed_book m limit u ∙ j.0, book_joined m n u r j.1.joined)
raising m n limit u r (Err full) j = (allowed_book m limit u ∙ j.0, ap book_of j.1)

bounded : (m n : Map Row) (limit : ℕ) (u : List ℕ) (r : Row) → ((k : ℕ) → length u < k → get_or r.values k 0 ≡ 0) → Bounded m → (o : Result (Unit {0}) Full) → Adding row_kind m limit u r o n → Bounded n
bounded m n limit u r z b (Ok done) j = joined_bounded m n u r z j.1.joined b
bounded m n limit u r z b (Err full) j = subst Bounded (sym j.1) b

pub invariant_of-self : goal.invariant_of-self
invariant_of-self c =
    let t = c.args.self.now.standing.tree in
    let p = c.args.pattern.now in
    record { bounded = bounded (rows t) (rows c.join.new.self.tree) (limit_of (length t.cells.now)) (symbols_of p.spelling) p.row (valid_of p p.spelling.full p.row.full).within c.args.self.now.bounded c.join.result c.join.ensures.added }

pub returns : goal.returns
returns c =
    let t = c.args.self.now.standing.tree in
    let p = c.args.pattern.now in
    record {
      limit = ap limit_of c.join.ensures.cells;
      held = raising (rows t) (rows c.join.new.self.tree) (limit_of (length t.cells.now)) (symbols_of p.spelling) p.row c.join.result c.join.ensures.added;
    }
