-- What a tree book means.
use Rattle.std.specs.Prelude.{◌≡◌, ℕ, ◌<◌, List, map, length, slice_index}
use Rattle.patterns.specs.declared.pattern.Row.{Row}
use Rattle.books.specs.Maps.{Map, lookup}
use Rattle.books.specs.Books.{Book}
use Rattle.tree.specs.declared.tree.Tree.{Tree}
use Rattle.tree.specs.Holds.{held}
use Rattle.tree.specs.RowKind.{row_kind, no_row}

-- rows by spelling as a book, in which a row is the list of its values
abbrev pub book_of : Map Row → Book
book_of m = map (λ e. (e.0, e.1.values)) m

-- the rows held, by spelling
abbrev pub rows : Tree Row → Map Row
rows t = held row_kind t

-- the patterns held
abbrev pub booked : Tree Row → Book
booked t = book_of (rows t)

-- no row has a value beyond the last place of its spelling
abbrev pub Bounded : Map Row → Type 0
Bounded m = (u : List ℕ) (k : ℕ) → length u < k → slice_index (lookup no_row m u).values k ≡ 0
