-- What a book means: the patterns that it holds.
use Rattle.std.specs.Prelude.{ℕ, List}
use Rattle.std.specs.List.{AllByRecursion}
use Rattle.patterns.specs.Spellings.{Spelled, Valid, no_values, greater}
use Rattle.books.specs.Maps.{Map, Ascending, lookup, Joined}

-- A book is a map from spellings to rows, which are lists of 16 values.
abbrev pub Book : Type 0
Book = Map (List ℕ)

-- its entries ascend, and each is a pattern, so that each row has some value above 0
pub record Sound (b : Book) : Type 0 where
  pub ascends : Ascending b
  pub patterns : AllByRecursion Valid b

-- the row of a spelling: that of its pattern, or all 0
abbrev pub row_in : Book → List ℕ → List ℕ
row_in b u = lookup no_values b u

-- the pattern's spelling has at each place the greater of its old and its new value
abbrev pub Raised : Book → Spelled → Book → Type 0
Raised old p new = Joined no_values greater old p.0 p.1 new
