-- Where a spelling stands in a book.
use Rattle.std.specs.Prelude.{◌≡◌, ℕ, ◌+◌, ◌<◌, ◌≤◌, true, List, [], length, take, drop, Ok, Err, Result, slice_index_or}
use Rattle.std.specs.List.{AllByRecursion}
use Rattle.patterns.specs.Order.{before}
use Rattle.books.specs.Books.{Book}

-- the first i entries of a book come before the spelling, and those behind the first j come after it
pub record Around (b : Book) (u : List ℕ) (i j : ℕ) : Type 0 where
  pub front : AllByRecursion (λ e. before e.0 u ≡ true) (take i b)
  pub back : AllByRecursion (λ e. before u e.0 ≡ true) (drop j b)

-- the place of the entry that has the spelling, or where one with it would stand
abbrev pub Found : Book → List ℕ → Result ℕ ℕ → Type 0
Found b u (Ok i) = (i < length b) × ((slice_index_or b i ([], [])).0 ≡ u) × Around b u i (i + 1)
Found b u (Err i) = (i ≤ length b) × Around b u i i
