-- Rows of patterns in the order of their spellings.
use Rattle.std.specs.Prelude.{◌≡◌, ℕ, suc, ◌+◌, ◌<◌, true, List, [], ◌++◌, map, take, drop, slice_index_or}
use Rattle.std.specs.List.{between}
use Rattle.patterns.specs.declared.pattern.Pattern.{Pattern}
use Rattle.patterns.specs.Order.{before}
use Rattle.patterns.specs.Views.{symbols_of, spelled}
use Rattle.books.specs.Books.{Book}

-- the symbols of row k
abbrev pub key_at : List Pattern → ℕ → List ℕ
key_at rows k = slice_index_or (map (λ p. symbols_of p.spelling) rows) k []

-- each of the first n rows comes before the next
abbrev pub InOrder : List Pattern → ℕ → Type 0
InOrder rows n = (k : ℕ) → suc k < n → before (key_at rows k) (key_at rows (suc k)) ≡ true

-- what the first n rows hold
abbrev pub in_use : List Pattern → ℕ → Book
in_use rows n = map spelled (take n rows)

-- the rows from `at` to the last of n moved one further; row `at` still stands where it was too
abbrev pub opened : List Pattern → ℕ → ℕ → List Pattern
opened rows at n = take (at + 1) rows ++ (between at n rows ++ drop (n + 1) rows)
