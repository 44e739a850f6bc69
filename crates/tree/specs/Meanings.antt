-- What cells mean: a map from spellings to values.
use Rattle.std.specs.Prelude.{ℕ, zero, suc, cond, ◌≢◌, List, [], slice_index_or}
use Rattle.std.specs.List.{AllByRecursion}
use Rattle.books.specs.Maps.{Map, Ascending, raised}
use Rattle.tree.specs.declared.cell.Link.{Link}
use Rattle.tree.specs.declared.cell.Cell.{Cell}
use Rattle.tree.specs.Cells.{links, values, ups}
use Rattle.tree.specs.Paths.{path}
use Rattle.tree.specs.Kinds.{Kind}

module _ {V : Type 0} (K : Kind V) where
  -- the entries ascend, and none holds nothing
  pub record Sound (m : Map V) : Type 0 where
    pub ascends : Ascending m
    pub some : AllByRecursion (λ e. e.1 ≢ K.nothing) m

  -- v joined at the spelling u; a nothing leaves all as it was
  unfoldable pub put : List ℕ → V → Map V → Map V
  put u v m = cond (K.bare v) m (raised K.join u v m)

  -- the first n cells, each with its value at its spelling
  unfoldable pub meant : List Link → (ℕ → ℕ) → List V → ℕ → Map V
  meant ls up vs zero = []
  meant ls up vs (suc n) = put (path ls up n) (slice_index_or vs n K.nothing) (meant ls up vs n)

  -- the cells in use
  abbrev pub meaning : List (Cell V) → ℕ → Map V
  meaning cs used = meant (links cs) (ups cs used) (values cs) used
