-- Cells by their numbers, as links name them: the root, which nothing links to, has the number 0, and so has no cell.
use Rattle.std.specs.Prelude.{ℕ, ◌<◌, cond, ◌==◌, Some, None, Option}

-- the cell that a link names
abbrev pub cell_of : ℕ → Option ℕ
cell_of n = cond (n == 0) None (Some n)

-- and the number by which it names the cell
abbrev pub number_of : Option ℕ → ℕ
number_of None = 0
number_of (Some i) = i

-- a cell that can be linked to, or none
abbrev pub Linkable : Option ℕ → Type 0
Linkable None = Unit {0}
Linkable (Some i) = 0 < i
