-- What the cells of a tree hold, and how much they can.
use Rattle.std.specs.Prelude.{ℕ, length}
use Rattle.books.specs.Maps.{Map}
use Rattle.tree.specs.declared.tree.Tree.{Tree}
use Rattle.tree.specs.Kinds.{Kind}
use Rattle.tree.specs.Meanings.{meaning}
use Rattle.tree.specs.Stands.{limit_of}

-- the values held, by spelling
abbrev pub held : {V : Type 0} → Kind V → Tree V → Map V
held K t = meaning K t.cells.now t.used

-- how many cells were lent
abbrev pub cells_of : {V : Type 0} → Tree V → ℕ
cells_of t = length t.cells.now

-- how many spellings they can hold
abbrev pub most_of : {V : Type 0} → Tree V → ℕ
most_of t = limit_of (cells_of t)
