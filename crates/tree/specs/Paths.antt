-- The spelling of a cell: the symbols on the way down to it.
use Rattle.std.specs.Prelude.{◌≡◌, ℕ, zero, suc, ◌<◌, ◌≢◌, List, [], ◌∷◌, ◌++◌, Some, None, Option}
use Rattle.tree.specs.declared.cell.Link.{Link}
use Rattle.tree.specs.declared.cell.Cell.{Cell}
use Rattle.tree.specs.Cells.{at, links, ups}

-- by at most n steps up
unfoldable pub climb : ℕ → List Link → (ℕ → ℕ) → ℕ → List ℕ
climb zero ls up i = []
climb (suc n) ls up zero = []
climb (suc n) ls up (suc i) = climb n ls up (up (suc i)) ++ ((at ls (suc i)).symbol ∷ [])

-- a parent stands before its children, so that i steps are enough
unfoldable pub path : List Link → (ℕ → ℕ) → ℕ → List ℕ
path ls up i = climb i ls up i

-- the spelling of cell i, of which the links alone say the way down
abbrev pub spelling_at : {V : Type 0} → List (Cell V) → ℕ → ℕ → List ℕ
spelling_at cs used i = path (links cs) (ups cs used) i

-- the cell of the spelling w, or there is none
abbrev pub Found : List Link → (ℕ → ℕ) → ℕ → List ℕ → Option ℕ → Type 0
Found ls up used w (Some r) = (r < used) × (path ls up r ≡ w)
Found ls up used w None = (i : ℕ) → i < used → path ls up i ≢ w
