-- The way down a spelling, on which the cells that are missing are made.
use Rattle.std.specs.Prelude.{◌≡◌, ℕ, ◌+◌, ◌<◌, ◌≤◌, false, ◌≢◌, List, [], ◌∷◌, ◌++◌, length, slice_index_or}
use Rattle.patterns.specs.Spellings.{longest}
use Rattle.tree.specs.declared.cell.Cell.{Cell}
use Rattle.tree.specs.Cells.{links, values, at, IsTree}
use Rattle.tree.specs.Paths.{spelling_at}
use Rattle.tree.specs.Kinds.{Kind}
use Rattle.tree.specs.Meanings.{meaning}

-- the value of a cell
abbrev pub value_at : {V : Type 0} → Kind V → List (Cell V) → ℕ → V
value_at K cs i = slice_index_or (values cs) i K.nothing

-- every cell below the root that has no child holds something, but for x
abbrev pub Leaves : {V : Type 0} → Kind V → List (Cell V) → ℕ → ℕ → Type 0
Leaves K cs used x = (i : ℕ) → 0 < i → i < used → (at (links cs) i).first ≡ 0 → i ≢ x → K.bare (value_at K cs i) ≡ false

-- no cell lies deeper than the longest spelling
abbrev pub Shallow : {V : Type 0} → List (Cell V) → ℕ → Type 0
Shallow cs used = (i : ℕ) → i < used → length (spelling_at cs used i) ≤ longest

-- one symbol s further down from the cell p, to the cell r
pub record Step {V : Type 0} (K : Kind V) (cs cs' : List (Cell V)) (used used' p s r : ℕ) : Type 0 where
  pub tree : IsTree cs' used'
  pub size : length cs' ≡ length cs
  pub few : used' ≤ used + 1
  pub within : r < used'
  pub spelled : spelling_at cs' used' r ≡ spelling_at cs used p ++ (s ∷ [])
  pub means : meaning K cs' used' ≡ meaning K cs used
  pub leaves : Leaves K cs used p → Leaves K cs' used' r
  pub shallow : length (spelling_at cs used p) < longest → Shallow cs used → Shallow cs' used'
  pub root : value_at K cs' 0 ≡ value_at K cs 0

-- from the root down the spelling w, to the cell r
pub record Descent {V : Type 0} (K : Kind V) (cs cs' : List (Cell V)) (used used' : ℕ) (w : List ℕ) (r : ℕ) : Type 0 where
  pub tree : IsTree cs' used'
  pub size : length cs' ≡ length cs
  pub few : used' ≤ used + length w
  pub within : r < used'
  pub spelled : spelling_at cs' used' r ≡ w
  pub means : meaning K cs' used' ≡ meaning K cs used
  pub leaves : Leaves K cs' used' r
  pub shallow : Shallow cs' used'
  pub root : value_at K cs' 0 ≡ value_at K cs 0
