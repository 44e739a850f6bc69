-- The first spelling in the order, of all cells and of those that hold something.
use Rattle.std.specs.Prelude.{◌≡◌, ℕ, ◌<◌, ◌≤◌, true, false, ◌≢◌, List, [], ◌∷◌, ◌++◌, length, take, slice_index, Some, None, Option}
use Rattle.patterns.specs.Spellings.{longest}
use Rattle.patterns.specs.Order.{before}
use Rattle.tree.specs.declared.cell.Link.{Link}
use Rattle.tree.specs.declared.cell.Cell.{Cell}
use Rattle.tree.specs.declared.order.Turn.{Turn}
use Rattle.tree.specs.Cells.{at}
use Rattle.tree.specs.Paths.{path, spelling_at}
use Rattle.tree.specs.Kinds.{Kind}
use Rattle.tree.specs.Descents.{value_at}

-- the spelling w in an array: its first len symbols, and then only 0
pub record Written (w : List ℕ) (len : ℕ) (symbols : List ℕ) : Type 0 where
  pub full : length symbols ≡ longest
  pub sized : len ≤ longest
  pub front : take len symbols ≡ w
  pub unused : (k : ℕ) → len ≤ k → slice_index symbols k ≡ 0

-- the turn to a cell, where there is one
abbrev pub turning : Option ℕ → ℕ → Option Turn
turning None d = None
turning (Some r) d = Some (record { cell = r; depth = d })

module _ (ls : List Link) (up : ℕ → ℕ) (used : ℕ) (u : List ℕ) where
  -- the spelling of the cell r comes after u, from which it turns off behind the first d symbols
  pub record Turns (r d : ℕ) : Type 0 where
    pub inner : 0 < r
    pub within : r < used
    pub inside : d ≤ length u
    pub spelled : path ls up r ≡ take d u ++ ((at ls r).symbol ∷ [])
    pub later : before u (path ls up r) ≡ true

  -- of the cells whose spelling comes after u and does not have its first n symbols, the first one, or there is none
  abbrev pub Passed : ℕ → Option Turn → Type 0
  Passed n (Some t) = Turns t.cell t.depth × ((i : ℕ) → i < used → before u (path ls up i) ≡ true → take n (path ls up i) ≢ take n u → before (path ls up i) (path ls up t.cell) ≡ false)
  Passed n None = (i : ℕ) → i < used → before u (path ls up i) ≡ true → take n (path ls up i) ≡ take n u

  -- of the cells whose spelling comes after u, the first one, or there is none
  abbrev pub Next : Option Turn → Type 0
  Next (Some t) = Turns t.cell t.depth × ((i : ℕ) → i < used → before u (path ls up i) ≡ true → before (path ls up i) (path ls up t.cell) ≡ false)
  Next None = (i : ℕ) → i < used → before u (path ls up i) ≡ false

module _ {V : Type 0} (K : Kind V) (cs : List (Cell V)) (used s : ℕ) where
  -- the spelling u does not come before that of the cell s, and nothing is held in between
  pub record Onward (u : List ℕ) : Type 0 where
    pub on : before u (spelling_at cs used s) ≡ false
    pub first : (i : ℕ) → i < used → K.bare (value_at K cs i) ≡ false → before (spelling_at cs used i) (spelling_at cs used s) ≡ false → before (spelling_at cs used i) u ≡ false

  -- u is the first spelling held from that of the cell s on
  pub record FirstFrom (u : List ℕ) : Type 0 where
    pub cell : ℕ
    pub within : cell < used
    pub spelled : spelling_at cs used cell ≡ u
    pub held : K.bare (value_at K cs cell) ≡ false
    pub onward : Onward u
