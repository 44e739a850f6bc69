-- Cells by their links, and what makes these a tree.
use Rattle.std.specs.Prelude.{◌≡◌, ℕ, zero, suc, ◌-◌, ◌<◌, ◌≤◌, Bool, true, false, cond, ◌≢◌, List, Some, None, Option, map, ◌==◌, slice_index_or}
use Rattle.tree.specs.declared.cell.Link.{Link}
use Rattle.tree.specs.declared.cell.Cell.{Cell}
use Rattle.tree.specs.Numbers.{number_of, Linkable}

-- what stands beyond the cells
abbrev pub no_link : Link
no_link = record { symbol = 0; first = 0; next = 0 }

-- the links of cells, apart from their values
abbrev pub links : {V : Type 0} → List (Cell V) → List Link
links cs = map (λ c. c.link) cs

-- the values of cells
abbrev pub values : {V : Type 0} → List (Cell V) → List V
values cs = map (λ c. c.value) cs

-- the links of cell i
abbrev pub at : List Link → ℕ → Link
at ls i = slice_index_or ls i no_link

-- ---- parents

-- whether i is the cell j or one of its next n - 1 siblings
unfoldable pub among : List Link → ℕ → ℕ → ℕ → Bool
among ls zero j i = false
among ls (suc n) j i = cond (j == 0) false (cond (j == i) true (among ls n (at ls j).next i))

-- whether i is a child of p. The symbols of siblings rise, so that no more come before i than its symbol says.
unfoldable pub is_child : List Link → ℕ → ℕ → Bool
is_child ls p i = among ls (suc (at ls i).symbol) (at ls p).first i

-- the parent of cell i among the first n cells, or 0
unfoldable pub parent : List Link → ℕ → ℕ → ℕ
parent ls zero i = 0
parent ls (suc n) i = cond (is_child ls n i) n (parent ls n i)

-- ---- the tree

-- the first `used` cells are a tree in which `up` gives the parent of each: a parent stands before its children, and these
-- are linked in the order of their symbols
pub record Shape (ls : List Link) (up : ℕ → ℕ) (used : ℕ) : Type 0 where
  pub ups : (i : ℕ) → 0 < i → i < used → up i < i
  pub firsts : (p : ℕ) → p < used → (at ls p).first ≢ 0 → ((at ls p).first < used) × (up (at ls p).first ≡ p)
  pub nexts : (i : ℕ) → 0 < i → i < used → (at ls i).next ≢ 0 → ((at ls i).next < used) × (up (at ls i).next ≡ up i) × ((at ls i).symbol < (at ls (at ls i).next).symbol)
  pub least : (p i : ℕ) → 0 < i → i < used → up i ≡ p → ((at ls p).first ≢ 0) × ((at ls (at ls p).first).symbol ≤ (at ls i).symbol)
  pub after : (i k : ℕ) → 0 < i → i < used → 0 < k → k < used → up k ≡ up i → (at ls i).symbol < (at ls k).symbol → ((at ls i).next ≢ 0) × ((at ls (at ls i).next).symbol ≤ (at ls k).symbol)
  pub apart : (i k : ℕ) → 0 < i → i < used → 0 < k → k < used → up k ≡ up i → (at ls k).symbol ≡ (at ls i).symbol → k ≡ i

-- the parents that the links of the cells say
abbrev pub ups : {V : Type 0} → List (Cell V) → ℕ → ℕ → ℕ
ups cs used = parent (links cs) used

-- the first `used` cells are a tree
abbrev pub IsTree : {V : Type 0} → List (Cell V) → ℕ → Type 0
IsTree cs used = Shape (links cs) (ups cs used) used

-- ---- among the children of a cell

-- on the way along the children of p to the symbol s: past the cell b (0: none yet), at the cell j (0: the end)
pub record Walk (ls : List Link) (up : ℕ → ℕ) (used p s b j : ℕ) : Type 0 where
  pub front : b ≡ 0 → j ≡ (at ls p).first
  pub inner : b ≢ 0 → (b < used) × (up b ≡ p) × ((at ls b).symbol < s) × (j ≡ (at ls b).next)
  pub here : j ≢ 0 → (j < used) × (up j ≡ p)

-- the gap for s among the children of p: after the cell b (0: in front), before or at the cell j (0: at the end)
pub record Gap (ls : List Link) (up : ℕ → ℕ) (used p s b j : ℕ) : Type 0 where
  pub walk : Walk ls up used p s b j
  pub reached : j ≢ 0 → s ≤ (at ls j).symbol

-- the same place by its cells: after the cell before, or in front, and before or at the cell here, or at the end
pub record Placed (ls : List Link) (up : ℕ → ℕ) (used p s : ℕ) (before here : Option ℕ) : Type 0 where
  pub gap : Gap ls up used p s (number_of before) (number_of here)
  pub before_inner : Linkable before
  pub here_inner : Linkable here

-- the cell here where it has the symbol s, or it has not
abbrev pub Met : List Link → ℕ → Option ℕ → Option ℕ → Type 0
Met ls s here (Some r) = (here ≡ Some r) × ((at ls r).symbol ≡ s)
Met ls s here None = (j : ℕ) → here ≡ Some j → (at ls j).symbol ≢ s

-- the child of p with the symbol s, or there is none
abbrev pub Child : List Link → (ℕ → ℕ) → ℕ → ℕ → ℕ → Option ℕ → Type 0
Child ls up used p s (Some r) = (0 < r) × (r < used) × (up r ≡ p) × ((at ls r).symbol ≡ s)
Child ls up used p s None = (i : ℕ) → 0 < i → i < used → up i ≡ p → (at ls i).symbol ≢ s

-- the first child of p whose symbol is above s, or there is none
abbrev pub Above : List Link → (ℕ → ℕ) → ℕ → ℕ → ℕ → Option ℕ → Type 0
Above ls up used p s (Some r) = (0 < r) × (r < used) × (up r ≡ p) × (s < (at ls r).symbol) × ((i : ℕ) → 0 < i → i < used → up i ≡ p → s < (at ls i).symbol → (at ls r).symbol ≤ (at ls i).symbol)
Above ls up used p s None = (i : ℕ) → 0 < i → i < used → up i ≡ p → (at ls i).symbol ≤ s

-- how many symbols can still come along the siblings from j on
abbrev pub to_go : List Link → ℕ → ℕ
to_go ls j = cond (j == 0) 0 (257 - (at ls j).symbol)

-- ---- a new cell

-- the new cell n stands in the gap of s: what ls' has in place of ls
pub record Grown (ls ls' : List Link) (n p s b j : ℕ) : Type 0 where
  pub same_symbol : (i : ℕ) → i < n → (at ls' i).symbol ≡ (at ls i).symbol
  pub same_first : (i : ℕ) → i < n → (i ≡ p → b ≢ 0) → (at ls' i).first ≡ (at ls i).first
  pub new_first : b ≡ 0 → (at ls' p).first ≡ n
  pub same_next : (i : ℕ) → 0 < i → i < n → i ≢ b → (at ls' i).next ≡ (at ls i).next
  pub new_next : b ≢ 0 → (at ls' b).next ≡ n
  pub new : at ls' n ≡ record { symbol = s; first = 0; next = j }

-- up' is up with p as the parent of the new cell n
pub record Extends (up up' : ℕ → ℕ) (n p : ℕ) : Type 0 where
  pub same : (i : ℕ) → i < n → up' i ≡ up i
  pub new : up' n ≡ p

-- the values below n stay, and at n stands v
pub record Kept {V : Type 0} (vs vs' : List V) (n : ℕ) (v : V) : Type 0 where
  pub same : (i : ℕ) → i < n → (d : V) → slice_index_or vs' i d ≡ slice_index_or vs i d
  pub new : (d : V) → slice_index_or vs' n d ≡ v
