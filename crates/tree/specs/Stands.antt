-- What a tree keeps, and what its calls do.
use Rattle.std.specs.Prelude.{◌≡◌, ℕ, ◌+◌, ◌-◌, ◌*◌, ◌/◌, ◌<◌, ◌≤◌, Bool, true, false, cond, ◌||◌, ◌≢◌, List, length, Some, None, Option, Ok, Err, Result, nat_lt, slice_index_or}
use Rattle.std.specs.List.{AllByRecursion}
use Rattle.patterns.specs.Spellings.{longest}
use Rattle.books.specs.Maps.{Map, Joined, holds, lookup}
use Rattle.books.specs.declared.book.Full.{Full}
use Rattle.tree.specs.declared.cell.Cell.{Cell}
use Rattle.tree.specs.Cells.{links, values, IsTree}
use Rattle.tree.specs.Paths.{spelling_at}
use Rattle.tree.specs.Kinds.{Kind}
use Rattle.tree.specs.Meanings.{Sound, meaning, put}
use Rattle.tree.specs.Descents.{Leaves, Shallow, value_at}
use Rattle.tree.specs.Rules.{Ruled}

-- how many spellings n cells can hold: the root takes one cell, and each spelling at most 15
abbrev pub limit_of : ℕ → ℕ
limit_of n = cond (nat_lt n 16) 0 ((n - 1) / 15)

-- the first `used` cells are a tree that holds `count` spellings
pub record Stands {V : Type 0} (K : Kind V) (cs : List (Cell V)) (used count : ℕ) : Type 0 where
  pub tree : IsTree cs used
  pub room : used ≤ length cs
  pub begun : 0 < length cs → 0 < used
  pub leaves : Leaves K cs used 0
  pub shallow : Shallow cs used
  pub root : K.bare (value_at K cs 0) ≡ true
  pub counted : length (meaning K cs used) ≡ count
  pub few : used ≤ 1 + longest * count
  pub full : count ≤ limit_of (length cs)
  pub ruled : AllByRecursion (λ e. Ruled e.0) (meaning K cs used)

-- the cell of the spelling w, which holds something; or there is none, and nothing is held there
abbrev pub Holder : {V : Type 0} → Kind V → List (Cell V) → ℕ → List ℕ → Option ℕ → Type 0
Holder K cs used w (Some r) = (r < used) × (spelling_at cs used r ≡ w) × (K.bare (value_at K cs r) ≡ false)
Holder K cs used w None = K.bare (lookup K.nothing (meaning K cs used) w) ≡ true

-- v is joined to the value of the cell k
pub record JoinedAt {V : Type 0} (K : Kind V) (cs cs' : List (Cell V)) (k : ℕ) (v : V) : Type 0 where
  pub same_links : links cs' ≡ links cs
  pub here : (d : V) → slice_index_or (values cs') k d ≡ K.join (slice_index_or (values cs) k d) v
  pub there : (i : ℕ) → i ≢ k → (d : V) → slice_index_or (values cs') i d ≡ slice_index_or (values cs) i d

-- whether a value may be joined at the spelling u: it is held, or the limit is not reached
abbrev pub allowed : {V : Type 0} → Map V → ℕ → List ℕ → Bool
allowed m limit u = holds m u || nat_lt (length m) limit

-- v is joined at the spelling u
pub record Accepted {V : Type 0} (K : Kind V) (cs cs' : List (Cell V)) (used used' count' : ℕ) (u : List ℕ) (v : V) : Type 0 where
  pub may : allowed (meaning K cs used) (limit_of (length cs)) u ≡ true
  pub means : meaning K cs' used' ≡ put K u v (meaning K cs used)
  pub stands : Stands K cs' used' count'
  pub size : length cs' ≡ length cs

-- a tree that is as it was
pub record Unchanged {V : Type 0} (cs cs' : List (Cell V)) (used used' count count' : ℕ) : Type 0 where
  pub same_cells : cs' ≡ cs
  pub same_used : used' ≡ used
  pub same_count : count' ≡ count

-- what a joining answers and leaves: it is refused just where it is not allowed, and then changes nothing
abbrev pub TreeJoins : {V : Type 0} → Kind V → List (Cell V) → List (Cell V) → ℕ → ℕ → ℕ → ℕ → List ℕ → V → Result (Unit {0}) Full → Type 0
TreeJoins K cs cs' used used' count count' u v (Ok done) = Accepted K cs cs' used used' count' u v
TreeJoins K cs cs' used used' count count' u v (Err full) = (allowed (meaning K cs used) (limit_of (length cs)) u ≡ false) × Unchanged cs cs' used used' count count'

-- ---- the same by what is held

-- v is joined at the spelling u
pub record Added {V : Type 0} (K : Kind V) (old : Map V) (u : List ℕ) (v : V) (new : Map V) : Type 0 where
  pub sound : Sound K new
  pub joined : Joined K.nothing K.join old u v new
  pub nothing : v ≡ K.nothing → new ≡ old

-- a joining where at most `limit` spellings are held: it is refused just where the spelling is not held and the limit is
-- reached, and then changes nothing
abbrev pub Adding : {V : Type 0} → Kind V → Map V → ℕ → List ℕ → V → Result (Unit {0}) Full → Map V → Type 0
Adding K old limit u v (Ok done) new = (allowed old limit u ≡ true) × Added K old u v new
Adding K old limit u v (Err full) new = (allowed old limit u ≡ false) × (new ≡ old)
