-- Why a book may be known by the list of its patterns in spelling order: the list and its look-ups say the same.
use Rattle.std.specs.Prelude.{◌≡◌, ℕ, true, false, ◌≢◌, List, ◌∷◌}
use Rattle.std.specs.List.{ContainsAt as Has, AllByRecursion}
use Rattle.patterns.specs.Order.{before}
use Rattle.books.specs.Maps.{Map, Ascending, holds, lookup, after}

pub record MapLaws {V : Type 0} (nothing : V) : Type 0 where
  -- each entry of an ascending map is found
  pub found : (m : Map V) (u : List ℕ) (v : V) → Ascending m → Has m (u, v) → lookup nothing m u ≡ v
  -- what is not held has the value `nothing`
  pub absent : (m : Map V) (u : List ℕ) → holds m u ≡ false → lookup nothing m u ≡ nothing
  -- a spelling is held just where some entry has it
  pub held : (m : Map V) (u : List ℕ) → holds m u ≡ true → (v : V) × Has m (u, v)
  pub holding : (m : Map V) (u : List ℕ) (v : V) → Has m (u, v) → holds m u ≡ true
  -- maps that agree at every look-up are equal, where no entry has the value `nothing`
  pub alike : (m n : Map V) → Ascending m → Ascending n → AllByRecursion (λ e. e.1 ≢ nothing) m → AllByRecursion (λ e. e.1 ≢ nothing) n →
      ((u : List ℕ) → lookup nothing m u ≡ lookup nothing n u) → m ≡ n
  -- the first entry of an ascending map comes before every other
  pub least : (e f : List ℕ × V) (m : Map V) → Ascending (e ∷ m) → Has m f → before e.0 f.0 ≡ true
  -- what comes after a spelling ascends too, so that its first entry is the least of it
  pub rest : (m : Map V) (u : List ℕ) → Ascending m → Ascending (after u m)
