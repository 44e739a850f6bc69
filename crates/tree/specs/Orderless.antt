-- Values joined one after another, in any order.
use Rattle.std.specs.Prelude.{◌≡◌, ℕ, List, [], ◌∷◌}
use Rattle.std.specs.List.Sorted.{IsPermutation}
use Rattle.books.specs.Maps.{Map, Joined}
use Rattle.tree.specs.Kinds.{Kind}
use Rattle.tree.specs.Meanings.{Sound}

module _ {V : Type 0} (K : Kind V) where
  -- the values of a list, joined at their spellings one after another, lead from the map old to the map new
  abbrev pub Joinings : Map V → List (List ℕ × V) → Map V → Type 0
  Joinings old [] new = new ≡ old
  Joinings old (x ∷ xs) new = (mid : Map V) × Sound K mid × Joined K.nothing K.join old x.0 x.1 mid × Joinings mid xs new

  -- in whatever order they come, they lead to the same map
  pub record AnyOrder : Type 0 where
    pub same : (old new new' : Map V) (xs ys : List (List ℕ × V)) → Sound K old → IsPermutation xs ys → Joinings old xs new → Joinings old ys new' → new ≡ new'
