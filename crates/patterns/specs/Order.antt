-- The order of spellings.
use Rattle.std.specs.Prelude.{◌≡◌, ℕ, ◌<◌, Bool, true, cond, ◌⊎◌, List, [], ◌∷◌, ◌++◌, nat_lt}
use Rattle.std.specs.declared.cmp.Ordering.TheVariants.{Less, Equal, Greater}
use Rattle.std.specs.declared.cmp.Ordering.{Ordering}
use Rattle.std.specs.Ordering.{is_lt, ordering_reverse}

-- symbol by symbol by number; where one begins the other, the shorter comes first
unfoldable pub ordering : List ℕ → List ℕ → Ordering
ordering [] [] = Equal
ordering [] (y ∷ ys) = Less
ordering (x ∷ xs) [] = Greater
ordering (x ∷ xs) (y ∷ ys) = cond (nat_lt x y) Less (cond (nat_lt y x) Greater (ordering xs ys))

-- whether u comes before v
abbrev pub before : List ℕ → List ℕ → Bool
before u v = is_lt (ordering u v)

-- v goes on where u ends
pub record Begins (u v : List ℕ) : Type 0 where
  pub next : ℕ
  pub rest : List ℕ
  pub whole : v ≡ u ++ next ∷ rest

-- behind a common front u has the smaller symbol
pub record Smaller (u v : List ℕ) : Type 0 where
  pub front : List ℕ
  pub less : ℕ
  pub more : ℕ
  pub behind_less : List ℕ
  pub behind_more : List ℕ
  pub first : u ≡ front ++ less ∷ behind_less
  pub second : v ≡ front ++ more ∷ behind_more
  pub smaller : less < more

-- what the order is, and that it is a total order
pub record TotalOrder : Type 0 where
  pub says : (u v : List ℕ) → before u v ≡ true → Begins u v ⊎ Smaller u v
  pub shorter : (u v : List ℕ) → Begins u v → before u v ≡ true
  pub lesser : (u v : List ℕ) → Smaller u v → before u v ≡ true
  pub same : (u : List ℕ) → ordering u u ≡ Equal
  pub alike : (u v : List ℕ) → ordering u v ≡ Equal → u ≡ v
  pub turned : (u v : List ℕ) → ordering v u ≡ ordering_reverse (ordering u v)
  pub along : (u v w : List ℕ) → before u v ≡ true → before v w ≡ true → before u w ≡ true
