-- Maps from spellings to values of any kind.
use Rattle.std.specs.Prelude.{◌≡◌, ℕ, Bool, true, false, cond, ◌||◌, ◌≢◌, List, [], ◌∷◌, Some, None, filter, Option}
use Rattle.std.specs.declared.cmp.Ordering.TheVariants.{Less, Equal, Greater}
use Rattle.std.specs.declared.cmp.Ordering.{Ordering}
use Rattle.std.specs.Ordering.{is_eq}
use Rattle.std.specs.List.{AllByRecursion}
use Rattle.patterns.specs.Order.{ordering, before}

-- A map is the list of its entries, a spelling with its value each, in the order of the spellings. So equal maps are equal
-- lists, and the least spelling is the first.
abbrev pub Map : Type 0 → Type 0
Map V = List (List ℕ × V)

-- each spelling comes before all that follow it; so none comes twice
abbrev pub Ascending : {V : Type 0} → Map V → Type 0
Ascending [] = Unit {0}
Ascending (e ∷ m) = AllByRecursion (λ f. before e.0 f.0 ≡ true) m × Ascending m

abbrev pub same : List ℕ → List ℕ → Bool
same u v = is_eq (ordering u v)

-- whether a spelling is held
abbrev pub holds : {V : Type 0} → Map V → List ℕ → Bool
holds [] u = false
holds (e ∷ m) u = same u e.0 || holds m u

-- the value at a spelling, or `nothing` where it is not held
abbrev pub lookup : {V : Type 0} → V → Map V → List ℕ → V
lookup nothing [] u = nothing
lookup nothing (e ∷ m) u = cond (same u e.0) e.1 (lookup nothing m u)

-- the least spelling held
abbrev pub least_of : {V : Type 0} → Map V → Option (List ℕ)
least_of [] = None
least_of (e ∷ m) = Some e.0

-- the entries whose spelling comes after u
abbrev pub after : {V : Type 0} → List ℕ → Map V → Map V
after u m = filter (λ e. before u e.0) m

-- v is joined to the value at u, and every other spelling has the value that it had
pub record Joined {V : Type 0} (nothing : V) (join : V → V → V) (old : Map V) (u : List ℕ) (v : V) (new : Map V) : Type 0 where
  pub here : lookup nothing new u ≡ join (lookup nothing old u) v
  pub elsewhere : (w : List ℕ) → w ≢ u → lookup nothing new w ≡ lookup nothing old w

-- ---- the same as a function

-- by how one spelling stands to another: before it, equal or after
abbrev pub by : {A : Type 0} → Ordering → A → A → A → A
by Less a b c = a
by Equal a b c = b
by Greater a b c = c

-- the map with v joined to the value at u, or put in at its place where u is not held
unfoldable pub raised : {V : Type 0} → (V → V → V) → List ℕ → V → Map V → Map V
raised join u v [] = (u, v) ∷ []
raised join u v (e ∷ m) = by (ordering u e.0) ((u, v) ∷ e ∷ m) ((u, join e.1 v) ∷ m) (e ∷ raised join u v m)
