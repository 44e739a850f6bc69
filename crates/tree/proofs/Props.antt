-- What a tree keeps is a proposition, so that it comes out of a truncation.
use Rattle.std.proofs.Common.{◌≡◌, ℕ, ◌≢◌, List, [], ◌∷◌, subst}
use mathlib.Core.Logic.{∥∥₁_elim}
use mathlib.Core.Bool.{Bool-set}
use mathlib.Core.HLevel.{⊥_prop, ×_prop, ×₃_prop, Π_prop}
use native.Mathlib.Bridge.{le_prop}
use native.Mathlib.Nat.{ℕ_set}
use Rattle.std.specs.List.{AllByRecursion}
use Rattle.tree.specs.declared.cell.Link.{Link}
use Rattle.tree.specs.declared.cell.Cell.{Cell}
use Rattle.tree.specs.declared.linked.Linked.{Linked}
use Rattle.tree.specs.declared.tree.Tree.{Tree}
use Rattle.tree.specs.Cells.{links, ups, Shape, IsTree}
use Rattle.tree.specs.Kinds.{Kind}
use Rattle.tree.specs.Rules.{Ruled}
use Rattle.tree.specs.Stands.{Stands}

ne_prop : {a b : ℕ} → IsProp (a ≢ b)
ne_prop = Π_prop (λ _. ⊥_prop)

all_prop : {X : Type 0} (P : X → Type 0) → ((x : X) → IsProp (P x)) → (xs : List X) → IsProp (AllByRecursion P xs)
all_prop P h [] = λ a b i. tt
all_prop P h (x ∷ xs) = ×_prop (h x) (all_prop P h xs)

ruled_prop : (u : List ℕ) → IsProp (Ruled u)
ruled_prop u x y = λ i. record {
  few = le_prop x.few y.few i;
  symbolic = Π_prop (λ _. le_prop) x.symbolic y.symbolic i;
  edged = Π_prop (λ _. Π_prop (λ _. Π_prop (λ _. le_prop))) x.edged y.edged i;
  lettered = Bool-set _ _ x.lettered y.lettered i;
}

shape_prop : (ls : List Link) (up : ℕ → ℕ) (used : ℕ) → IsProp (Shape ls up used)
shape_prop ls up used x y = λ i. record {
  ups = Π_prop (λ _. Π_prop (λ _. Π_prop (λ _. le_prop))) x.ups y.ups i;
  firsts = Π_prop (λ _. Π_prop (λ _. Π_prop (λ _. ×_prop le_prop (ℕ_set _ _)))) x.firsts y.firsts i;
  nexts = Π_prop (λ _. Π_prop (λ _. Π_prop (λ _. Π_prop (λ _. ×₃_prop le_prop (ℕ_set _ _) le_prop)))) x.nexts y.nexts i;
  least = Π_prop (λ _. Π_prop (λ _. Π_prop (λ _. Π_prop (λ _. Π_prop (λ _. ×_prop ne_prop le_prop))))) x.least y.least i;
  after = Π_prop (λ _. Π_prop (λ _. Π_prop (λ _. Π_prop (λ _. Π_prop (λ _. Π_prop (λ _. Π_prop (λ _. Π_prop (λ _. ×_prop ne_prop le_prop)))))))) x.after y.after i;
  apart = Π_prop (λ _. Π_prop (λ _. Π_prop (λ _. Π_prop (λ _. Π_prop (λ _. Π_prop (λ _. Π_prop (λ _. Π_prop (λ _. ℕ_set _ _)))))))) x.apart y.apart i;
}

module _ {V : Type 0} (K : Kind V) (cs : List (Cell V)) (used count : ℕ) where
  stands_prop : IsProp (Stands K cs used count)
  stands_prop x y = λ i. record {
    tree = shape_prop (links cs) (ups cs used) used x.tree y.tree i;
    room = le_prop x.room y.room i;
    begun = Π_prop (λ _. le_prop) x.begun y.begun i;
    leaves = Π_prop (λ _. Π_prop (λ _. Π_prop (λ _. Π_prop (λ _. Π_prop (λ _. Bool-set _ _))))) x.leaves y.leaves i;
    shallow = Π_prop (λ _. Π_prop (λ _. le_prop)) x.shallow y.shallow i;
    root = Bool-set _ _ x.root y.root i;
    counted = ℕ_set _ _ x.counted y.counted i;
    few = le_prop x.few y.few i;
    full = le_prop x.full y.full i;
    ruled = all_prop (λ e. Ruled e.0) (λ e. ruled_prop e.0) _ x.ruled y.ruled i;
  }

  pub stands_from : ∥ Stands K cs used count ∥₁ → Stands K cs used count
  stands_from s = ∥∥₁_elim s stands_prop (λ x. x)

-- what every value of the two types keeps
pub tree_of : {V : Type 0} (t : Linked V) → IsTree t.cells.now t.used
tree_of t = ∥∥₁_elim t.tree (shape_prop (links t.cells.now) (ups t.cells.now t.used) t.used) (λ x. x)

pub standing : {V : Type 0} (K : Kind V) (t : Tree V) (count : ℕ) → ∥ Stands K t.cells.now t.used count ∥₁ → Stands K t.cells.now t.used count
standing K t count s = stands_from K t.cells.now t.used count s

-- what is true of cells is true of cells that equal them
module _ {V : Type 0} {cs cs' : List (Cell V)} {used used' : ℕ} (P : List (Cell V) → ℕ → Type 0) where
  pub over : cs' ≡ cs → used' ≡ used → P cs' used' → P cs used
  over e f p = subst (P cs) f (subst (λ (x : List (Cell V)). P x used') e p)
