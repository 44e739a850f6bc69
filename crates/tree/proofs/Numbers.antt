-- Cells and their numbers.
use Rattle.std.proofs.Common.{◌≡◌, ℕ, eqb, ◌≢◌, Some, None, Option, sym, refl, ap, ◌∙◌, subst, ⊎_elim, arith}
use Rattle.std.proofs.lemmas.Bool.{cases_eq, eq-eqb, ne_eqb, cond-true, cond-false}
use Rattle.tree.specs.Numbers.{cell_of, number_of, Linkable}

pub cell_none : (n : ℕ) → n ≡ 0 → cell_of n ≡ None
cell_none n z = cond-true (eqb n 0) None (Some n) (eq-eqb n 0 z)

pub cell_some : (n : ℕ) → n ≢ 0 → cell_of n ≡ Some n
cell_some n ne = cond-false (eqb n 0) None (Some n) (ne_eqb n 0 ne)

-- what holds of the cell that a number names
pub cell_cases : (P : Option ℕ → Type 0) (n : ℕ) → (n ≡ 0 → P None) → (n ≢ 0 → P (Some n)) → P (cell_of n)
cell_cases P n a b = ⊎_elim (λ z. subst P (sym (cell_none n z)) (a z)) (λ ne. subst P (sym (cell_some n ne)) (b ne)) (cases_eq n 0)

pub cell_number : (o : Option ℕ) → Linkable o → cell_of (number_of o) ≡ o
cell_number None l = refl
cell_number (Some i) l = cell_some i (omega arith)

pub number_cell : (n : ℕ) → number_of (cell_of n) ≡ n
number_cell n = cell_cases (λ o. number_of o ≡ n) n (λ z. sym z) (λ ne. refl)

pub cell_linkable : (n : ℕ) → Linkable (cell_of n)
cell_linkable n = cell_cases Linkable n (λ z. tt) (λ ne. omega arith)

pub number_some : (o : Option ℕ) → number_of o ≢ 0 → o ≡ Some (number_of o)
number_some None ne = absurd (ne refl)
number_some (Some i) ne = refl

-- what holds of a number holds of the cell that it names
pub named : (P : ℕ → Type 0) (n : ℕ) (o : Option ℕ) → o ≡ cell_of n → P n → P (number_of o)
named P n o e p = subst P (sym (ap number_of e ∙ number_cell n)) p

pub named_linkable : (n : ℕ) (o : Option ℕ) → o ≡ cell_of n → Linkable o
named_linkable n o e = subst Linkable (sym e) (cell_linkable n)
