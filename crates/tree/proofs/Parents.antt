-- The links of a tree say the parent of each cell.
use Rattle.std.proofs.Common.{◌≡◌, ℕ, zero, suc, ◌+◌, ◌<◌, ◌≤◌, true, false, eqb, ◌≢◌, List, sym, refl, ap, ◌∙◌, ⊎_elim, arith}
use Rattle.std.proofs.lemmas.Bool.{cases_eq, cases_Bool, both_ways, false≢true, eq-eqb, ne_eqb, cond-true, cond-false}
use Rattle.tree.specs.declared.cell.Link.{Link}
use Rattle.tree.specs.Cells.{at, among, is_child, parent, Shape}

module _ (ls : List Link) (n j i : ℕ) where
  among_none : j ≡ 0 → among ls n j i ≡ false
  unfolding among
  among_none e = go n
    where
      go : (m : ℕ) → among ls m j i ≡ false
      go zero = refl
      go (suc m) = cond-true (eqb j 0) _ _ (eq-eqb j 0 e)

  among_here : j ≢ 0 → j ≡ i → among ls (suc n) j i ≡ true
  unfolding among
  among_here ne e = cond-false (eqb j 0) _ _ (ne_eqb j 0 ne) ∙ cond-true (eqb j i) _ _ (eq-eqb j i e)

  among_next : j ≢ 0 → j ≢ i → among ls (suc n) j i ≡ among ls n (at ls j).next i
  unfolding among
  among_next ne nj = cond-false (eqb j 0) _ _ (ne_eqb j 0 ne) ∙ cond-false (eqb j i) _ _ (ne_eqb j i nj)

among_zero : (ls : List Link) (n j : ℕ) → among ls n j 0 ≡ false
unfolding among
among_zero ls zero j = refl
among_zero ls (suc n) j = ⊎_elim
    (λ (t : eqb j 0 ≡ true). cond-true (eqb j 0) _ _ t)
    (λ (f : eqb j 0 ≡ false). cond-false (eqb j 0) _ _ f ∙ cond-false (eqb j 0) _ _ f ∙ among_zero ls n (at ls j).next)
    (cases_Bool (eqb j 0))

-- the root has none
pub parent_root : (ls : List Link) (n : ℕ) → parent ls n 0 ≡ 0
unfolding parent is_child
parent_root ls zero = refl
parent_root ls (suc n) = cond-false (is_child ls n 0) n (parent ls n 0) (among_zero ls (suc (at ls 0).symbol) (at ls n).first) ∙ parent_root ls n

module _ (ls : List Link) (up : ℕ → ℕ) (used : ℕ) (shape : Shape ls up used) (i : ℕ) (pos : 0 < i) (lt : i < used) where
  -- who stands among the children of p is one
  among_child : (n j p : ℕ) → (j ≢ 0 → (j < used) × (up j ≡ p)) → among ls n j i ≡ true → up i ≡ p
  unfolding among
  among_child zero j p h t = absurd (false≢true t)
  among_child (suc n) j p h t = ⊎_elim
      (λ (z : j ≡ 0). absurd (both_ways (among ls (suc n) j i) (among_none ls (suc n) j i z) t))
      (λ (ne : j ≡ 0 → ⊥). ⊎_elim
      (λ (e : j ≡ i). ap up (sym e) ∙ (h ne).1)
      (λ (nj : j ≡ i → ⊥).
      let hj = h ne in
      let pj : 0 < j = omega arith in
      among_child n (at ls j).next p (λ nn. let x = shape.nexts j pj hj.0 nn in (x.0, x.1 ∙ hj.1)) (sym (among_next ls n j i ne nj) ∙ t))
      (cases_eq j i))
      (cases_eq j 0)

  -- a child stands among its siblings from each smaller one on
  child_among : (n j : ℕ) → j ≢ 0 → j < used → up i ≡ up j → (at ls j).symbol ≤ (at ls i).symbol → (at ls i).symbol < (at ls j).symbol + n → among ls n j i ≡ true
  child_among zero j ne hj eu le far = absurd (omega arith)
  child_among (suc n) j ne hj eu le far = ⊎_elim
      (λ (e : j ≡ i). among_here ls n j i ne e)
      (λ (nj : j ≡ i → ⊥).
      let pj : 0 < j = omega arith in
      let less : (at ls j).symbol < (at ls i).symbol = ⊎_elim (λ (q : (at ls j).symbol ≡ (at ls i).symbol). absurd (nj (shape.apart i j pos lt pj hj (sym eu) q))) (λ q. omega arith) (cases_eq (at ls j).symbol (at ls i).symbol) in
      let a = shape.after j i pj hj pos lt eu less in
      let x = shape.nexts j pj hj a.0 in
      among_next ls n j i ne nj ∙ child_among n (at ls j).next a.0 x.0 (eu ∙ sym x.1) a.1 (omega (arith, x.2)))
      (cases_eq j i)

  child_parent : (p : ℕ) → p < used → is_child ls p i ≡ true → up i ≡ p
  unfolding is_child
  child_parent p hp t = among_child (suc (at ls i).symbol) (at ls p).first p (λ ne. shape.firsts p hp ne) t

  parent_child : is_child ls (up i) i ≡ true
  unfolding is_child
  parent_child =
      let u = shape.ups i pos lt in
      let l = shape.least (up i) i pos lt refl in
      let f = shape.firsts (up i) (omega arith) l.0 in
      child_among (suc (at ls i).symbol) (at ls (up i)).first l.0 f.0 (sym f.1) l.1 (omega arith)

  parent_to : (n : ℕ) → up i < n → n ≤ used → parent ls n i ≡ up i
  unfolding parent
  parent_to zero h le = absurd (omega arith)
  parent_to (suc n) h le = ⊎_elim
      (λ (t : is_child ls n i ≡ true). cond-true (is_child ls n i) n (parent ls n i) t ∙ sym (child_parent n (omega arith) t))
      (λ (f : is_child ls n i ≡ false).
      let ne : up i ≢ n = λ e. both_ways (is_child ls n i) f (ap (λ p. is_child ls p i) (sym e) ∙ parent_child) in
      cond-false (is_child ls n i) n (parent ls n i) f ∙ parent_to n (omega arith) (omega arith))
      (cases_Bool (is_child ls n i))

  -- what the links say is the parent
  pub parent_is : parent ls used i ≡ up i
  parent_is = let u = shape.ups i pos lt in parent_to used (omega arith) (omega arith)
