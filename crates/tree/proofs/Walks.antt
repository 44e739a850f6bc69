-- Walking along the children of a cell.
use Rattle.std.proofs.Common.{◌≡◌, ℕ, ◌<◌, ◌≤◌, ◌≢◌, List, length, get_or, Some, None, Option, sym, refl, ap, ◌∙◌, subst, ⊎_elim, arith}
use Rattle.std.specs.Option.{ForSome}
use Rattle.std.proofs.lemmas.Bool.{cases_eq, cases_lt}
use Rattle.std.proofs.lemmas.List.{get_or-map}
use Rattle.std.proofs.lemmas.Bool.Decides.{nat_tests}
use Rattle.tree.specs.declared.cell.Link.{Link}
use Rattle.tree.specs.declared.cell.Cell.{Cell}
use Rattle.tree.specs.Numbers.{cell_of, number_of, Linkable}
use Rattle.tree.specs.Cells.{links, at, no_link, Shape, Walk, Gap, Placed, Met, Child, Above, to_go}
use Rattle.tree.proofs.Numbers.{cell_cases, cell_number, number_some, named, named_linkable}

pub read : {V : Type 0} (cs : List (Cell V)) (i : ℕ) (d : Cell V) → i < length cs → (get_or cs i d).link ≡ at (links cs) i
read cs i d h = sym (get_or-map (λ c. c.link) cs i d no_link h)

module _ (ls : List Link) (up : ℕ → ℕ) (used : ℕ) (shape : Shape ls up used) (p s : ℕ) (within : p < used) where
  pub walk_start : Walk ls up used p s 0 (at ls p).first
  walk_start = record {
    front = λ _. refl;
    inner = λ ne. absurd (ne refl);
    here = λ ne. shape.firsts p within ne;
  }

  pub walk_step : (b j : ℕ) → Walk ls up used p s b j → j ≢ 0 → (at ls j).symbol < s → Walk ls up used p s j (at ls j).next
  walk_step b j w ne lt =
      let hj = w.here ne in
      let pos : 0 < j = omega arith in
      record {
        front = λ e. absurd (ne e);
        inner = λ _. (hj.0, hj.1, lt, refl);
        here = λ nn. let n = shape.nexts j pos hj.0 nn in (n.0, n.1 ∙ hj.1);
      }

  pub walk_less : (b j : ℕ) → Walk ls up used p s b j → j ≢ 0 → (at ls j).symbol < s → s < 256 → to_go ls (at ls j).next < to_go ls j
  walk_less b j w ne lt small =
      let hj = w.here ne in
      let pos : 0 < j = omega arith in
      let n : (at ls j).next ≢ 0 → (at ls j).symbol < (at ls (at ls j).next).symbol = λ nn. (shape.nexts j pos hj.0 nn).2 in
      grind (arith, nat_tests)

  -- one sibling further, as the loop goes
  abbrev pub Walking : Option ℕ → Option ℕ → Type 0
  Walking before here = Walk ls up used p s (number_of before) (number_of here) × Linkable before × Linkable here

  pub walking_start : (here : Option ℕ) → here ≡ cell_of (at ls p).first → Walking None here
  walking_start here e = (named (Walk ls up used p s 0) (at ls p).first here e walk_start, tt, named_linkable (at ls p).first here e)

  module _ (before here : Option ℕ) (walking : Walking before here) (j : ℕ) (e : here ≡ Some j) where
    pub walking_here : Walk ls up used p s (number_of before) j × (0 < j) × (j < used)
    walking_here =
        let w = subst (λ (o : Option ℕ). Walk ls up used p s (number_of before) (number_of o)) e walking.0 in
        let pos : 0 < j = subst Linkable e walking.2 in
        (w, pos, (w.here (omega arith)).0)

    module _ (lt : (at ls j).symbol < s) (next : Option ℕ) (e' : next ≡ cell_of (at ls j).next) where
      pub walking_step : Walking (Some j) next
      walking_step =
          let h = walking_here in
          (named (Walk ls up used p s j) (at ls j).next next e' (walk_step (number_of before) j h.0 (omega (arith, h.1)) lt), h.1, named_linkable (at ls j).next next e')

      pub walking_less : s < 256 → to_go ls (number_of next) < to_go ls (number_of here)
      walking_less small =
          let h = walking_here in
          subst (λ (o : Option ℕ). to_go ls (number_of next) < to_go ls (number_of o)) (sym e)
          (named (λ (n : ℕ). to_go ls n < to_go ls j) (at ls j).next next e' (walk_less (number_of before) j h.0 (omega (arith, h.1)) lt small))

  -- a child with s or more stands at j or after it
  pub gap_upper : (b j : ℕ) → Gap ls up used p s b j → (i : ℕ) → 0 < i → i < used → up i ≡ p → s ≤ (at ls i).symbol → (j ≢ 0) × ((at ls j).symbol ≤ (at ls i).symbol)
  gap_upper b j g i pos lt eu big = ⊎_elim front inner (cases_eq b 0)
    where
      front : b ≡ 0 → (j ≢ 0) × ((at ls j).symbol ≤ (at ls i).symbol)
      front z =
          let l = shape.least p i pos lt eu in
          let e = g.walk.front z in
          ((λ y. l.0 (sym e ∙ y)), subst (λ x. (at ls x).symbol ≤ (at ls i).symbol) (sym e) l.1)

      inner : b ≢ 0 → (j ≢ 0) × ((at ls j).symbol ≤ (at ls i).symbol)
      inner nb =
          let h = g.walk.inner nb in
          let a = shape.after b i (omega arith) h.0 pos lt (eu ∙ sym h.1) (omega arith) in
          ((λ y. a.0 (sym h.3 ∙ y)), subst (λ x. (at ls x).symbol ≤ (at ls i).symbol) (sym h.3) a.1)

  -- the child with s stands at j
  pub child_of : (b j : ℕ) → Gap ls up used p s b j → (i : ℕ) → 0 < i → i < used → up i ≡ p → (at ls i).symbol ≡ s → (j ≢ 0) × (i ≡ j)
  child_of b j g i pos lt eu sy =
      let u = gap_upper b j g i pos lt eu (omega arith) in
      let hj = g.walk.here u.0 in
      let r = g.reached u.0 in
      (u.0, shape.apart j i (omega arith) hj.0 pos lt (eu ∙ sym hj.1) (omega (arith, u.1)))

  -- the two children next to s, where j has it
  pub sides_met : (b j : ℕ) → Gap ls up used p s b j → 0 < j → (at ls j).symbol ≡ s → Child ls up used p s (Some j) × Above ls up used p s (cell_of (at ls j).next)
  sides_met b j g pos sy =
      let hj = g.walk.here (omega arith) in (
        (pos, hj.0, hj.1, sy),
        cell_cases (Above ls up used p s) (at ls j).next
            (λ z i pi hi eu. ⊎_elim
            (λ (big : s < (at ls i).symbol). absurd ((shape.after j i pos hj.0 pi hi (eu ∙ sym hj.1) (omega arith)).0 z))
            (λ (le : (at ls i).symbol ≤ s). le)
            (cases_lt s (at ls i).symbol))
            (λ nn. let n = shape.nexts j pos hj.0 nn in (omega arith, n.0, n.1 ∙ hj.1, omega (arith, n.2), λ i pi hi eu big. (shape.after j i pos hj.0 pi hi (eu ∙ sym hj.1) (omega arith)).1)),
      )

  -- and where it has not
  pub sides_missed : (b j : ℕ) → Gap ls up used p s b j → (j ≢ 0 → (at ls j).symbol ≢ s) → Child ls up used p s None × Above ls up used p s (cell_of j)
  sides_missed b j g fresh = (
    λ i pi hi eu sy. let c = child_of b j g i pi hi eu sy in fresh c.0 (ap (λ (x : ℕ). (at ls x).symbol) (sym c.1) ∙ sy),
    cell_cases (Above ls up used p s) j
        (λ z i pi hi eu. ⊎_elim
        (λ (big : s < (at ls i).symbol). absurd ((gap_upper b j g i pi hi eu (omega arith)).0 z))
        (λ (le : (at ls i).symbol ≤ s). le)
        (cases_lt s (at ls i).symbol))
        (λ ne. let hj = g.walk.here ne in let r = g.reached ne in let f = fresh ne in (omega arith, hj.0, hj.1, omega arith, λ i pi hi eu big. (gap_upper b j g i pi hi eu (omega arith)).1)),
  )

  -- the same of the cells of a place
  module _ (before here : Option ℕ) (place : Placed ls up used p s before here) where
    pub at_here : (j : ℕ) → here ≡ Some j → Gap ls up used p s (number_of before) j × (0 < j) × (j < used)
    at_here j e =
        let g = subst (λ (o : Option ℕ). Gap ls up used p s (number_of before) (number_of o)) e place.gap in
        let pos : 0 < j = subst Linkable e place.here_inner in
        (g, pos, (g.walk.here (omega arith)).0)

    pub here_within : ForSome here (λ j. j < used)
    here_within j e = (at_here j e).2

    pub placed_met : (j : ℕ) → Met ls s here (Some j) → Child ls up used p s (Some j) × Above ls up used p s (cell_of (at ls j).next)
    placed_met j m = let g = at_here j m.0 in sides_met (number_of before) j g.0 g.1 m.1

    pub placed_missed : Met ls s here None → Child ls up used p s None × Above ls up used p s here
    placed_missed m =
        let c = sides_missed (number_of before) (number_of here) place.gap (λ ne. m (number_of here) (number_some here ne)) in
        (c.0, subst (Above ls up used p s) (cell_number here place.here_inner) c.1)
