-- Steps down a spelling.
use Rattle.std.proofs.Common.{◌≡◌, ℕ, ◌+◌, ◌<◌, ◌≤◌, ◌≢◌, List, [], ◌∷◌, ◌++◌, length, get_or, sym, refl, ap, ◌∙◌, ⊎_elim, add-one, arith}
use Rattle.std.proofs.lemmas.Bool.{cases_lt}
use Rattle.std.proofs.lemmas.List.{length_push}
use Rattle.patterns.specs.Spellings.{longest}
use Rattle.tree.specs.declared.cell.Cell.{Cell}
use Rattle.tree.specs.Cells.{links, values, at, ups, IsTree, Gap, Grown, Kept, Extends}
use Rattle.tree.specs.Paths.{spelling_at}
use Rattle.tree.specs.Kinds.{Kind}
use Rattle.tree.specs.Meanings.{meant, meaning}
use Rattle.tree.specs.Descents.{Leaves, Shallow, Step, Descent}
use Rattle.tree.proofs.Paths.{path_step, path_root}
use Rattle.tree.proofs.Grows.{grown_shape, grown_path, grown_new_path, grown_leaf, grown_parents}
use Rattle.tree.proofs.Putting.{put_bare}
use Rattle.tree.proofs.Means.{meant_more, meant_kept}

module _ {V : Type 0} (K : Kind V) (cs : List (Cell V)) (used p s b j : ℕ) (tree : IsTree cs used) (hp : p < used) (gap : Gap (links cs) (ups cs used) used p s b j) where
  -- the cell is there
  pub step_found : j ≢ 0 → (at (links cs) j).symbol ≡ s → Step K cs cs used used p s j
  step_found nj sy =
      let hj = gap.walk.here nj in
      let pos : 0 < j = omega arith in
      record {
        tree = tree;
        size = refl;
        few = omega arith;
        within = hj.0;
        spelled = path_step (links cs) (ups cs used) used tree j pos hj.0
            ∙ ap (λ (x : ℕ). spelling_at cs used x ++ ((at (links cs) j).symbol ∷ [])) hj.1
            ∙ ap (λ (x : ℕ). spelling_at cs used p ++ (x ∷ [])) sy;
        means = refl;
        leaves = λ lv i pi hi z ne. lv i pi hi z (λ ip. (tree.least p j pos hj.0 hj.1).0 (ap (λ (x : ℕ). (at (links cs) x).first) (sym ip) ∙ z));
        shallow = λ _ sh. sh;
        root = refl;
      }

  -- the cell is new
  module _ (cs' : List (Cell V)) (v : V) (bare : v ≡ K.nothing) (fresh : j ≢ 0 → (at (links cs) j).symbol ≢ s) (len : length cs' ≡ length cs) (gr : Grown (links cs) (links cs') used p s b j) (kp : Kept (values cs) (values cs') used v) where
    parents : Extends (ups cs used) (ups cs' (used + 1)) used p
    parents = grown_parents (links cs) (links cs') used p s b j tree hp gap fresh gr

    old_path : (i : ℕ) → i < used → spelling_at cs' (used + 1) i ≡ spelling_at cs used i
    old_path = grown_path (links cs) (links cs') (ups cs used) (ups cs' (used + 1)) used p s b j tree hp gap fresh gr parents

    new_path : spelling_at cs' (used + 1) used ≡ spelling_at cs used p ++ (s ∷ [])
    new_path = grown_new_path (links cs) (links cs') (ups cs used) (ups cs' (used + 1)) used p s b j tree hp gap fresh gr parents

    means : meaning K cs' (used + 1) ≡ meaning K cs used
    means =
        ap (λ (n : ℕ). meant K (links cs') (ups cs' (used + 1)) (values cs') n) (add-one used)
        ∙ meant_more K (links cs') (ups cs' (used + 1)) (values cs') used
        ∙ put_bare K (spelling_at cs' (used + 1) used) (get_or (values cs') used K.nothing) (meant K (links cs') (ups cs' (used + 1)) (values cs') used) (ap K.bare (kp.new K.nothing ∙ bare) ∙ K.told)
        ∙ meant_kept K (links cs) (links cs') (ups cs used) (ups cs' (used + 1)) (values cs) (values cs') used old_path (λ i h. kp.same i h K.nothing)

    leaves : Leaves K cs used p → Leaves K cs' (used + 1) used
    leaves lv i pi hi z ne =
        let h : i < used = omega arith in
        let l = grown_leaf (links cs) (links cs') (ups cs used) (ups cs' (used + 1)) used p s b j tree hp gap fresh gr parents i h z in
        ap K.bare (kp.same i h K.nothing) ∙ lv i pi h l.0 l.1

    shallow : length (spelling_at cs used p) < longest → Shallow cs used → Shallow cs' (used + 1)
    shallow d sh i hi = ⊎_elim
        (λ (h : i < used). let e = ap length (old_path i h) in omega (arith, sh i h))
        (λ (le : used ≤ i).
        let q : i ≡ used = omega arith in
        let e = ap (λ (x : ℕ). length (spelling_at cs' (used + 1) x)) q ∙ ap length new_path ∙ length_push (spelling_at cs used p) s in
        omega arith)
        (cases_lt i used)

    pub step_made : Step K cs cs' used (used + 1) p s used
    step_made = record {
      tree = grown_shape (links cs) (links cs') (ups cs used) (ups cs' (used + 1)) used p s b j tree hp gap fresh gr parents;
      size = len;
      few = omega arith;
      within = omega arith;
      spelled = new_path;
      means = means;
      leaves = leaves;
      shallow = shallow;
      root = kp.same 0 (omega arith) K.nothing;
    }

module _ {V : Type 0} (K : Kind V) (cs : List (Cell V)) (used : ℕ) where
  pub descent_none : IsTree cs used → 0 < used → Leaves K cs used 0 → Shallow cs used → Descent K cs cs used used [] 0
  descent_none tree pos lv sh = record {
    tree = tree;
    size = refl;
    few = omega arith;
    within = pos;
    spelled = path_root (links cs) (ups cs used) used tree;
    means = refl;
    leaves = lv;
    shallow = sh;
    root = refl;
  }
