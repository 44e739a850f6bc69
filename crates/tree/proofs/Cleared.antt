-- A tree that holds nothing.
use Rattle.std.proofs.Common.{◌≡◌, ℕ, ◌<◌, ◌≤◌, List, [], ◌∷◌, length, set, sym, refl, ap, ◌∙◌, subst, arith}
use Rattle.std.specs.List.{AllByRecursion}
use Rattle.tree.specs.declared.cell.Link.{Link}
use Rattle.tree.specs.declared.cell.Cell.{Cell}
use Rattle.tree.specs.Cells.{links, values, ups, at, no_link, Shape}
use Rattle.tree.specs.Paths.{path, spelling_at}
use Rattle.tree.specs.Kinds.{Kind}
use Rattle.tree.specs.Meanings.{meaning, meant}
use Rattle.tree.specs.Rules.{Ruled}
use Rattle.tree.specs.Stands.{Stands}
use Rattle.tree.proofs.Paths.{path_root}
use Rattle.tree.proofs.Putting.{put_bare}
use Rattle.tree.proofs.Means.{meant_none, meant_more}

lone_shape : (ls : List Link) (up : ℕ → ℕ) (u : ℕ) → u ≤ 1 → (at ls 0).first ≡ 0 → Shape ls up u
lone_shape ls up u h z = record {
  ups = λ i pi hi. absurd (omega arith);
  firsts = λ p hp ne. let p0 : p ≡ 0 = omega arith in absurd (ne (ap (λ (x : ℕ). (at ls x).first) p0 ∙ z));
  nexts = λ i pi hi ne. absurd (omega arith);
  least = λ p i pi hi eu. absurd (omega arith);
  after = λ i k pi hi pk hk eu sy. absurd (omega arith);
  apart = λ i k pi hi pk hk eu sy. absurd (omega arith);
}

module _ {V : Type 0} (K : Kind V) where
  -- no cells
  pub cleared_none : (cs : List (Cell V)) → length cs ≡ 0 → Stands K cs 0 0
  cleared_none [] e =
      let m = meant_none K [] (ups {V = V} [] 0) [] in
      record {
        tree = lone_shape [] (ups {V = V} [] 0) 0 (omega arith) refl;
        room = omega arith;
        begun = λ h. h;
        leaves = λ i pi hi z ne. absurd (omega arith);
        shallow = λ i hi. absurd (omega arith);
        root = K.told;
        counted = ap length m;
        few = omega arith;
        full = omega arith;
        ruled = subst (AllByRecursion (λ e. Ruled e.0)) (sym m) tt;
      }
  cleared_none (c ∷ cs) e = absurd (omega arith)

  module _ (cs : List (Cell V)) (v : V) (e : v ≡ K.nothing) where
    abbrev rooted : List (Cell V)
    rooted = record { link = no_link; value = v } ∷ cs

    rooted_means : meaning K rooted 1 ≡ []
    rooted_means =
        meant_more K (links rooted) (ups rooted 1) (values rooted) 0
        ∙ put_bare K (path (links rooted) (ups rooted 1) 0) v (meant K (links rooted) (ups rooted 1) (values rooted) 0) (ap K.bare e ∙ K.told)
        ∙ meant_none K (links rooted) (ups rooted 1) (values rooted)

    rooted_stands : Stands K rooted 1 0
    rooted_stands =
        let tree = lone_shape (links rooted) (ups rooted 1) 1 (omega arith) refl in
        record {
          tree = tree;
          room = omega arith;
          begun = λ _. omega arith;
          leaves = λ i pi hi z ne. absurd (omega arith);
          shallow = λ i hi. let i0 : i ≡ 0 = omega arith in let q : length (spelling_at rooted 1 i) ≡ 0 = ap (λ (x : ℕ). length (spelling_at rooted 1 x)) i0 ∙ ap length (path_root (links rooted) (ups rooted 1) 1 tree) in omega arith;
          root = ap K.bare e ∙ K.told;
          counted = ap length rooted_means;
          few = omega arith;
          full = omega arith;
          ruled = subst (AllByRecursion (λ e. Ruled e.0)) (sym rooted_means) tt;
        }

  -- a root alone
  pub cleared_means : (cs : List (Cell V)) (v : V) → v ≡ K.nothing → 0 < length cs → meaning K (set cs 0 (record { link = no_link; value = v })) 1 ≡ []
  cleared_means [] v e h = absurd (omega arith)
  cleared_means (c ∷ cs) v e h = rooted_means cs v e

  pub cleared_root : (cs : List (Cell V)) (v : V) → v ≡ K.nothing → 0 < length cs → Stands K (set cs 0 (record { link = no_link; value = v })) 1 0
  cleared_root [] v e h = absurd (omega arith)
  cleared_root (c ∷ cs) v e h = rooted_stands cs v e
