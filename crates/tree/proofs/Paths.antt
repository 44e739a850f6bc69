-- The spellings of cells.
use Rattle.std.proofs.Common.{◌≡◌, ℕ, zero, suc, ◌+◌, ◌<◌, ◌≤◌, ◌≢◌, ◌⊎◌, List, [], ◌∷◌, ◌++◌, length, get_or, take, drop, Some, None, sym, refl, ap, ◌∙◌, ap₂, inl, inr, ⊎_elim, append_assoc, arith}
use Rattle.std.proofs.lemmas.List.{length-append, length_push, take_more, take_at, take_all, take-append-le, take-append-drop, get_or_at, same_from_push}
use Rattle.std.proofs.lemmas.Bool.{cases_eq, cases_lt}
use Rattle.tree.specs.declared.cell.Link.{Link}
use Rattle.tree.specs.Cells.{at, Shape, Child}
use Rattle.tree.specs.Paths.{climb, path}

module _ (ls : List Link) (up : ℕ → ℕ) (used : ℕ) (shape : Shape ls up used) where
  climb_same : (n m i : ℕ) → i ≤ n → i ≤ m → i < used → climb n ls up i ≡ climb m ls up i
  unfolding climb
  climb_same zero zero i a b h = refl
  climb_same zero (suc m) zero a b h = refl
  climb_same zero (suc m) (suc i) a b h = absurd (omega arith)
  climb_same (suc n) zero zero a b h = refl
  climb_same (suc n) zero (suc i) a b h = absurd (omega arith)
  climb_same (suc n) (suc m) zero a b h = refl
  climb_same (suc n) (suc m) (suc i) a b h =
      let u = shape.ups (suc i) (omega arith) h in
      ap (λ r. r ++ ((at ls (suc i)).symbol ∷ [])) (climb_same n m (up (suc i)) (omega arith) (omega arith) (omega arith))

  pub path_step : (i : ℕ) → 0 < i → i < used → path ls up i ≡ path ls up (up i) ++ ((at ls i).symbol ∷ [])
  unfolding climb path
  path_step zero pos h = absurd (omega arith)
  path_step (suc i) pos h =
      let u = shape.ups (suc i) pos h in
      ap (λ r. r ++ ((at ls (suc i)).symbol ∷ [])) (climb_same i (up (suc i)) (up (suc i)) (omega arith) (omega arith) (omega arith))

  pub path_root : path ls up 0 ≡ []
  unfolding climb path
  path_root = refl

  pub path_length : (i : ℕ) → 0 < i → i < used → length (path ls up i) ≡ length (path ls up (up i)) + 1
  path_length i pos h = ap length (path_step i pos h) ∙ length_push (path ls up (up i)) (at ls i).symbol

  -- only the root has no symbols
  pub path_empty : (i : ℕ) → i < used → length (path ls up i) ≡ 0 → i ≡ 0
  path_empty i h e = ⊎_elim (λ z. z) (λ ne. let l = path_length i (omega arith) h in absurd (omega arith)) (cases_eq i 0)

  root_length : (i : ℕ) → i ≡ 0 → length (path ls up i) ≡ 0
  root_length i z = ap (λ x. length (path ls up x)) z ∙ ap length path_root

  path_inj_f : (n i k : ℕ) → i ≤ n → i < used → k < used → path ls up i ≡ path ls up k → i ≡ k
  path_inj_f zero i k le hi hk e =
      let z : i ≡ 0 = omega arith in
      let y = path_empty k hk (sym (ap length e) ∙ root_length i z) in omega arith
  path_inj_f (suc n) i k le hi hk e = ⊎_elim root (λ ne. inner (λ a b. path_inj_f n a b) ne (cases_eq k 0)) (cases_eq i 0)
    where
      root : i ≡ 0 → i ≡ k
      root z = let y = path_empty k hk (sym (ap length e) ∙ root_length i z) in omega arith

      inner : ((a b : ℕ) → a ≤ n → a < used → b < used → path ls up a ≡ path ls up b → a ≡ b) → (i ≡ 0 → ⊥) → (k ≡ 0) ⊎ (k ≡ 0 → ⊥) → i ≡ k
      inner rec ne (inl z) = path_empty i hi (ap length e ∙ root_length k z) ∙ sym z
      inner rec ne (inr nk) =
          let pi : 0 < i = omega arith in
          let pk : 0 < k = omega arith in
          let ui = shape.ups i pi hi in
          let uk = shape.ups k pk hk in
          let both = same_from_push (path ls up (up i)) (path ls up (up k)) (at ls i).symbol (at ls k).symbol (sym (path_step i pi hi) ∙ e ∙ path_step k pk hk) in
          let eu = rec (up i) (up k) (omega arith) (omega arith) (omega arith) both.0 in
          shape.apart k i pk hk pi hi eu both.1

  pub path_inj : (i k : ℕ) → i < used → k < used → path ls up i ≡ path ls up k → i ≡ k
  path_inj i k hi hk e = path_inj_f i i k (omega arith) hi hk e

  abbrev Ancestor : ℕ → ℕ → Type 0
  Ancestor i n = (k : ℕ) × (k < used) × (path ls up k ≡ take n (path ls up i))

  ancestor_f : (m i n : ℕ) → i ≤ m → i < used → n ≤ length (path ls up i) → Ancestor i n
  ancestor_f zero i n le hi hn =
      let z = root_length i (omega arith) in
      (i, hi, sym (take_all n (path ls up i) (omega arith)))
  ancestor_f (suc m) i n le hi hn = ⊎_elim (shorter (λ a. ancestor_f m a)) here (cases_lt n (length (path ls up i)))
    where
      here : length (path ls up i) ≤ n → Ancestor i n
      here l = (i, hi, sym (take_all n (path ls up i) l))

      shorter : ((a n : ℕ) → a ≤ m → a < used → n ≤ length (path ls up a) → Ancestor a n) → n < length (path ls up i) → Ancestor i n
      shorter rec l =
          let ne : i ≢ 0 = λ z. let y = root_length i z in omega arith in
          let pi : 0 < i = omega arith in
          let ui = shape.ups i pi hi in
          let pl = path_length i pi hi in
          let k = rec (up i) n (omega arith) (omega arith) (omega arith) in
          (k.0, k.1, k.2 ∙ sym (ap (take n) (path_step i pi hi) ∙ take-append-le n (path ls up (up i)) ((at ls i).symbol ∷ []) (omega arith)))

  pub ancestor : (i n : ℕ) → i < used → n ≤ length (path ls up i) → (k : ℕ) × (k < used) × (path ls up k ≡ take n (path ls up i))
  ancestor i n hi hn = ancestor_f i i n (omega arith) hi hn

  pub child_path : (p r : ℕ) → 0 < r → r < used → up r ≡ p → path ls up r ≡ path ls up p ++ ((at ls r).symbol ∷ [])
  child_path p r pos hr eu = path_step r pos hr ∙ ap (λ (x : ℕ). path ls up x ++ ((at ls r).symbol ∷ [])) eu

  -- where a spelling goes on from that of p by t, p has a child t
  pub child_there : (p i t : ℕ) (r : List ℕ) → p < used → i < used → path ls up i ≡ path ls up p ++ t ∷ r → (k : ℕ) × (0 < k) × (k < used) × (up k ≡ p) × ((at ls k).symbol ≡ t)
  child_there p i t r hp hi e =
      let n = length (path ls up p) in
      let ln : length (path ls up i) ≡ n + length (t ∷ r) = ap length e ∙ length-append (path ls up p) (t ∷ r) in
      let a = ancestor i (n + 1) hi (omega arith) in
      let k = a.0 in
      let ek : path ls up k ≡ path ls up p ++ (t ∷ []) =
      a.2
      ∙ take_more (path ls up i) n 0 (omega arith)
      ∙ ap (λ (x : List ℕ). take n x ++ (get_or x n 0 ∷ [])) e
      ∙ ap₂ (λ (x : List ℕ) (y : ℕ). x ++ (y ∷ [])) (take_at (path ls up p) (t ∷ r) n refl) (get_or_at (path ls up p) t r 0 n refl) in
      let lk = ap length ek ∙ length_push (path ls up p) t in
      let nk : k ≢ 0 = λ z. let y : length (path ls up k) ≡ 0 = ap (λ (x : ℕ). length (path ls up x)) z ∙ ap length (path_root) in omega arith in
      let pk : 0 < k = omega arith in
      let uk = shape.ups k pk a.1 in
      let both = same_from_push (path ls up (up k)) (path ls up p) (at ls k).symbol t (sym (path_step k pk a.1) ∙ ek) in
      (k, pk, a.1, path_inj (up k) p (omega arith) hp both.0, both.1)

  -- where the way down along w has no next cell, no spelling goes on along it
  pub lost : (w : List ℕ) (p n : ℕ) → p < used → n < length w → path ls up p ≡ take n w → Child ls up used p (get_or w n 0) None → (i : ℕ) → i < used → take (n + 1) (path ls up i) ≡ take (n + 1) w → ⊥
  lost w p n hp hn e ch i hi same =
      let x = path ls up i in
      let ex : x ≡ path ls up p ++ get_or w n 0 ∷ drop (n + 1) x =
      sym (take-append-drop (n + 1) x)
      ∙ ap (λ (y : List ℕ). y ++ drop (n + 1) x) (same ∙ take_more w n 0 hn)
      ∙ append_assoc (take n w) (get_or w n 0 ∷ []) (drop (n + 1) x)
      ∙ ap (λ (y : List ℕ). y ++ get_or w n 0 ∷ drop (n + 1) x) (sym e) in
      let k = child_there p i (get_or w n 0) (drop (n + 1) x) hp hi ex in
      ch k.0 k.1 k.2 k.3 k.4

  -- one symbol further down
  pub further : (w : List ℕ) (p n r : ℕ) → n < length w → path ls up p ≡ take n w → Child ls up used p (get_or w n 0) (Some r) → path ls up r ≡ take (n + 1) w
  further w p n r hn e ch = child_path p r ch.0 ch.1 ch.2 ∙ ap₂ (λ (x : List ℕ) (y : ℕ). x ++ (y ∷ [])) e ch.3 ∙ sym (take_more w n 0 hn)
