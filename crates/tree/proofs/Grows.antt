-- A new cell in its gap keeps the shape.
use Rattle.std.proofs.Common.{◌≡◌, ℕ, zero, suc, ◌+◌, ◌<◌, ◌≤◌, cond, eqb, ◌≢◌, ◌⊎◌, List, [], ◌∷◌, ◌++◌, sym, refl, ap, ◌∙◌, subst, inl, inr, ⊎_elim, arith}
use Rattle.std.proofs.lemmas.Bool.{cases_eq, cases_lt, eq-eqb, ne_eqb, cond-true, cond-false}
use Rattle.tree.specs.declared.cell.Link.{Link}
use Rattle.tree.specs.Cells.{at, parent, Shape, Gap, Grown, Extends}
use Rattle.tree.specs.Paths.{path, climb}
use Rattle.tree.proofs.Parents.{parent_is, parent_root}
use Rattle.tree.proofs.Walks.{child_of, gap_upper}
use Rattle.tree.proofs.Paths.{path_step}

module _ (ls ls' : List Link) (up up' : ℕ → ℕ) (n p s b j : ℕ) (shape : Shape ls up n) (hp : p < n) (gap : Gap ls up n p s b j) (fresh : j ≢ 0 → (at ls j).symbol ≢ s) (gr : Grown ls ls' n p s b j) (ex : Extends up up' n p) where
  no_twin : (i : ℕ) → 0 < i → i < n → up i ≡ p → (at ls i).symbol ≡ s → ⊥
  no_twin i pos lt eu sy =
      let c = child_of ls up n shape p s hp b j gap i pos lt eu sy in
      fresh c.0 (ap (λ x. (at ls x).symbol) (sym c.1) ∙ sy)

  above : j ≢ 0 → s < (at ls j).symbol
  above ne = let r = gap.reached ne in let f = fresh ne in omega arith

  -- a smaller child stands at b or before it
  lower : (i : ℕ) → 0 < i → i < n → up i ≡ p → (at ls i).symbol < s → (b ≢ 0) × ((at ls i).symbol ≤ (at ls b).symbol)
  lower i pos lt eu small = ⊎_elim front inner (cases_eq b 0)
    where
      front : b ≡ 0 → (b ≢ 0) × ((at ls i).symbol ≤ (at ls b).symbol)
      front z =
          let l = shape.least p i pos lt eu in
          let e = gap.walk.front z in
          let nj : j ≢ 0 = λ y. l.0 (sym e ∙ y) in
          let a = above nj in
          let q : (at ls j).symbol ≡ (at ls (at ls p).first).symbol = ap (λ x. (at ls x).symbol) e in
          absurd (omega (arith, l.1))

      inner : b ≢ 0 → (b ≢ 0) × ((at ls i).symbol ≤ (at ls b).symbol)
      inner nb = (nb, ⊎_elim (λ far. absurd (gone far)) (λ le. le) (cases_lt (at ls b).symbol (at ls i).symbol))
        where
          gone : (at ls b).symbol < (at ls i).symbol → ⊥
          gone far =
              let h = gap.walk.inner nb in
              let a = shape.after b i (omega arith) h.0 pos lt (eu ∙ sym h.1) far in
              let nj : j ≢ 0 = λ y. a.0 (sym h.3 ∙ y) in
              let ab = above nj in
              let q : (at ls j).symbol ≡ (at ls (at ls b).next).symbol = ap (λ x. (at ls x).symbol) h.3 in
              omega (arith, a.1)

  -- a greater child stands at j or after it
  upper : (i : ℕ) → 0 < i → i < n → up i ≡ p → s < (at ls i).symbol → (j ≢ 0) × ((at ls j).symbol ≤ (at ls i).symbol)
  upper i pos lt eu big = gap_upper ls up n shape p s hp b j gap i pos lt eu (omega arith)

  new_symbol : (at ls' n).symbol ≡ s
  new_symbol = ap (λ (l : Link). l.symbol) gr.new

  fresh_first : (at ls' n).first ≡ 0
  fresh_first = ap (λ (l : Link). l.first) gr.new

  fresh_next : (at ls' n).next ≡ j
  fresh_next = ap (λ (l : Link). l.next) gr.new

  -- below n or at it
  ways : {P : Type 0} (i : ℕ) → i < n + 1 → (i < n → P) → (i ≡ n → P) → P
  ways i lt f g = ⊎_elim f (λ le. g (omega arith)) (cases_lt i n)

  grown_ups : (i : ℕ) → 0 < i → i < n + 1 → up' i < i
  grown_ups i pos lt = ways i lt
      (λ h. let u = shape.ups i pos h in let e = ex.same i h in omega arith)
      (λ e. let q : up' i ≡ p = ap up' e ∙ ex.new in omega arith)

  sy' : {x y : ℕ} → x ≡ y → (at ls' x).symbol ≡ (at ls' y).symbol
  sy' e = ap (λ z. (at ls' z).symbol) e

  first_ways : (q : ℕ) → q < n → ((b ≡ 0) × (q ≡ p) × ((at ls' q).first ≡ n)) ⊎ ((at ls' q).first ≡ (at ls q).first)
  first_ways q h = ⊎_elim
      (λ e. ⊎_elim (λ z. inl (z, e, ap (λ x. (at ls' x).first) e ∙ gr.new_first z)) (λ nb. inr (gr.same_first q h (λ _. nb))) (cases_eq b 0))
      (λ ne. inr (gr.same_first q h (λ e. absurd (ne e))))
      (cases_eq q p)

  next_ways : (i : ℕ) → 0 < i → i < n → ((b ≢ 0) × (i ≡ b) × ((at ls' i).next ≡ n)) ⊎ ((at ls' i).next ≡ (at ls i).next)
  next_ways i pos h = ⊎_elim
      (λ e. let nb : b ≢ 0 = omega arith in inl (nb, e, ap (λ x. (at ls' x).next) e ∙ gr.new_next nb))
      (λ ne. inr (gr.same_next i pos h ne))
      (cases_eq i b)

  abbrev Firsts : ℕ → Type 0
  Firsts q = ((at ls' q).first < n + 1) × (up' (at ls' q).first ≡ q)

  grown_firsts : (q : ℕ) → q < n + 1 → (at ls' q).first ≢ 0 → Firsts q
  grown_firsts q lt ne = ways q lt (λ h. ⊎_elim took (kept h) (first_ways q h)) (λ e. absurd (ne (ap (λ x. (at ls' x).first) e ∙ fresh_first)))
    where
      took : (b ≡ 0) × (q ≡ p) × ((at ls' q).first ≡ n) → Firsts q
      took t = (omega arith, ap up' t.2 ∙ ex.new ∙ sym t.1)

      kept : q < n → (at ls' q).first ≡ (at ls q).first → Firsts q
      kept h e =
          let f = shape.firsts q h (λ z. ne (e ∙ z)) in
          (omega (arith, f.0), ap up' e ∙ ex.same (at ls q).first f.0 ∙ f.1)

  abbrev Nexts : ℕ → Type 0
  Nexts i = ((at ls' i).next < n + 1) × (up' (at ls' i).next ≡ up' i) × ((at ls' i).symbol < (at ls' (at ls' i).next).symbol)

  grown_nexts : (i : ℕ) → 0 < i → i < n + 1 → (at ls' i).next ≢ 0 → Nexts i
  grown_nexts i pos lt ne = ways i lt (λ h. ⊎_elim (took h) (kept h) (next_ways i pos h)) new
    where
      new : i ≡ n → Nexts i
      new e =
          let ej : (at ls' i).next ≡ j = ap (λ x. (at ls' x).next) e ∙ fresh_next in
          let nj : j ≢ 0 = λ z. ne (ej ∙ z) in
          let hj = gap.walk.here nj in
          let a = above nj in
          let s1 = sy' ej ∙ gr.same_symbol j hj.0 in
          let s2 = sy' e ∙ new_symbol in
          (omega (arith, hj.0), ap up' ej ∙ ex.same j hj.0 ∙ hj.1 ∙ sym (ap up' e ∙ ex.new), omega arith)

      took : i < n → (b ≢ 0) × (i ≡ b) × ((at ls' i).next ≡ n) → Nexts i
      took h t =
          let hb = gap.walk.inner t.0 in
          let ub : up i ≡ p = ap up t.1 ∙ hb.1 in
          let sb : (at ls i).symbol ≡ (at ls b).symbol = ap (λ x. (at ls x).symbol) t.1 in
          let s1 = sy' t.2 ∙ new_symbol in
          let s2 = gr.same_symbol i h in
          (omega (arith, t.2), ap up' t.2 ∙ ex.new ∙ sym (ex.same i h ∙ ub), omega (arith, hb.2))

      kept : i < n → (at ls' i).next ≡ (at ls i).next → Nexts i
      kept h e =
          let f = shape.nexts i pos h (λ z. ne (e ∙ z)) in
          let s1 = sy' e ∙ gr.same_symbol (at ls i).next f.0 in
          let s2 = gr.same_symbol i h in
          (omega (arith, f.0), ap up' e ∙ ex.same (at ls i).next f.0 ∙ f.1 ∙ sym (ex.same i h), omega (arith, f.2))

  abbrev Least : ℕ → ℕ → Type 0
  Least q i = ((at ls' q).first ≢ 0) × ((at ls' (at ls' q).first).symbol ≤ (at ls' i).symbol)

  least_new : ((at ls' p).first ≢ 0) × ((at ls' (at ls' p).first).symbol ≤ s)
  least_new = ⊎_elim front inner (cases_eq b 0)
    where
      front : b ≡ 0 → ((at ls' p).first ≢ 0) × ((at ls' (at ls' p).first).symbol ≤ s)
      front z =
          let e = gr.new_first z in
          let q = sy' e ∙ new_symbol in
          (omega arith, omega arith)

      inner : b ≢ 0 → ((at ls' p).first ≢ 0) × ((at ls' (at ls' p).first).symbol ≤ s)
      inner nb =
          let hb = gap.walk.inner nb in
          let e = gr.same_first p hp (λ _. nb) in
          let l = shape.least p b (omega arith) hb.0 hb.1 in
          let f = shape.firsts p hp l.0 in
          let q = sy' e ∙ gr.same_symbol (at ls p).first f.0 in
          ((λ z. l.0 (sym e ∙ z)), omega (arith, l.1, hb.2))

  grown_least : (q i : ℕ) → 0 < i → i < n + 1 → up' i ≡ q → Least q i
  grown_least q i pos lt eu = ways i lt (λ h. old h (sym (ex.same i h) ∙ eu)) new
    where
      new : i ≡ n → Least q i
      new e =
          let qp : p ≡ q = sym (ap up' e ∙ ex.new) ∙ eu in
          let s1 = sy' e ∙ new_symbol in
          let ln = subst (λ x. ((at ls' x).first ≢ 0) × ((at ls' (at ls' x).first).symbol ≤ s)) qp least_new in
          (ln.0, omega (arith, ln.1))

      took : i < n → up i ≡ q → (b ≡ 0) × (q ≡ p) × ((at ls' q).first ≡ n) → Least q i
      took h u t =
          let ge : s ≤ (at ls i).symbol = ⊎_elim (λ small. absurd ((lower i pos h (u ∙ t.1) small).0 t.0)) (λ le. le) (cases_lt (at ls i).symbol s) in
          let s1 = sy' t.2 ∙ new_symbol in
          let s2 = gr.same_symbol i h in
          (omega (arith, t.2), omega arith)

      kept : i < n → up i ≡ q → q < n → (at ls' q).first ≡ (at ls q).first → Least q i
      kept h u hq e =
          let l = shape.least q i pos h u in
          let f = shape.firsts q hq l.0 in
          let s1 = sy' e ∙ gr.same_symbol (at ls q).first f.0 in
          let s2 = gr.same_symbol i h in
          ((λ z. l.0 (sym e ∙ z)), omega (arith, l.1))

      old : i < n → up i ≡ q → Least q i
      old h u =
          let ui = shape.ups i pos h in
          let hq : q < n = omega arith in
          ⊎_elim (took h u) (kept h u hq) (first_ways q hq)

  abbrev After : ℕ → ℕ → Type 0
  After i k = ((at ls' i).next ≢ 0) × ((at ls' (at ls' i).next).symbol ≤ (at ls' k).symbol)

  grown_after : (i k : ℕ) → 0 < i → i < n + 1 → 0 < k → k < n + 1 → up' k ≡ up' i → (at ls' i).symbol < (at ls' k).symbol → After i k
  grown_after i k pi li pk lk eu sy =
      ways i li
      (λ hi. ways k lk (both hi) (k_new hi))
      (λ ei. ways k lk (i_new ei) (λ ek. let s1 = sy' ei in let s2 = sy' ek in absurd (omega arith)))
    where
      i_new : i ≡ n → k < n → After i k
      i_new e h =
          let s1 = sy' e ∙ new_symbol in
          let s2 = gr.same_symbol k h in
          let u = upper k pk h (sym (ex.same k h) ∙ eu ∙ ap up' e ∙ ex.new) (omega arith) in
          let hj = gap.walk.here u.0 in
          let ej : (at ls' i).next ≡ j = ap (λ x. (at ls' x).next) e ∙ fresh_next in
          let s3 = sy' ej ∙ gr.same_symbol j hj.0 in
          ((λ z. u.0 (sym ej ∙ z)), omega (arith, u.1))

      k_new : i < n → k ≡ n → After i k
      k_new h e =
          let s1 = sy' e ∙ new_symbol in
          let s2 = gr.same_symbol i h in
          let ui : up i ≡ p = sym (ex.same i h) ∙ sym eu ∙ ap up' e ∙ ex.new in
          let lo = lower i pi h ui (omega arith) in
          let hb = gap.walk.inner lo.0 in
          ⊎_elim
          (λ ib. let en = ap (λ x. (at ls' x).next) ib ∙ gr.new_next lo.0 in let s3 = sy' en ∙ new_symbol in (omega (arith, en), omega arith))
          (λ nib.
          let bne : (at ls b).symbol ≢ (at ls i).symbol = λ se. nib (sym (shape.apart i b pi h (omega arith) hb.0 (hb.1 ∙ sym ui) se)) in
          let a = shape.after i b pi h (omega arith) hb.0 (hb.1 ∙ sym ui) (omega (arith, lo.1)) in
          let f = shape.nexts i pi h a.0 in
          let en = gr.same_next i pi h nib in
          let s3 = sy' en ∙ gr.same_symbol (at ls i).next f.0 in
          ((λ z. a.0 (sym en ∙ z)), omega (arith, a.1, hb.2)))
          (cases_eq i b)

      both : i < n → k < n → After i k
      both hi hk =
          let s1 = gr.same_symbol i hi in
          let s2 = gr.same_symbol k hk in
          let u : up k ≡ up i = sym (ex.same k hk) ∙ eu ∙ ex.same i hi in
          ⊎_elim
          (λ t.
          let hb = gap.walk.inner t.0 in
          let ub : up i ≡ p = ap up t.1 ∙ hb.1 in
          let sb : (at ls i).symbol ≡ (at ls b).symbol = ap (λ x. (at ls x).symbol) t.1 in
          let ge : s ≤ (at ls k).symbol = ⊎_elim (λ small. absurd (let lo = lower k pk hk (u ∙ ub) small in omega (arith, lo.1))) (λ le. le) (cases_lt (at ls k).symbol s) in
          let s3 = sy' t.2 ∙ new_symbol in
          (omega (arith, t.2), omega arith))
          (λ en.
          let a = shape.after i k pi hi pk hk u (omega arith) in
          let f = shape.nexts i pi hi a.0 in
          let s3 = sy' en ∙ gr.same_symbol (at ls i).next f.0 in
          ((λ z. a.0 (sym en ∙ z)), omega (arith, a.1)))
          (next_ways i pi hi)

  grown_apart : (i k : ℕ) → 0 < i → i < n + 1 → 0 < k → k < n + 1 → up' k ≡ up' i → (at ls' k).symbol ≡ (at ls' i).symbol → k ≡ i
  grown_apart i k pi li pk lk eu sy =
      ways i li
      (λ hi. ways k lk
      (λ hk. shape.apart i k pi hi pk hk (sym (ex.same k hk) ∙ eu ∙ ex.same i hi) (sym (gr.same_symbol k hk) ∙ sy ∙ gr.same_symbol i hi))
      (λ ek. absurd (no_twin i pi hi (sym (ex.same i hi) ∙ sym eu ∙ ap up' ek ∙ ex.new) (sym (gr.same_symbol i hi) ∙ sym sy ∙ sy' ek ∙ new_symbol))))
      (λ ei. ways k lk
      (λ hk. absurd (no_twin k pk hk (sym (ex.same k hk) ∙ eu ∙ ap up' ei ∙ ex.new) (sym (gr.same_symbol k hk) ∙ sy ∙ sy' ei ∙ new_symbol)))
      (λ ek. ek ∙ sym ei))

  pub grown_shape : Shape ls' up' (n + 1)
  grown_shape = record {
    ups = grown_ups;
    firsts = grown_firsts;
    nexts = grown_nexts;
    least = grown_least;
    after = grown_after;
    apart = grown_apart;
  }

  climb_kept : (m i : ℕ) → i < n → climb m ls' up' i ≡ climb m ls up i
  unfolding climb
  climb_kept zero i h = refl
  climb_kept (suc m) zero h = refl
  climb_kept (suc m) (suc i) h =
      let u = shape.ups (suc i) (omega arith) h in
      ap (λ x. climb m ls' up' x ++ ((at ls' (suc i)).symbol ∷ [])) (ex.same (suc i) h) ∙ ap (λ x. x ++ ((at ls' (suc i)).symbol ∷ [])) (climb_kept m (up (suc i)) (omega arith)) ∙ ap (λ x. climb m ls up (up (suc i)) ++ (x ∷ [])) (gr.same_symbol (suc i) h)

  pub grown_path : (i : ℕ) → i < n → path ls' up' i ≡ path ls up i
  unfolding path
  grown_path i h = climb_kept i i h

  pub grown_new_path : path ls' up' n ≡ path ls up p ++ (s ∷ [])
  grown_new_path =
      path_step ls' up' (n + 1) grown_shape n (omega arith) (omega arith) ∙ ap (λ x. path ls' up' x ++ ((at ls' n).symbol ∷ [])) ex.new ∙ ap (λ x. path ls' up' p ++ (x ∷ [])) new_symbol ∙ ap (λ x. x ++ (s ∷ [])) (grown_path p hp)

  -- only the new cell and what had no child before has none
  pub grown_leaf : (i : ℕ) → i < n → (at ls' i).first ≡ 0 → ((at ls i).first ≡ 0) × (i ≢ p)
  grown_leaf i h z = ⊎_elim
      (λ t. absurd (omega (arith, t.2)))
      (λ e. (sym e ∙ z, (λ ip. least_new.0 (ap (λ x. (at ls' x).first) (sym ip) ∙ z))))
      (first_ways i h)

-- the links with the new cell say the same parents, and that of the new cell
module _ (ls ls' : List Link) (n p s b j : ℕ) (shape : Shape ls (parent ls n) n) (hp : p < n) (gap : Gap ls (parent ls n) n p s b j) (fresh : j ≢ 0 → (at ls j).symbol ≢ s) (gr : Grown ls ls' n p s b j) where
  with_new : ℕ → ℕ
  with_new i = cond (eqb i n) p (parent ls n i)

  extends : Extends (parent ls n) with_new n p
  unfolding with_new
  extends = record {
    same = λ i h. cond-false (eqb i n) p (parent ls n i) (ne_eqb i n (omega arith));
    new = cond-true (eqb n n) p (parent ls n n) (eq-eqb n n refl);
  }

  shape_new : Shape ls' with_new (n + 1)
  shape_new = grown_shape ls ls' (parent ls n) with_new n p s b j shape hp gap fresh gr extends

  pub grown_parents : Extends (parent ls n) (parent ls' (n + 1)) n p
  grown_parents = record {
    same = λ i h. ⊎_elim
        (λ (z : i ≡ 0). ap (parent ls' (n + 1)) z ∙ parent_root ls' (n + 1) ∙ sym (ap (parent ls n) z ∙ parent_root ls n))
        (λ (nz : i ≡ 0 → ⊥). parent_is ls' with_new (n + 1) shape_new i (omega arith) (omega arith) ∙ extends.same i h)
        (cases_eq i 0);
    new = parent_is ls' with_new (n + 1) shape_new n (omega arith) (omega arith) ∙ extends.new;
  }
