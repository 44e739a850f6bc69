-- What cells mean: which value each cell gives, and what a change of one does.
use Rattle.std.proofs.Common.{◌≡◌, ℕ, zero, suc, ◌<◌, true, false, ◌≢◌, ◌⊎◌, List, [], get_or, sym, refl, ap, ◌∙◌, subst, inl, inr, ⊎_elim, arith}
use Rattle.std.proofs.lemmas.Bool.{cases_eq, cases_Bool}
use Rattle.books.specs.Maps.{Map, same, lookup}
use Rattle.books.proofs.Mapping.{same_eq, same_refl}
use Rattle.tree.specs.declared.cell.Link.{Link}
use Rattle.tree.specs.Paths.{path}
use Rattle.tree.specs.Kinds.{Kind}
use Rattle.tree.specs.Meanings.{Sound, put, meant}
use Rattle.tree.proofs.Putting.{put_sound, put_here, put_elsewhere, put_commutes, put_twice}

pub same_or : (u v : List ℕ) → (u ≡ v) ⊎ (u ≡ v → ⊥)
same_or u v = ⊎_elim
    (λ (t : same u v ≡ true). inl (same_eq u v t))
    (λ (f : same u v ≡ false). inr (λ e. let z : true ≡ false = sym (same_refl u) ∙ ap (same u) e ∙ f in let y : ◌≡◌ {A = ℕ} 0 1 = cc in omega arith))
    (cases_Bool (same u v))

module _ {V : Type 0} (K : Kind V) (ls : List Link) (up : ℕ → ℕ) where
  abbrev at_cell : List V → ℕ → V
  at_cell vs i = get_or vs i K.nothing

  pub meant_none : (vs : List V) → meant K ls up vs 0 ≡ []
  unfolding meant
  meant_none vs = refl

  pub meant_more : (vs : List V) (n : ℕ) → meant K ls up vs (suc n) ≡ put K (path ls up n) (at_cell vs n) (meant K ls up vs n)
  unfolding meant
  meant_more vs n = refl

  pub meant_sound : (vs : List V) (n : ℕ) → Sound K (meant K ls up vs n)
  meant_sound vs zero = subst (Sound K) (sym (meant_none vs)) (record { ascends = tt; some = tt })
  meant_sound vs (suc n) = subst (Sound K) (sym (meant_more vs n)) (put_sound K (path ls up n) (at_cell vs n) (meant K ls up vs n) (meant_sound vs n))

  -- a spelling that no cell has is not held
  pub meant_missing : (vs : List V) (n : ℕ) (w : List ℕ) → ((i : ℕ) → i < n → path ls up i ≡ w → ⊥) → lookup K.nothing (meant K ls up vs n) w ≡ K.nothing
  meant_missing vs zero w h = ap (λ (m : Map V). lookup K.nothing m w) (meant_none vs)
  meant_missing vs (suc n) w h =
      ap (λ (m : Map V). lookup K.nothing m w) (meant_more vs n)
      ∙ put_elsewhere K (path ls up n) (at_cell vs n) (meant K ls up vs n) (meant_sound vs n) w (λ e. h n (omega arith) (sym e))
      ∙ meant_missing vs n w (λ i l. h i (omega arith))

  -- one that a single cell has is held with its value
  pub meant_found : (vs : List V) (n r : ℕ) (w : List ℕ) → r < n → path ls up r ≡ w → ((i : ℕ) → i < n → path ls up i ≡ w → i ≡ r) → lookup K.nothing (meant K ls up vs n) w ≡ at_cell vs r
  meant_found vs zero r w h e u = absurd (omega arith)
  meant_found vs (suc n) r w h e u = go (λ l. meant_found vs n r w l e (λ i k. u i (omega arith)))
    where
      m : Map V
      m = meant K ls up vs n

      go : (r < n → lookup K.nothing m w ≡ at_cell vs r) → lookup K.nothing (meant K ls up vs (suc n)) w ≡ at_cell vs r
      go rec = ap (λ (y : Map V). lookup K.nothing y w) (meant_more vs n) ∙ ⊎_elim
          (λ (q : r ≡ n).
          let e' : path ls up n ≡ w = ap (path ls up) (sym q) ∙ e in
          ap (λ (x : List ℕ). lookup K.nothing (put K x (at_cell vs n) m) w) e'
          ∙ put_here K w (at_cell vs n) m (meant_sound vs n)
          ∙ ap (λ (x : V). K.join x (at_cell vs n)) (meant_missing vs n w (λ i l p. let y = u i (omega arith) p in omega arith))
          ∙ K.unit (at_cell vs n)
          ∙ ap (at_cell vs) (sym q))
          (λ (ne : r ≡ n → ⊥).
          put_elsewhere K (path ls up n) (at_cell vs n) m (meant_sound vs n) w (λ p. ne (sym (u n (omega arith) (sym p)))) ∙ rec (omega arith))
          (cases_eq r n)

  -- what is held stands at a cell
  pub meant_held : (vs : List V) (n : ℕ) (x : List ℕ) → lookup K.nothing (meant K ls up vs n) x ≢ K.nothing → (i : ℕ) × (i < n) × (path ls up i ≡ x)
  meant_held vs zero x held = absurd (held (ap (λ (m : Map V). lookup K.nothing m x) (meant_none vs)))
  meant_held vs (suc n) x held = go (meant_held vs n x)
    where
      go : (lookup K.nothing (meant K ls up vs n) x ≢ K.nothing → (i : ℕ) × (i < n) × (path ls up i ≡ x)) → (i : ℕ) × (i < suc n) × (path ls up i ≡ x)
      go rec = ⊎_elim
          (λ (e : path ls up n ≡ x). (n, omega arith, e))
          (λ (ne : path ls up n ≡ x → ⊥).
          let r = rec (λ z. held (ap (λ (m : Map V). lookup K.nothing m x) (meant_more vs n) ∙ put_elsewhere K (path ls up n) (at_cell vs n) (meant K ls up vs n) (meant_sound vs n) x (λ e. ne (sym e)) ∙ z)) in
          (r.0, omega (arith, r.1), r.2))
          (same_or (path ls up n) x)

module _ {V : Type 0} (K : Kind V) where
  -- the same spellings and values mean the same
  pub meant_kept : (ls ls' : List Link) (up up' : ℕ → ℕ) (vs vs' : List V) (n : ℕ) → ((i : ℕ) → i < n → path ls' up' i ≡ path ls up i) → ((i : ℕ) → i < n → get_or vs' i K.nothing ≡ get_or vs i K.nothing) → meant K ls' up' vs' n ≡ meant K ls up vs n
  meant_kept ls ls' up up' vs vs' zero hp hv = meant_none K ls' up' vs' ∙ sym (meant_none K ls up vs)
  meant_kept ls ls' up up' vs vs' (suc n) hp hv =
      meant_more K ls' up' vs' n
      ∙ ap (λ (w : List ℕ). put K w (get_or vs' n K.nothing) (meant K ls' up' vs' n)) (hp n (omega arith))
      ∙ ap (λ (v : V). put K (path ls up n) v (meant K ls' up' vs' n)) (hv n (omega arith))
      ∙ ap (put K (path ls up n) (get_or vs n K.nothing)) (meant_kept ls ls' up up' vs vs' n (λ i h. hp i (omega arith)) (λ i h. hv i (omega arith)))
      ∙ sym (meant_more K ls up vs n)

  -- v joined to the value of the cell k is put at its spelling
  pub meant_joined : (ls : List Link) (up : ℕ → ℕ) (vs vs' : List V) (k n : ℕ) (v : V) → k < n → get_or vs' k K.nothing ≡ K.join (get_or vs k K.nothing) v → ((i : ℕ) → i ≢ k → get_or vs' i K.nothing ≡ get_or vs i K.nothing) → meant K ls up vs' n ≡ put K (path ls up k) v (meant K ls up vs n)
  meant_joined ls up vs vs' k zero v h hk ho = absurd (omega arith)
  meant_joined ls up vs vs' k (suc n) v h hk ho = go (λ l. meant_joined ls up vs vs' k n v l hk ho)
    where
      old : V
      old = get_or vs n K.nothing

      m : Map V
      m = meant K ls up vs n

      go : (k < n → meant K ls up vs' n ≡ put K (path ls up k) v m) → meant K ls up vs' (suc n) ≡ put K (path ls up k) v (meant K ls up vs (suc n))
      go rec = ⊎_elim
          (λ (e : k ≡ n).
          let kept : meant K ls up vs' n ≡ m = meant_kept ls ls up up vs vs' n (λ i _. refl) (λ i l. ho i (omega arith)) in
          let val : get_or vs' n K.nothing ≡ K.join old v = ap (λ (x : ℕ). get_or vs' x K.nothing) (sym e) ∙ hk ∙ ap (λ (x : ℕ). K.join (get_or vs x K.nothing) v) e in
          meant_more K ls up vs' n
          ∙ ap (λ (x : V). put K (path ls up n) x (meant K ls up vs' n)) val
          ∙ ap (put K (path ls up n) (K.join old v)) kept
          ∙ sym (put_twice K (path ls up n) old v m (meant_sound K ls up vs n))
          ∙ ap (λ (x : ℕ). put K (path ls up x) v (put K (path ls up n) old m)) (sym e)
          ∙ ap (put K (path ls up k) v) (sym (meant_more K ls up vs n)))
          (λ (ne : k ≡ n → ⊥).
          meant_more K ls up vs' n
          ∙ ap (λ (x : V). put K (path ls up n) x (meant K ls up vs' n)) (ho n (λ e. ne (sym e)))
          ∙ ap (put K (path ls up n) old) (rec (omega arith))
          ∙ put_commutes K (path ls up n) (path ls up k) old v m (meant_sound K ls up vs n)
          ∙ ap (put K (path ls up k) v) (sym (meant_more K ls up vs n)))
          (cases_eq k n)
