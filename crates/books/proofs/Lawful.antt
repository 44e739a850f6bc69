-- The laws of maps.
use Rattle.std.proofs.Common.{◌≡◌, ℕ, zero, suc, ◌<◌, true, false, List, [], ◌∷◌, length, get_or, sym, refl, ap, ◌∙◌, subst, ⊎_elim, arith}
use Rattle.std.specs.List.{ContainsAt as Has}
use Rattle.std.proofs.ByRecursion.{all-has, all_kept_by}
use Rattle.std.proofs.lemmas.Bool.{cond-false, cond_both, or_parts, or_left, or_right, or_cases, false≢true}
use Rattle.patterns.specs.Order.{before}
use Rattle.books.specs.Maps.{Map, Ascending, same, holds, lookup, after}
use Rattle.books.specs.Laws.{MapLaws}
use Rattle.books.proofs.Mapping.{same_refl, same_eq, looked, extensional}

module _ {V : Type 0} where
  has_first : (e : List ℕ × V) (m : Map V) → Has (e ∷ m) e
  has_first e m = (0, omega arith, λ d. refl)

  has_rest : (e f : List ℕ × V) (m : Map V) → Has m f → Has (e ∷ m) f
  has_rest e f m h = (suc h.0, omega (arith, h.1), h.2)

  absent : (nothing : V) (m : Map V) (u : List ℕ) → holds m u ≡ false → lookup nothing m u ≡ nothing
  absent nothing [] u h = refl
  absent nothing (e ∷ m) u h =
      let p = or_parts (same u e.0) (holds m u) h in
      cond-false (same u e.0) e.1 (lookup nothing m u) p.0 ∙ absent nothing m u p.1

  held : (m : Map V) (u : List ℕ) → holds m u ≡ true → (v : V) × Has m (u, v)
  held [] u h = absurd (false≢true h)
  held (e ∷ m) u h =
      ⊎_elim
      (λ (s : same u e.0 ≡ true). (e.1, subst (λ (w : List ℕ). Has (e ∷ m) (w, e.1)) (sym (same_eq u e.0 s)) (has_first e m)))
      (λ (s : holds m u ≡ true). let r = held m u s in (r.0, has_rest e (u, r.0) m r.1))
      (or_cases (same u e.0) (holds m u) h)

  holding : (m : Map V) (u : List ℕ) (v : V) → Has m (u, v) → holds m u ≡ true
  holding [] u v h = absurd (omega (arith, h.1))
  holding (e ∷ m) u v h = go h.0 h.1 h.2 (holding m u v) where
    go : (k : ℕ) → k < suc (length m) → ((d : List ℕ × V) → get_or (e ∷ m) k d ≡ (u, v)) → (Has m (u, v) → holds m u ≡ true) → holds (e ∷ m) u ≡ true
    go zero l a r = or_left (same u e.0) (holds m u) (ap (λ (x : List ℕ × V). same u x.0) (a e) ∙ same_refl u)
    go (suc k) l a r = or_right (same u e.0) (holds m u) (r (k, omega arith, a))

  rest : (m : Map V) (u : List ℕ) → Ascending m → Ascending (after u m)
  rest [] u a = tt
  rest (e ∷ m) u a =
      let r = rest m u a.1 in
      cond_both (before u e.0) (e ∷ after u m) (after u m) Ascending
      (λ _. (all_kept_by (λ f. before u f.0) (λ f. before e.0 f.0 ≡ true) m a.0, r)) (λ _. r)

pub map_laws : {V : Type 0} (nothing : V) → MapLaws nothing
map_laws nothing = record {
  found = λ m u v a h. all-has (λ e. lookup nothing m e.0 ≡ e.1) m (u, v) (looked nothing m a) h;
  absent = absent nothing;
  held = held;
  holding = holding;
  alike = λ m n a b s t l. extensional nothing m n a b s t l;
  rest = rest;
  least = λ e f m a h. all-has (λ x. before e.0 x.0 ≡ true) m f a.0 h;
}
