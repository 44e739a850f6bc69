-- Values put into maps: what is then looked up, and that the order of it does not matter.
use Rattle.std.proofs.Common.{◌≡◌, ℕ, suc, Bool, true, false, cond, not, ◌||◌, ◌≢◌, List, [], ◌∷◌, length, sym, refl, ap, ◌∙◌, subst, ⊎_elim}
use Rattle.std.specs.List.{AllByRecursion}
use Rattle.std.proofs.lemmas.Bool.{cases_Bool, both_ways, cond-true, cond-false}
use Rattle.books.specs.Maps.{Map, Ascending, same, holds, lookup, Joined, raised}
use Rattle.books.proofs.Mapping.{same_refl, same_eq, raised_joined, raised_ascends, raised_all, raised_length, extensional}
use Rattle.tree.specs.Kinds.{Kind}
use Rattle.tree.specs.Meanings.{Sound, put}

module _ {V : Type 0} (K : Kind V) where
  pub unit_right : (x : V) → K.join x K.nothing ≡ x
  unit_right x = K.commutes x K.nothing ∙ K.unit x

  pub solid : (v : V) → K.bare v ≡ false → v ≢ K.nothing
  solid v f e = both_ways (K.bare v) f (ap K.bare e ∙ K.told)

  pub bare_not : (v : V) → v ≢ K.nothing → K.bare v ≡ false
  bare_not v n = ⊎_elim (λ (t : K.bare v ≡ true). absurd (n (K.tells v t))) (λ (f : K.bare v ≡ false). f) (cases_Bool (K.bare v))

  pub join_solid : (x v : V) → K.bare v ≡ false → K.bare (K.join x v) ≡ false
  join_solid x v f = bare_not (K.join x v) (λ e. solid v f (K.only x v e).1)

  -- ---- one value

  module _ (u : List ℕ) (v : V) (m : Map V) where
    pub put_bare : K.bare v ≡ true → put K u v m ≡ m
    unfolding put
    put_bare t = cond-true (K.bare v) m (raised K.join u v m) t

    pub put_solid : K.bare v ≡ false → put K u v m ≡ raised K.join u v m
    unfolding put
    put_solid f = cond-false (K.bare v) m (raised K.join u v m) f

    pub put_joined : Sound K m → Joined K.nothing K.join m u v (put K u v m)
    put_joined s = ⊎_elim
        (λ (t : K.bare v ≡ true). let e = K.tells v t in subst (Joined K.nothing K.join m u v) (sym (put_bare t)) (record {
          here = sym (ap (K.join (lookup K.nothing m u)) e ∙ unit_right (lookup K.nothing m u));
          elsewhere = λ w n. refl;
        }))
        (λ (f : K.bare v ≡ false). subst (Joined K.nothing K.join m u v) (sym (put_solid f)) (raised_joined K.join K.nothing u v m s.ascends (K.unit v)))
        (cases_Bool (K.bare v))

    -- what holds of each old entry, and of each value of the new spelling that is not nothing
    pub put_all : (P : List ℕ × V → Type 0) → (K.bare v ≡ false → P (u, v)) → ((x : V) → P (u, x) → P (u, K.join x v)) → AllByRecursion P m → AllByRecursion P (put K u v m)
    put_all P p q a = ⊎_elim
        (λ (t : K.bare v ≡ true). subst (AllByRecursion P) (sym (put_bare t)) a)
        (λ (f : K.bare v ≡ false). subst (AllByRecursion P) (sym (put_solid f)) (raised_all K.join P u v (p f) q m a))
        (cases_Bool (K.bare v))

    pub put_sound : Sound K m → Sound K (put K u v m)
    put_sound s = record {
      ascends = ⊎_elim
          (λ (t : K.bare v ≡ true). subst Ascending (sym (put_bare t)) s.ascends)
          (λ (f : K.bare v ≡ false). subst Ascending (sym (put_solid f)) (raised_ascends K.join u v m s.ascends))
          (cases_Bool (K.bare v));
      some = put_all (λ e. e.1 ≢ K.nothing) (λ f. solid v f) (λ x n e. n (K.only x v e).0) s.some;
    }

    -- a new spelling makes one entry more
    pub put_length : Sound K m → K.bare v ≡ false → length (put K u v m) ≡ cond (holds m u) (length m) (suc (length m))
    put_length s f = ap length (put_solid f) ∙ raised_length K.join u v m s.ascends

  -- ---- look-ups

  abbrev look : Map V → List ℕ → V
  look m x = lookup K.nothing m x

  -- a spelling is held where something is looked up
  pub holds_bare : (m : Map V) (u : List ℕ) → Sound K m → holds m u ≡ not (K.bare (look m u))
  holds_bare [] u s = sym (ap not K.told)
  holds_bare (e ∷ m) u s = go (holds_bare m u (record { ascends = s.ascends.1; some = s.some.1 }))
    where
      go : holds m u ≡ not (K.bare (look m u)) → holds (e ∷ m) u ≡ not (K.bare (look (e ∷ m) u))
      go ih = ⊎_elim
          (λ (t : same u e.0 ≡ true). ap (λ (b : Bool). b || holds m u) t ∙ sym (ap not (ap K.bare (cond-true (same u e.0) e.1 (look m u) t) ∙ bare_not e.1 s.some.0)))
          (λ (f : same u e.0 ≡ false). ap (λ (b : Bool). b || holds m u) f ∙ ih ∙ sym (ap (λ (v : V). not (K.bare v)) (cond-false (same u e.0) e.1 (look m u) f)))
          (cases_Bool (same u e.0))

  -- maps with equal look-ups are equal
  pub alike : (m n : Map V) → Sound K m → Sound K n → ((x : List ℕ) → look m x ≡ look n x) → m ≡ n
  alike m n s t h = extensional K.nothing m n s.ascends t.ascends s.some t.some h

  abbrev pub only_at : List ℕ → List ℕ → V → V
  only_at u x v = cond (same x u) v K.nothing

  pub joined_lookup : (m n : Map V) (u : List ℕ) (v : V) → Joined K.nothing K.join m u v n → (x : List ℕ) → look n x ≡ K.join (look m x) (only_at u x v)
  joined_lookup m n u v j x = ⊎_elim
      (λ (t : same x u ≡ true).
      let e = same_eq x u t in
      ap (look n) e ∙ j.here ∙ ap (λ (w : List ℕ). K.join (look m w) v) (sym e) ∙ ap (K.join (look m x)) (sym (cond-true (same x u) v K.nothing t)))
      (λ (f : same x u ≡ false).
      let ne : x ≢ u = λ e. both_ways (same x u) f (ap (same x) (sym e) ∙ same_refl x) in
      j.elsewhere x ne ∙ sym (ap (K.join (look m x)) (cond-false (same x u) v K.nothing f) ∙ unit_right (look m x)))
      (cases_Bool (same x u))

  pub put_lookup : (u : List ℕ) (v : V) (m : Map V) → Sound K m → (x : List ℕ) → look (put K u v m) x ≡ K.join (look m x) (only_at u x v)
  put_lookup u v m s x = joined_lookup m (put K u v m) u v (put_joined u v m s) x

  pub put_here : (u : List ℕ) (v : V) (m : Map V) → Sound K m → look (put K u v m) u ≡ K.join (look m u) v
  put_here u v m s = (put_joined u v m s).here

  pub put_elsewhere : (u : List ℕ) (v : V) (m : Map V) → Sound K m → (x : List ℕ) → x ≢ u → look (put K u v m) x ≡ look m x
  put_elsewhere u v m s x n = (put_joined u v m s).elsewhere x n

  -- ---- two values

  swapped : (x y z : V) → K.join (K.join x y) z ≡ K.join (K.join x z) y
  swapped x y z = K.associates x y z ∙ ap (K.join x) (K.commutes y z) ∙ sym (K.associates x z y)

  -- in either order
  pub put_commutes : (a b : List ℕ) (u v : V) (m : Map V) → Sound K m → put K a u (put K b v m) ≡ put K b v (put K a u m)
  put_commutes a b u v m s =
      let sb = put_sound b v m s in
      let sa = put_sound a u m s in
      alike (put K a u (put K b v m)) (put K b v (put K a u m)) (put_sound a u (put K b v m) sb) (put_sound b v (put K a u m) sa) (λ x.
      put_lookup a u (put K b v m) sb x
      ∙ ap (λ (y : V). K.join y (only_at a x u)) (put_lookup b v m s x)
      ∙ swapped (look m x) (only_at b x v) (only_at a x u)
      ∙ sym (put_lookup b v (put K a u m) sa x ∙ ap (λ (y : V). K.join y (only_at b x v)) (put_lookup a u m s x)))

  only_joined : (b : Bool) (u v : V) → K.join (cond b u K.nothing) (cond b v K.nothing) ≡ cond b (K.join u v) K.nothing
  only_joined true u v = refl
  only_joined false u v = K.unit K.nothing

  -- two at one spelling are one
  pub put_twice : (a : List ℕ) (u v : V) (m : Map V) → Sound K m → put K a v (put K a u m) ≡ put K a (K.join u v) m
  put_twice a u v m s =
      let sa = put_sound a u m s in
      alike (put K a v (put K a u m)) (put K a (K.join u v) m) (put_sound a v (put K a u m) sa) (put_sound a (K.join u v) m s) (λ x.
      put_lookup a v (put K a u m) sa x
      ∙ ap (λ (y : V). K.join y (only_at a x v)) (put_lookup a u m s x)
      ∙ K.associates (look m x) (only_at a x u) (only_at a x v)
      ∙ ap (K.join (look m x)) (only_joined (same x a) u v)
      ∙ sym (put_lookup a (K.join u v) m s x))
