-- What a map holds, and the least of it.
use Rattle.std.proofs.Common.{◌≡◌, ℕ, Bool, true, false, List, [], ◌∷◌, Some, None, filter, sym, refl, ap, ◌∙◌, subst, ⊎_elim}
use Rattle.std.specs.List.{AllByRecursion}
use Rattle.std.proofs.lemmas.Bool.{cases_Bool, both_ways, false≢true, or_left, or_right, or_cases, cond-true, cond-false}
use Rattle.patterns.specs.Order.{before}
use Rattle.books.specs.Maps.{Map, Ascending, same, holds, least_of}
use Rattle.books.proofs.Mapping.{same_refl, same_eq, Stand, first, equal, later, stand, before_turned, before_apart}

module _ {V : Type 0} where
  -- what holds of all spellings holds of one that is held
  pub all_held : (P : List ℕ → Type 0) (m : Map V) (u : List ℕ) → AllByRecursion (λ e. P e.0) m → holds m u ≡ true → P u
  all_held P [] u a h = absurd (false≢true h)
  all_held P (e ∷ m) u a h = ⊎_elim
      (λ (t : same u e.0 ≡ true). subst P (sym (same_eq u e.0 t)) a.0)
      (λ (t : holds m u ≡ true). all_held P m u a.1 t)
      (or_cases (same u e.0) (holds m u) h)

  module _ (f : List ℕ → Bool) where
    abbrev passing : Map V → Map V
    passing m = filter (λ e. f e.0) m

    -- u is held and passes, and nothing that does comes before it
    pub least_passing : (m : Map V) (u : List ℕ) → Ascending m → holds m u ≡ true → f u ≡ true → ((x : List ℕ) → holds m x ≡ true → f x ≡ true → before x u ≡ false) → least_of (passing m) ≡ Some u
    least_passing [] u a h fu low = absurd (false≢true h)
    least_passing (e ∷ m) u a h fu low = ⊎_elim passes (fails (λ hu. least_passing m u a.1 hu fu (λ x hx. low x (or_right (same x e.0) (holds m x) hx)))) (cases_Bool (f e.0))
      where
        rest : (same u e.0 ≡ false) → holds m u ≡ true
        rest n = ⊎_elim (λ (t : same u e.0 ≡ true). absurd (both_ways (same u e.0) n t)) (λ (t : holds m u ≡ true). t) (or_cases (same u e.0) (holds m u) h)

        passes : f e.0 ≡ true → least_of (passing (e ∷ m)) ≡ Some u
        passes t = ap least_of (cond-true (f e.0) (e ∷ passing m) (passing m) t) ∙ ap Some (is (stand e.0 u))
          where
            is : Stand e.0 u → e.0 ≡ u
            is (first l o) = absurd (both_ways (before e.0 u) (low e.0 (or_left (same e.0 e.0) (holds m e.0) (same_refl e.0)) t) l)
            is (equal l o) = l
            is (later l o) =
                let b = all_held (λ x. before e.0 x ≡ true) m u a.0 (rest (before_apart u e.0 l)) in
                absurd (both_ways (before e.0 u) (before_turned u e.0 l) b)

        fails : (holds m u ≡ true → least_of (passing m) ≡ Some u) → f e.0 ≡ false → least_of (passing (e ∷ m)) ≡ Some u
        fails rec n =
            let off : same u e.0 ≡ false = ⊎_elim (λ (t : same u e.0 ≡ true). absurd (both_ways (f u) (ap f (same_eq u e.0 t) ∙ n) fu)) (λ (q : same u e.0 ≡ false). q) (cases_Bool (same u e.0)) in
            ap least_of (cond-false (f e.0) (e ∷ passing m) (passing m) n)
            ∙ rec (rest off)

    -- nothing that is held passes
    pub least_none : (m : Map V) → ((x : List ℕ) → holds m x ≡ true → f x ≡ true → ⊥) → least_of (passing m) ≡ None
    least_none [] n = refl
    least_none (e ∷ m) n = ⊎_elim
        (λ (t : f e.0 ≡ true). absurd (n e.0 (or_left (same e.0 e.0) (holds m e.0) (same_refl e.0)) t))
        (λ (q : f e.0 ≡ false). ap least_of (cond-false (f e.0) (e ∷ passing m) (passing m) q) ∙ least_none m (λ x hx. n x (or_right (same x e.0) (holds m x) hx)))
        (cases_Bool (f e.0))

    pub all_passing : (m : Map V) → AllByRecursion (λ e. f e.0 ≡ true) m → passing m ≡ m
    all_passing [] a = refl
    all_passing (e ∷ m) a = cond-true (f e.0) (e ∷ passing m) (passing m) a.0 ∙ ap (λ (x : Map V). e ∷ x) (all_passing m a.1)
