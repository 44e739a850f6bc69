-- Where a spelling that comes after another turns off from it.
use Rattle.std.proofs.Common.{◌≡◌, ℕ, zero, suc, ◌<◌, ◌≤◌, true, false, ◌≢◌, ◌⊎◌, List, [], ◌∷◌, ◌++◌, length, get_or, take, sym, refl, ap, ◌∙◌, ap₂, inl, inr, ⊎_elim, arith}
use Rattle.std.proofs.lemmas.Bool.{cases_order, false≢true}
use Rattle.std.specs.Ordering.{is_lt}
use Rattle.patterns.specs.Order.{ordering, before}
use Rattle.patterns.proofs.Ordered.{less_first, more_first, same_first}

-- ---- by the first symbols

first_of : (x y : ℕ) (xs ys : List ℕ) → before (x ∷ xs) (y ∷ ys) ≡ true → (x < y) ⊎ ((x ≡ y) × (before xs ys ≡ true))
first_of x y xs ys h =
    ⊎_elim
    (λ (e : x ≡ y). inr (e, sym (ap is_lt (same_first x y xs ys e)) ∙ h))
    (⊎_elim (λ (l : x < y). inl l) (λ (l : y < x). absurd (false≢true (sym (ap is_lt (more_first x y xs ys l)) ∙ h))))
    (cases_order x y)

by_less : (x y : ℕ) (xs ys : List ℕ) → x < y → before (x ∷ xs) (y ∷ ys) ≡ true
by_less x y xs ys l = ap is_lt (less_first x y xs ys l)

by_rest : (x y : ℕ) (xs ys : List ℕ) → x ≡ y → before (x ∷ xs) (y ∷ ys) ≡ before xs ys
by_rest x y xs ys e = ap is_lt (same_first x y xs ys e)

pub none_before : (x : List ℕ) → before x [] ≡ false
unfolding ordering
none_before [] = refl
none_before (y ∷ ys) = refl

heads : {x y : ℕ} {xs ys : List ℕ} → x ∷ xs ≡ y ∷ ys → x ≡ y
heads e = cc

tails : {x y : ℕ} {xs ys : List ℕ} → x ∷ xs ≡ y ∷ ys → xs ≡ ys
tails e = cc

-- ---- what goes on from a spelling

-- between p and p with s after it lie only spellings that go on from p by a smaller symbol
pub between : (p x : List ℕ) (s : ℕ) → before p x ≡ true → before x (p ++ s ∷ []) ≡ true → (t : ℕ) × (r : List ℕ) × (t < s) × (x ≡ p ++ t ∷ r)
unfolding ordering
between [] [] s l u = absurd (false≢true l)
between [] (t ∷ r) s l u = ⊎_elim
    (λ (lt : t < s). (t, r, lt, refl))
    (λ e. absurd (false≢true (sym (none_before r) ∙ e.1)))
    (first_of t s r [] u)
between (y ∷ p) [] s l u = absurd (false≢true l)
between (y ∷ p) (z ∷ x) s l u = go (between p x s) where
  go : (before p x ≡ true → before x (p ++ s ∷ []) ≡ true → (t : ℕ) × (r : List ℕ) × (t < s) × (x ≡ p ++ t ∷ r)) → (t : ℕ) × (r : List ℕ) × (t < s) × (z ∷ x ≡ y ∷ (p ++ t ∷ r))
  go rec = ⊎_elim
      (λ (lt : y < z). absurd (⊎_elim (λ (g : z < y). omega arith) (λ e. let q = e.0 in omega arith) (first_of z y x (p ++ s ∷ []) u)))
      (λ e.
      let q = e.0 in
      let b = rec e.1 (sym (by_rest z y x (p ++ s ∷ []) (sym q)) ∙ u) in
      (b.0, b.1, b.2, ap₂ (λ (a : ℕ) (c : List ℕ). a ∷ c) (sym q) b.3))
      (first_of y z p x l)

-- p with t and more after it does not come before p with s, where t is not below s
pub not_before : (p : List ℕ) (s t : ℕ) (r : List ℕ) → s ≤ t → before (p ++ t ∷ r) (p ++ s ∷ []) ≡ false
not_before [] s t r h = ⊎_elim
    (λ (e : t ≡ s). by_rest t s r [] e ∙ none_before r)
    (⊎_elim (λ (l : t < s). absurd (omega arith)) (λ (l : s < t). ap is_lt (more_first t s r [] l)))
    (cases_order t s)
not_before (y ∷ p) s t r h = by_rest y y (p ++ t ∷ r) (p ++ s ∷ []) refl ∙ not_before p s t r h

-- ---- u, and a spelling x that comes after it

-- turned off from u behind its first n symbols
pub turned_after : (n : ℕ) (u : List ℕ) (s : ℕ) (r : List ℕ) → n < length u → get_or u n 0 < s → before u (take n u ++ s ∷ r) ≡ true
turned_after n [] s r h l = absurd (omega arith)
turned_after zero (a ∷ u) s r h l = by_less a s u r l
turned_after (suc n) (a ∷ u) s r h l = by_rest a a u (take n u ++ s ∷ r) refl ∙ turned_after n u s r (omega arith) l

-- what has the first n symbols of u comes before x, where x has not
pub beyond : (n : ℕ) (u x y : List ℕ) → n ≤ length u → before u x ≡ true → take n x ≢ take n u → take n y ≡ take n u → before y x ≡ true
unfolding ordering
beyond zero u x y h b nx ey = absurd (nx refl)
beyond (suc n) [] x y h b nx ey = absurd (omega arith)
beyond (suc n) (a ∷ u) [] y h b nx ey = absurd (false≢true b)
beyond (suc n) (a ∷ u) (c ∷ x) [] h b nx ey = let z : ◌≡◌ {A = ℕ} 0 1 = cc in absurd (omega arith)
beyond (suc n) (a ∷ u) (c ∷ x) (d ∷ y) h b nx ey = go (beyond n u x y (omega arith)) where
  go : (before u x ≡ true → take n x ≢ take n u → take n y ≡ take n u → before y x ≡ true) → before (d ∷ y) (c ∷ x) ≡ true
  go rec =
      let da = heads ey in
      ⊎_elim
      (λ (l : a < c). by_less d c y x (omega arith))
      (λ e.
      let ac = e.0 in
      by_rest d c y x (da ∙ ac) ∙ rec e.1 (λ q. nx (ap₂ (λ (a : ℕ) (r : List ℕ). a ∷ r) (sym ac) q)) (tails ey))
      (first_of a c u x b)

-- x turns off just behind the first n symbols of u
pub turns : (n : ℕ) (u x : List ℕ) → n < length u → before u x ≡ true → take n x ≡ take n u → take (suc n) x ≢ take (suc n) u → (t : ℕ) × (r : List ℕ) × (get_or u n 0 < t) × (x ≡ take n u ++ t ∷ r)
unfolding ordering
turns n [] x h b e ne = absurd (omega arith)
turns n (a ∷ u) [] h b e ne = absurd (false≢true b)
turns zero (a ∷ u) (c ∷ x) h b e ne = ⊎_elim
    (λ (l : a < c). (c, x, l, refl))
    (λ q. absurd (ne (ap (λ (z : ℕ). z ∷ []) (sym q.0))))
    (first_of a c u x b)
turns (suc n) (a ∷ u) (c ∷ x) h b e ne = go (turns n u x (omega arith)) where
  go : (before u x ≡ true → take n x ≡ take n u → take (suc n) x ≢ take (suc n) u → (t : ℕ) × (r : List ℕ) × (get_or u n 0 < t) × (x ≡ take n u ++ t ∷ r)) → (t : ℕ) × (r : List ℕ) × (get_or u n 0 < t) × (c ∷ x ≡ a ∷ (take n u ++ t ∷ r))
  go rec =
      let ca = heads e in
      ⊎_elim
      (λ (l : a < c). absurd (omega arith))
      (λ q.
      let f = rec q.1 (tails e) (λ w. ne (ap₂ (λ (y : ℕ) (z : List ℕ). y ∷ z) ca w)) in
      (f.0, f.1, f.2, ap₂ (λ (y : ℕ) (z : List ℕ). y ∷ z) ca f.3))
      (first_of a c u x b)

-- x goes on where u ends
pub goes_on : (u x : List ℕ) → before u x ≡ true → take (length u) x ≡ u → (t : ℕ) × (r : List ℕ) × (x ≡ u ++ t ∷ r)
unfolding ordering
goes_on [] [] b e = absurd (false≢true b)
goes_on [] (t ∷ r) b e = (t, r, refl)
goes_on (a ∷ u) [] b e = absurd (false≢true b)
goes_on (a ∷ u) (c ∷ x) b e = go (goes_on u x) where
  go : (before u x ≡ true → take (length u) x ≡ u → (t : ℕ) × (r : List ℕ) × (x ≡ u ++ t ∷ r)) → (t : ℕ) × (r : List ℕ) × (c ∷ x ≡ a ∷ (u ++ t ∷ r))
  go rec =
      let ca = heads e in
      let f = rec (sym (by_rest a c u x (sym ca)) ∙ b) (tails e) in
      (f.0, f.1, ap₂ (λ (y : ℕ) (z : List ℕ). y ∷ z) ca f.2)
