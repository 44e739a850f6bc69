-- The places of a length, by their index and by how often they come.
use Rattle.std.proofs.Common.{◌≡◌, ℕ, zero, suc, ◌+◌, ◌-◌, ◌*◌, ◌/◌, ◌%◌, ◌<◌, ◌≤◌, ◌&&◌, eqb, leb, List, ◌∷◌, length, get_or, sym, refl, subst, ⊎_elim, arith}
use Rattle.std.proofs.lemmas.Bool.{cases_eq, eq-eqb, ne_eqb, cond-true, cond-false}
use Rattle.std.proofs.lemmas.Bool.Decides.{nat_tests}
use Rattle.words.specs.Counting.{count, one}
use Rattle.levels.specs.Order.{outward, places}

-- ---- what stands at an index

outward_even : (a b j : ℕ) → j % 2 ≡ 0 → j < 2 * a + 2 → get_or (outward a b) j 0 ≡ a - j / 2
outward_even zero b zero e h = refl
outward_even zero b (suc zero) e h = absurd (omega arith)
outward_even zero b (suc (suc j)) e h = absurd (omega arith)
outward_even (suc a) b zero e h = omega arith
outward_even (suc a) b (suc zero) e h = absurd (omega arith)
outward_even (suc a) b (suc (suc j)) e h = let i = outward_even a (suc b) j (omega arith) (omega arith) in omega arith

outward_odd : (a b j : ℕ) → j % 2 ≡ 1 → j < 2 * a + 2 → get_or (outward a b) j 0 ≡ b + j / 2
outward_odd zero b zero e h = absurd (omega arith)
outward_odd zero b (suc zero) e h = omega arith
outward_odd zero b (suc (suc j)) e h = absurd (omega arith)
outward_odd (suc a) b zero e h = absurd (omega arith)
outward_odd (suc a) b (suc zero) e h = omega arith
outward_odd (suc a) b (suc (suc j)) e h = let i = outward_odd a (suc b) j (omega arith) (omega arith) in omega arith

outward_length : (a b : ℕ) → length (outward a b) ≡ 2 * a + 2
outward_length zero b = refl
outward_length (suc a) b = let i = outward_length a (suc b) in omega arith

pub odd_places : (m : ℕ) → m % 2 ≡ 1 → places m ≡ outward (m / 2) (m / 2 + 1)
unfolding places
odd_places m e = cond-true (eqb (m % 2) 1) (outward (m / 2) (m / 2 + 1)) (m / 2 ∷ outward (m / 2 - 1) (m / 2 + 1)) (eq-eqb (m % 2) 1 e)

pub even_places : (m : ℕ) → (m % 2 ≡ 1 → ⊥) → places m ≡ m / 2 ∷ outward (m / 2 - 1) (m / 2 + 1)
unfolding places
even_places m e = cond-false (eqb (m % 2) 1) (outward (m / 2) (m / 2 + 1)) (m / 2 ∷ outward (m / 2 - 1) (m / 2 + 1)) (ne_eqb (m % 2) 1 e)

-- what holds of the places of a length, odd or even
by_parity : (P : List ℕ → Type 0) (m : ℕ) → (m % 2 ≡ 1 → P (outward (m / 2) (m / 2 + 1))) → (m % 2 ≡ 0 → P (m / 2 ∷ outward (m / 2 - 1) (m / 2 + 1))) → P (places m)
by_parity P m o e =
    ⊎_elim
    (λ (d : m % 2 ≡ 1). subst P (sym (odd_places m d)) (o d))
    (λ (d : m % 2 ≡ 1 → ⊥). subst P (sym (even_places m d)) (e (omega arith)))
    (cases_eq (m % 2) 1)

even_up : (h j : ℕ) → 1 ≤ h → j % 2 ≡ 0 → j ≤ 2 * h → get_or (h ∷ outward (h - 1) (h + 1)) j 0 ≡ h + j / 2
even_up h zero l e u = omega arith
even_up h (suc j) l e u = let i = outward_odd (h - 1) (h + 1) j (omega arith) (omega arith) in omega arith

even_down : (h j : ℕ) → 1 ≤ h → j % 2 ≡ 1 → j ≤ 2 * h → get_or (h ∷ outward (h - 1) (h + 1)) j 0 ≡ h - (j / 2 + 1)
even_down h zero l e u = absurd (omega arith)
even_down h (suc j) l e u = let i = outward_even (h - 1) (h + 1) j (omega arith) (omega arith) in omega arith

-- where the index and the length are both even or both odd, the place is the middle or above it
pub place_up : (m j : ℕ) → 1 ≤ m → j ≤ m → j % 2 ≡ m % 2 → get_or (places m) j 0 ≡ m / 2 + (j / 2 + j % 2)
place_up m j l u e =
    by_parity (λ ks. get_or ks j 0 ≡ m / 2 + (j / 2 + j % 2)) m
    (λ o. let i = outward_odd (m / 2) (m / 2 + 1) j (omega arith) (omega arith) in omega arith)
    (λ o. let i = even_up (m / 2) j (omega arith) (omega arith) (omega arith) in omega arith)

-- and else it is the middle or below it
pub place_down : (m j : ℕ) → 1 ≤ m → j ≤ m → (j % 2 ≡ m % 2 → ⊥) → get_or (places m) j 0 ≡ m / 2 - (j / 2 + j % 2)
place_down m j l u e =
    by_parity (λ ks. get_or ks j 0 ≡ m / 2 - (j / 2 + j % 2)) m
    (λ o. let i = outward_even (m / 2) (m / 2 + 1) j (omega arith) (omega arith) in omega arith)
    (λ o. let i = even_down (m / 2) j (omega arith) (omega arith) (omega arith) in omega arith)

pub places_length : (m : ℕ) → 1 ≤ m → length (places m) ≡ m + 1
places_length m l =
    by_parity (λ ks. length ks ≡ m + 1) m
    (λ o. let i = outward_length (m / 2) (m / 2 + 1) in omega arith)
    (λ o. let i = outward_length (m / 2 - 1) (m / 2 + 1) in omega arith)

-- ---- how often a place comes

outward_count : (k a b : ℕ) → count (eqb k) (outward a b) ≡ one (leb k a) + one (leb b k && leb k (b + a))
outward_count k zero b = grind (arith, nat_tests)
outward_count k (suc a) b = let i = outward_count k a (suc b) in grind (arith, nat_tests)

pub places_count : (k m : ℕ) → 1 ≤ m → count (eqb k) (places m) ≡ one (leb k m)
places_count k m l =
    by_parity (λ ks. count (eqb k) ks ≡ one (leb k m)) m
    (λ o. let i = outward_count k (m / 2) (m / 2 + 1) in grind (arith, nat_tests))
    (λ o. let i = outward_count k (m / 2 - 1) (m / 2 + 1) in grind (arith, nat_tests))
