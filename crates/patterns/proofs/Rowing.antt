-- Rows joined by the greater value at each place.
use Rattle.std.proofs.Common.{◌≡◌, ℕ, zero, suc, ◌<◌, ◌≤◌, max, List, [], ◌∷◌, length, get_or, sym, refl, ap, ◌∙◌, arith}
use Rattle.std.proofs.lemmas.List.{ext_get_or}
use Rattle.patterns.specs.Spellings.{greater}

pub get_or_greater : (xs ys : List ℕ) (k : ℕ) → get_or (greater xs ys) k 0 ≡ max (get_or xs k 0) (get_or ys k 0)
get_or_greater [] ys k = omega arith
get_or_greater (x ∷ xs) [] k = omega arith
get_or_greater (x ∷ xs) (y ∷ ys) zero = refl
get_or_greater (x ∷ xs) (y ∷ ys) (suc k) = get_or_greater xs ys k

pub length_greater : (n : ℕ) (xs ys : List ℕ) → length xs ≡ n → length ys ≡ n → length (greater xs ys) ≡ n
length_greater n [] ys a b = b
length_greater n (x ∷ xs) [] a b = a
length_greater zero (x ∷ xs) (y ∷ ys) a b = absurd (omega arith)
length_greater (suc n) (x ∷ xs) (y ∷ ys) a b = ap suc (length_greater n xs ys (omega arith) (omega arith))

-- the first k places have been joined
pub record JoinedTo (xs ys : List ℕ) (k : ℕ) (zs : List ℕ) : Type 0 where
  pub same : length zs ≡ length xs
  pub done : (j : ℕ) → j < k → get_or zs j 0 ≡ max (get_or xs j 0) (get_or ys j 0)
  pub left : (j : ℕ) → k ≤ j → get_or zs j 0 ≡ get_or xs j 0

pub joined_all : (xs ys : List ℕ) (n k : ℕ) (zs : List ℕ) → length xs ≡ n → length ys ≡ n → n ≤ k → JoinedTo xs ys k zs → zs ≡ greater xs ys
joined_all xs ys n k zs a b l i =
    ext_get_or 0 zs (greater xs ys) (i.same ∙ a ∙ sym (length_greater n xs ys a b)) (λ j h. i.done j (omega (arith, i.same)) ∙ sym (get_or_greater xs ys j))
