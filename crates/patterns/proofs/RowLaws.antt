-- The laws of joining rows by the greater value at each place.
use Rattle.std.proofs.Common.{◌≡◌, ℕ, zero, suc, ◌≤◌, max, true, not, List, [], ◌∷◌, length, get_or, replicate, sym, refl, ap, ap₂, arith}
use mathlib.Core.HLevel.{Π_prop, is_prop→PathP}
use native.Mathlib.Bridge.{le_prop}
use native.Mathlib.Nat.{ℕ_set}
use Rattle.std.proofs.lemmas.Bool.{true≢false, false≢true}
use Rattle.patterns.specs.declared.pattern.Row.{Row}
use Rattle.patterns.specs.Spellings.{places, highest, any_above_zero, greater}
-- whether the first value decides that some value is above 0
pub use Rattle.patterns.proofs.Spells.{any_here, any_zero}

pub greater_commutes : (xs ys : List ℕ) → greater xs ys ≡ greater ys xs
greater_commutes [] [] = refl
greater_commutes [] (y ∷ ys) = refl
greater_commutes (x ∷ xs) [] = refl
greater_commutes (x ∷ xs) (y ∷ ys) = let h : max x y ≡ max y x = omega arith in ap₂ (λ (a : ℕ) (b : List ℕ). a ∷ b) h (greater_commutes xs ys)

pub greater_associates : (xs ys zs : List ℕ) → greater (greater xs ys) zs ≡ greater xs (greater ys zs)
greater_associates [] ys zs = refl
greater_associates (x ∷ xs) [] zs = refl
greater_associates (x ∷ xs) (y ∷ ys) [] = refl
greater_associates (x ∷ xs) (y ∷ ys) (z ∷ zs) =
    let h : max (max x y) z ≡ max x (max y z) = omega arith in
    ap₂ (λ (a : ℕ) (b : List ℕ). a ∷ b) h (greater_associates xs ys zs)

-- zeros leave the other row
pub greater_zeros : (n : ℕ) (xs : List ℕ) → length xs ≡ n → greater (replicate n 0) xs ≡ xs
greater_zeros zero xs e = refl
greater_zeros (suc n) [] e = absurd (omega arith)
greater_zeros (suc n) (x ∷ xs) e = let h : max 0 x ≡ x = omega arith in ap₂ (λ (a : ℕ) (b : List ℕ). a ∷ b) h (greater_zeros n xs (omega arith))

-- zeros come from zeros alone
pub zeros_only : (n : ℕ) (xs ys : List ℕ) → length xs ≡ n → length ys ≡ n → greater xs ys ≡ replicate n 0 → xs ≡ replicate n 0
zeros_only zero [] ys a b e = refl
zeros_only zero (x ∷ xs) ys a b e = absurd (omega arith)
zeros_only (suc n) [] ys a b e = absurd (omega arith)
zeros_only (suc n) (x ∷ xs) [] a b e = absurd (omega arith)
zeros_only (suc n) (x ∷ xs) (y ∷ ys) a b e =
    let h : max x y ≡ 0 = cc in
    let t : greater xs ys ≡ replicate n 0 = cc in
    let z : x ≡ 0 = omega arith in
    ap₂ (λ (c : ℕ) (d : List ℕ). c ∷ d) z (zeros_only n xs ys (omega arith) (omega arith) t)

-- a row without a value above 0 has only zeros
pub zeros_told : (n : ℕ) (xs : List ℕ) → length xs ≡ n → not (any_above_zero xs) ≡ true → xs ≡ replicate n 0
zeros_told zero [] e t = refl
zeros_told zero (x ∷ xs) e t = absurd (omega arith)
zeros_told (suc n) [] e t = absurd (omega arith)
zeros_told (suc n) (zero ∷ xs) e t = ap (λ (b : List ℕ). 0 ∷ b) (zeros_told n xs (omega arith) t)
zeros_told (suc n) (suc x ∷ xs) e t = absurd (true≢false (sym t))

-- rows with equal values are equal
pub row_path : (p q : Row) → p.values ≡ q.values → p ≡ q
row_path p q a = λ i. record {
  values = a i;
  full = is_prop→PathP (λ j. length (a j) ≡ places) (λ j. ℕ_set (length (a j)) places) p.full q.full i;
  digits = is_prop→PathP (λ j. (k : ℕ) → get_or (a j) k 0 ≤ highest) (λ j. Π_prop (λ _. le_prop)) p.digits q.digits i;
}

-- ---- a value above 0

above_rest : (x : ℕ) (xs : List ℕ) → any_above_zero xs ≡ true → any_above_zero (x ∷ xs) ≡ true
above_rest zero xs h = h
above_rest (suc x) xs h = refl

-- a value above 0 stays above 0
pub above_greater : (xs ys : List ℕ) → any_above_zero xs ≡ true → any_above_zero (greater xs ys) ≡ true
above_greater [] ys h = absurd (false≢true h)
above_greater (x ∷ xs) [] h = h
above_greater (zero ∷ xs) (y ∷ ys) h = above_rest (max 0 y) (greater xs ys) (above_greater xs ys h)
above_greater (suc x ∷ xs) (y ∷ ys) h = any_here (max (suc x) y) (greater xs ys) (omega arith)
