-- Arrays that hold a list first, and then only 0.
use Rattle.std.proofs.Common.{◌≡◌, ℕ, zero, suc, ◌+◌, ◌-◌, ◌<◌, List, [], ◌∷◌, ◌++◌, length, get_or, set, replicate, sym, refl, ap, ◌∙◌, append_assoc, arith}
use Rattle.std.proofs.lemmas.List.{set_at}

pub zeros : (n k : ℕ) → get_or (replicate {A = ℕ} n 0) k 0 ≡ 0
zeros zero k = refl
zeros (suc n) zero = refl
zeros (suc n) (suc k) = zeros n k

-- one more number of an array of c, behind the n that it holds
pub pad_set : (c : ℕ) (xs : List ℕ) (n s : ℕ) → n ≡ length xs → n < c → set (xs ++ replicate (c - n) 0) n s ≡ (xs ++ s ∷ []) ++ replicate (c - (n + 1)) 0
pad_set c xs n s e h =
    let q : c - n ≡ suc (c - (n + 1)) = omega arith in
    ap (λ (j : ℕ). set (xs ++ replicate j 0) n s) q ∙ set_at xs 0 (replicate (c - (n + 1)) 0) s n (sym e) ∙ sym (append_assoc xs (s ∷ []) (replicate (c - (n + 1)) 0))

-- a number of the list, or 0
pub pad_get : (xs : List ℕ) (n k : ℕ) → get_or (xs ++ replicate n 0) k 0 ≡ get_or xs k 0
pad_get [] n k = zeros n k
pad_get (x ∷ xs) n zero = refl
pad_get (x ∷ xs) n (suc k) = pad_get xs n k
