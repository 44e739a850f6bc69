-- The greatest over a list, and over a run of numbers.
use Rattle.std.proofs.Common.{◌≡◌, ℕ, zero, suc, ◌+◌, ◌<◌, ◌≤◌, max, ◌⊎◌, List, [], ◌∷◌, sym, refl, ap, inl, inr, ⊎_elim, arith}
use Rattle.std.proofs.lemmas.Bool.{cases_eq, cases_lt}
use Rattle.std.proofs.ByRecursion.{All-weaker, has_append_right}
use Rattle.std.specs.List.{ContainsAt as Has, AllByRecursion}
use Rattle.words.specs.Counting.{numbers}
use Rattle.books.specs.Rule.{greatest}

module _ {A : Type 0} (f : A → ℕ) where
  pub greatest_le : (v : ℕ) (xs : List A) → AllByRecursion (λ x. f x ≤ v) xs → greatest f xs ≤ v
  greatest_le v [] a = omega arith
  greatest_le v (x ∷ xs) a = let h = greatest_le v xs a.1 in let d = a.0 in omega arith

  pub greatest_each : (xs : List A) → AllByRecursion (λ x. f x ≤ greatest f xs) xs
  greatest_each [] = tt
  greatest_each (x ∷ xs) =
      (omega arith, All-weaker (λ y. f y ≤ greatest f xs) (λ y. f y ≤ max (f x) (greatest f xs)) (λ y h. omega arith) xs (greatest_each xs))

  -- it is the value of some element, or 0
  pub greatest_has : (xs : List A) → (greatest f xs ≡ 0) ⊎ ((x : A) × Has xs x × (f x ≡ greatest f xs))
  greatest_has [] = inl refl
  greatest_has (x ∷ xs) = go (cases_lt (f x) (greatest f xs)) (greatest_has xs) where
    go : (f x < greatest f xs) ⊎ (greatest f xs ≤ f x) → (greatest f xs ≡ 0) ⊎ ((y : A) × Has xs y × (f y ≡ greatest f xs)) → (max (f x) (greatest f xs) ≡ 0) ⊎ ((y : A) × Has (x ∷ xs) y × (f y ≡ max (f x) (greatest f xs)))
    go (inr h) r = inr (x, (0, omega arith, λ d. refl), omega arith)
    go (inl h) (inl z) = inl (omega arith)
    go (inl h) (inr y) = let e = y.2 in inr (y.0, has_append_right (x ∷ []) xs y.0 y.1, omega arith)

pub numbers_le : (f : ℕ → ℕ) (v a n : ℕ) → ((k : ℕ) → a ≤ k → k < a + n → f k ≤ v) → greatest f (numbers a n) ≤ v
numbers_le f v a zero h = omega arith
numbers_le f v a (suc n) h =
    let d = h a (omega arith) (omega arith) in
    let e = numbers_le f v (suc a) n (λ k l u. h k (omega arith) (omega arith)) in
    omega arith

pub numbers_at : (f : ℕ → ℕ) (a n k : ℕ) → a ≤ k → k < a + n → f k ≤ greatest f (numbers a n)
numbers_at f a zero k l u = absurd (omega arith)
numbers_at f a (suc n) k l u =
    ⊎_elim
    (λ (e : a ≡ k). let d : f k ≡ f a = ap f (sym e) in omega arith)
    (λ (e : a ≡ k → ⊥). let d = numbers_at f (suc a) n k (omega arith) (omega arith) in omega arith)
    (cases_eq a k)

pub numbers_more : (f : ℕ → ℕ) (a n : ℕ) → greatest f (numbers a (suc n)) ≡ max (greatest f (numbers a n)) (f (a + n))
numbers_more f a zero = let e : f (a + 0) ≡ f a = ap f (omega arith) in omega arith
numbers_more f a (suc n) = let h = numbers_more f (suc a) n in let e : f (suc a + n) ≡ f (a + suc n) = ap f (omega arith) in omega arith
