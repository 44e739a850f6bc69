-- Sums and counts over a list, and runs of numbers.
use Rattle.std.specs.Prelude.{ℕ, zero, suc, ◌+◌, ◌-◌, Bool, cond, List, [], ◌∷◌}

abbrev pub sum_of : {A : Type 0} → (A → ℕ) → List A → ℕ
sum_of f [] = 0
sum_of f (x ∷ xs) = f x + sum_of f xs

abbrev pub one : Bool → ℕ
one b = cond b 1 0

-- how many of the list pass the test
abbrev pub count : {A : Type 0} → (A → Bool) → List A → ℕ
count p xs = sum_of (λ x. one (p x)) xs

-- the n numbers a, a + 1, ..
abbrev pub numbers : ℕ → ℕ → List ℕ
numbers a zero = []
numbers a (suc n) = a ∷ numbers (suc a) n

-- the numbers from a to e, and none where e is below a
abbrev pub span : ℕ → ℕ → List ℕ
span a e = numbers a (suc e - a)
