-- The maximum rule.
use Rattle.std.specs.Prelude.{◌≡◌, ℕ, suc, ◌+◌, ◌-◌, ◌≤◌, max, Bool, cond, ◌&&◌, ◌⊎◌, List, [], ◌∷◌, length, nat_le, slice_index, slice_index_or}
use Rattle.std.specs.List.{ContainsAt as Has}
use Rattle.words.specs.Counting.{numbers}
use Rattle.words.specs.Words.{Headword}
use Rattle.patterns.specs.Spellings.{Spelled}
use Rattle.patterns.specs.Parts.{padded, part}
use Rattle.books.specs.Maps.{same}
use Rattle.books.specs.Books.{Book}

-- a spelling matches a word at start s: it lies within the padded word, and is what stands there
pub record Matches (u : List ℕ) (w : Headword) (s : ℕ) : Type 0 where
  pub inside : s + length u ≤ length w.0 + 2
  pub stands : part (padded w) s (length u) ≡ u

-- a pattern gives position i the value v: it matches the word at some start s, and its place k, which is position s + k - 1,
-- has that value
pub record Gives (p : Spelled) (w : Headword) (i v : ℕ) : Type 0 where
  pub start : ℕ
  pub place : ℕ
  pub matches : Matches p.0 w start
  pub inside : place ≤ length p.0
  pub there : start + place ≡ i + 1
  pub value : slice_index_or p.1 place 0 ≡ v

-- the value of a position: the greatest that any pattern held gives it, or 0
pub record Greatest (b : Book) (w : Headword) (i v : ℕ) : Type 0 where
  pub most : (p : Spelled) (x : ℕ) → Has b p → Gives p w i x → x ≤ v
  pub given : (v ≡ 0) ⊎ ((p : Spelled) × Has b p × Gives p w i v)

-- ---- the same as a function

abbrev pub greatest : {A : Type 0} → (A → ℕ) → List A → ℕ
greatest f [] = 0
greatest f (x ∷ xs) = max (f x) (greatest f xs)

unfoldable pub matches : List ℕ → Headword → ℕ → Bool
matches u w s = nat_le (s + length u) (length w.0 + 2) && same u (part (padded w) s (length u))

-- what a pattern gives position i by its place k, and by any of its places
abbrev pub gives_by : Spelled → Headword → ℕ → ℕ → ℕ
gives_by p w i k = cond (nat_le k (i + 1) && matches p.0 w (i + 1 - k)) (slice_index p.1 k) 0

unfoldable pub gives : Spelled → Headword → ℕ → ℕ
gives p w i = greatest (gives_by p w i) (numbers 0 (suc (length p.0)))

unfoldable pub value : Book → Headword → ℕ → ℕ
value b w i = greatest (λ p. gives p w i) b

-- the two agree
pub record MaximumRule : Type 0 where
  pub is : (b : Book) (w : Headword) (i : ℕ) → Greatest b w i (value b w i)
  pub only : (b : Book) (w : Headword) (i v : ℕ) → Greatest b w i v → v ≡ value b w i

-- ---- start by start

-- what the patterns of at most n symbols that match at start s give place k
unfoldable pub given_at : Book → Headword → ℕ → ℕ → ℕ → ℕ
given_at b w s n k = greatest (λ p. cond (nat_le (length p.0) n && matches p.0 w s) (slice_index p.1 k) 0) b
