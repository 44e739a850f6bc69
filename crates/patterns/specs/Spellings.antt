-- Spellings, rows and patterns as lists of numbers.
use Rattle.std.specs.Prelude.{◌≡◌, ℕ, zero, suc, ◌<◌, ◌≤◌, max, Bool, true, false, not, ◌&&◌, List, [], ◌∷◌, length, drop, replicate, slice_index}
use Rattle.words.specs.Words.{alphabet}

-- the most symbols of a spelling
abbrev pub longest : ℕ
longest = 15

-- the places of a row
abbrev pub places : ℕ
places = 16

-- the highest value at a place
abbrev pub highest : ℕ
highest = 9

-- whether some number of a list is above 0
abbrev pub any_above_zero : List ℕ → Bool
any_above_zero [] = false
any_above_zero (zero ∷ xs) = any_above_zero xs
any_above_zero (suc x ∷ xs) = true

-- the row that gives no place a value
abbrev pub no_values : List ℕ
no_values = replicate places 0

-- two rows joined: the greater of their values at each place
abbrev pub greater : List ℕ → List ℕ → List ℕ
greater [] ys = ys
greater (x ∷ xs) [] = x ∷ xs
greater (x ∷ xs) (y ∷ ys) = max x y ∷ greater xs ys

-- whether a row of a spelling with n symbols makes a pattern: some value is above 0, and none beyond place n
abbrev pub fits_row : ℕ → List ℕ → Bool
fits_row n values = any_above_zero values && not (any_above_zero (drop (suc n) values))

-- what a pattern says: the symbols of its spelling, and the values of its 16 places
abbrev pub Spelled : Type 0
Spelled = List ℕ × List ℕ

-- the rules of a pattern
pub record Valid (p : Spelled) : Type 0 where
  pub few : length p.0 ≤ longest
  pub symbolic : (k : ℕ) → slice_index p.0 k ≤ alphabet
  pub edged : (k : ℕ) → 0 < k → suc k < length p.0 → 0 < slice_index p.0 k
  pub lettered : any_above_zero p.0 ≡ true
  pub wide : length p.1 ≡ places
  pub digits : (k : ℕ) → slice_index p.1 k ≤ highest
  pub within : (k : ℕ) → length p.0 < k → slice_index p.1 k ≡ 0
  pub valued : any_above_zero p.1 ≡ true
