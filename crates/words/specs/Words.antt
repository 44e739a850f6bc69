-- What a word means: its letters and its hyphens.
use Rattle.std.specs.Prelude.{ℕ, ◌-◌, ◌/◌, ◌%◌, ◌^◌, ◌≤◌, Bool, List, length, ◌==◌}
use Rattle.words.specs.Counting.{sum_of, count, span}

-- the letters are the symbols 1 to alphabet, a to z; symbol 0 is the edge of a word
abbrev pub alphabet : ℕ
alphabet = 26

-- the most letters of a word
abbrev pub longest : ℕ
longest = 48

-- the widest bound on either side
abbrev pub widest : ℕ
widest = 8

-- A headword is what a word says: the symbols of its letters, and its marks, the number whose bit i is set
-- where position i, between letters i and i + 1, has a hyphen.
abbrev pub Headword : Type 0
Headword = List ℕ × ℕ

-- digit i of m in base two
abbrev pub bit : ℕ → ℕ → ℕ
bit m i = m / 2 ^ i % 2

-- whether position i has a hyphen
unfoldable pub hyphen : Headword → ℕ → Bool
hyphen w i = bit w.1 i == 1

abbrev pub InRange : ℕ → ℕ → Type 0
InRange left right = (1 ≤ left) × (left ≤ widest) × (1 ≤ right) × (right ≤ widest)

-- the positions within bounds of a word of n letters: left to n - right, and none where n is below left + right
abbrev pub positions : ℕ → ℕ → ℕ → List ℕ
positions left right n = span left (n - right)

-- positions as the bits of a number, like the marks
abbrev pub bits_of : List ℕ → ℕ
bits_of ps = sum_of (λ p. 2 ^ p) ps

-- how many positions within bounds have a hyphen
abbrev pub hyphens_in_bounds : ℕ → ℕ → Headword → ℕ
hyphens_in_bounds left right w = count (hyphen w) (positions left right (length w.0))
