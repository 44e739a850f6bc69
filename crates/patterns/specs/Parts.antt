-- The symbols of a word with an edge at both ends, and its parts that are spellings.
use Rattle.std.specs.Prelude.{◌≡◌, ℕ, ◌+◌, Bool, true, false, ◌&&◌, List, [], ◌∷◌, ◌++◌, length, take, drop, Some, None, Option, nat_le}
use Rattle.words.specs.Words.{Headword}
use Rattle.patterns.specs.declared.pattern.Spelling.{Spelling}
use Rattle.patterns.specs.Spellings.{longest, any_above_zero}
use Rattle.patterns.specs.Views.{symbols_of}

-- a word padded: letter i stands at i, and an edge before the first letter and behind the last
abbrev pub padded : Headword → List ℕ
padded w = 0 ∷ (w.0 ++ 0 ∷ [])

-- m symbols, behind the first s
abbrev pub part : List ℕ → ℕ → ℕ → List ℕ
part p s m = take m (drop s p)

-- whether the m symbols of a padded word from start s on are a spelling: 1 to 15 of them lie within the word, and one is a letter
abbrev pub is_spelling : Headword → ℕ → ℕ → Bool
is_spelling w s m = nat_le 1 m && (nat_le m longest && (nat_le (s + m) (length w.0 + 2) && any_above_zero (part (padded w) s m)))

-- the spelling that a part of a word is, just where it is one
abbrev pub PartOf : Headword → ℕ → ℕ → Option Spelling → Type 0
PartOf w s m (Some u) = (is_spelling w s m ≡ true) × (symbols_of u ≡ part (padded w) s m)
PartOf w s m None = is_spelling w s m ≡ false
