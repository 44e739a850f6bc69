-- The kinds of the positions of a word under a book.
use Rattle.std.specs.Prelude.{ℕ, ◌%◌, Bool, not, ◌&&◌, List, length, filter, ◌==◌}
use Rattle.words.specs.Words.{Headword, hyphen, positions, bits_of}
use Rattle.books.specs.Books.{Book}
use Rattle.books.specs.Rule.{value}

abbrev pub odd : ℕ → Bool
odd n = n % 2 == 1

-- a position is given when its value is odd
unfoldable pub given : Book → Headword → ℕ → Bool
given b w i = odd (value b w i)

-- it has a hyphen and is given
abbrev pub found : Book → Headword → ℕ → Bool
found b w i = hyphen w i && given b w i

-- it is given without a hyphen
abbrev pub wrong : Book → Headword → ℕ → Bool
wrong b w i = not (hyphen w i) && given b w i

-- it has a hyphen and is not given
abbrev pub missed : Book → Headword → ℕ → Bool
missed b w i = hyphen w i && not (given b w i)

-- neither
abbrev pub plain : Book → Headword → ℕ → Bool
plain b w i = not (hyphen w i) && not (given b w i)

-- the positions of a word within bounds
abbrev pub within : ℕ → ℕ → Headword → List ℕ
within left right w = positions left right (length w.0)

-- those that are given, as bits like the marks
abbrev pub given_bits : ℕ → ℕ → Book → Headword → ℕ
given_bits left right b w = bits_of (filter (given b w) (within left right w))
