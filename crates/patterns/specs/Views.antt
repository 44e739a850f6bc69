-- What the values of the code mean.
use Rattle.std.specs.Prelude.{◌≡◌, ℕ, true, false, List, length, take, Some, None, Ok, Err, Option, Result}
use Rattle.patterns.specs.declared.pattern.Spelling.{Spelling}
use Rattle.patterns.specs.declared.pattern.Pattern.{Pattern}
use Rattle.patterns.specs.declared.reading.BadPattern.{BadPattern}
use Rattle.patterns.specs.Spellings.{Spelled, fits_row}
use Rattle.patterns.specs.Texts.{Reading, spells, refused}
use Rattle.patterns.specs.Faults.{pattern_refused}

abbrev pub symbols_of : Spelling → List ℕ
symbols_of s = take s.len s.symbols

abbrev pub spelled : Pattern → Spelled
spelled p = (symbols_of p.spelling, p.row.values)

-- what the reader of a text answers
abbrev pub answer : Result Pattern BadPattern → Reading
answer (Ok p) = spells (spelled p)
answer (Err f) = refused (pattern_refused f)

-- the pattern of a spelling and a row, just where these make one
abbrev pub MadeOf : List ℕ → List ℕ → Option Pattern → Type 0
MadeOf u values (Some p) = (fits_row (length u) values ≡ true) × (spelled p ≡ (u, values))
MadeOf u values None = fits_row (length u) values ≡ false
