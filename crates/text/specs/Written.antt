-- The line that a prefix and figures make, and what it means that it was written into lent memory.
use Rattle.std.specs.Prelude.{◌≡◌, ℕ, ◌+◌, ◌<◌, ◌≤◌, List, [], ◌∷◌, ◌++◌, length, take, drop, Ok, Err, decimal, Result}
use Rattle.text.specs.declared.memory.Short.{Short}

-- the figures in decimal, with a comma (44) between neighbours
abbrev pub commaed : List ℕ → List ℕ
commaed [] = []
commaed (n ∷ []) = decimal n
commaed (n ∷ m ∷ ns) = decimal n ++ 44 ∷ commaed (m ∷ ns)

-- the whole line: the prefix, and then the figures
abbrev pub line_of : List ℕ → List ℕ → List ℕ
line_of prefix ns = prefix ++ commaed ns

-- the memory once the text was written over it from the place `at` on
abbrev pub overlaid : List ℕ → ℕ → List ℕ → List ℕ
overlaid before at text = take at before ++ (text ++ drop (at + length text) before)

-- the line stands first in the memory and its length is told; or the memory is shorter than the line, and unchanged
abbrev pub Wrote : List ℕ → List ℕ → Result ℕ Short → List ℕ → Type 0
Wrote text before (Ok n) after = (n ≡ length text) × (after ≡ text ++ drop (length text) before) × (length text ≤ length before)
Wrote text before (Err _) after = (length before < length text) × (after ≡ before)
