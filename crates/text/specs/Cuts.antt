-- A text cut at a byte.
use Rattle.std.specs.Prelude.{◌≡◌, ℕ, ◌<◌, List, ◌∷◌, ◌++◌, length, ◌≢◌, slice_index, Some, None, Option}
use Rattle.std.specs.Borrow.{Bor}

-- no byte of the text is b
abbrev pub Without : ℕ → List ℕ → Type 0
Without b text = (k : ℕ) → k < length text → slice_index text k ≢ b

-- the front of a text, without b, and what follows the first b, if the text has one
abbrev pub CutAt : ℕ → List ℕ → List ℕ → Option (Bor (List ℕ)) → Type 0
CutAt b text front None = Without b front × (text ≡ front)
CutAt b text front (Some rest) = Without b front × (text ≡ front ++ b ∷ rest.now)
