-- The lines of a text.
use Rattle.std.specs.Prelude.{◌≡◌, ℕ, ◌<◌, cond, ◌⊎◌, List, [], ◌∷◌, ◌++◌, length, ◌==◌}
use Rattle.text.specs.Cuts.{Without}

-- b in front of the first line
abbrev pub grow : ℕ → List (List ℕ) → List (List ℕ)
grow b [] = (b ∷ []) ∷ []
grow b (l ∷ ls) = (b ∷ l) ∷ ls

-- A line feed (10) ends a line. The last line may lack its line feed, and a final line feed begins no line.
unfoldable pub lines_of : List ℕ → List (List ℕ)
lines_of [] = []
lines_of (b ∷ bs) = cond (b == 10) ([] ∷ lines_of bs) (grow b (lines_of bs))

-- the text behind its first line
unfoldable pub behind_line : List ℕ → List ℕ
behind_line [] = []
behind_line (b ∷ bs) = cond (b == 10) bs (behind_line bs)

-- no byte of the line is a line feed
abbrev pub NoFeed : List ℕ → Type 0
NoFeed line = Without 10 line

-- a text begins with a line, and goes on with the rest: after the line's feed, or the line is the last and is not empty
pub record Begins (text line rest : List ℕ) : Type 0 where
  pub clear : NoFeed line
  pub parts : (text ≡ line ++ 10 ∷ rest) ⊎ ((text ≡ line) × (rest ≡ []) × (0 < length line))
