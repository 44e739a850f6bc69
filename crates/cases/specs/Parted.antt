-- How the input falls into cases, and what is answered to a case.
use Rattle.std.specs.Prelude.{◌≡◌, ℕ, ◌-◌, ◌<◌, List, [], ◌∷◌, ◌++◌, Some, get_or, slice_index}
use Rattle.text.specs.Lines.{lines_of, behind_line}
use Rattle.sheet.specs.Outcomes.{checked, outcome_line}

-- a case begins at byte i: with a `=` (61) behind a line feed (10)
abbrev pub CaseAt : List ℕ → ℕ → Type 0
CaseAt text i = (0 < i) × (slice_index text i ≡ 61) × (slice_index text (i - 1) ≡ 10)

-- the first line of a case, which says what it shows, and the line of the run on the sheet behind it
abbrev pub answer_to : List ℕ → List ℕ
answer_to case = (get_or (lines_of case) 0 [] ++ 10 ∷ []) ++ (outcome_line (checked (Some (behind_line case))) ++ 10 ∷ [])
