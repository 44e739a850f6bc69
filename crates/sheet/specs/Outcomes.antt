-- What the program answers, and the line that says it.
use Rattle.std.specs.Prelude.{ℕ, List, [], ◌∷◌, length, Option, codes}
use Rattle.std.proofs.Common.{inl, inr}
use Rattle.text.specs.Refusals.{Refused}
use Rattle.text.specs.Written.{line_of}
use Rattle.words.specs.Counting.{sum_of}
use Rattle.words.specs.Words.{Headword, hyphens_in_bounds}
use Rattle.lists.specs.Listing.{Ending}
use Rattle.lists.specs.Texts.{text_content}
use Rattle.sheet.specs.Sheets.{Sheeted, sheet, wrong, sheet_of}

-- the words of the list and their hyphens within bounds, or a refusal
pub data Outcome : Type 0 where
  counts : ℕ → ℕ → Outcome
  refuses : Refused → Outcome

abbrev pub counted_by : ℕ → ℕ → List Headword → Ending → Outcome
counted_by left right words (inl u) = counts (length words) (sum_of (hyphens_in_bounds left right) words)
counted_by left right words (inr r) = refuses r

-- of the word list of a text
abbrev pub words_outcome : ℕ → ℕ → List ℕ → Outcome
words_outcome left right words = counted_by left right (text_content words).0 (text_content words).1

abbrev pub checked_by : Sheeted → Outcome
checked_by (sheet left right words) = words_outcome left right words
checked_by (wrong r) = refuses r

-- a sheet is checked, and then the list that it holds
abbrev pub checked : Option (List ℕ) → Outcome
checked input = checked_by (sheet_of input)

-- words,hyphens
abbrev pub counts_line : ℕ → ℕ → List ℕ
counts_line words hyphens = line_of [] (words ∷ hyphens ∷ [])

-- refused,number,line,column,level,length,place
abbrev pub refusal_line : Refused → List ℕ
refusal_line r = line_of (codes "refused,") r

abbrev pub outcome_line : Outcome → List ℕ
outcome_line (counts words hyphens) = counts_line words hyphens
outcome_line (refuses r) = refusal_line r
