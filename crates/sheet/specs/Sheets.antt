-- The sheet: the bounds as `left,right`, an empty line, and word lines.
use Rattle.std.specs.Prelude.{ℕ, Bool, true, false, cond, not, ◌&&◌, List, [], ◌∷◌, length, drop, is_some, Some, None, Option, nat_le, nat_lt, slice_index, slice_index_or}
use Rattle.std.specs.Option.{unwrap_or}
use Rattle.text.specs.Refusals.{Refused, bare, at_line}
use Rattle.text.specs.Lines.{lines_of, behind_line}
use Rattle.text.specs.Figures.{pieces, figures_of}
use Rattle.words.specs.Words.{widest}

-- the most bytes of a sheet
abbrev pub largest : ℕ
largest = 49152

abbrev pub is_empty : List ℕ → Bool
is_empty [] = true
is_empty (b ∷ bs) = false

-- whether the first of some lines is there and is empty
abbrev pub first_empty : List (List ℕ) → Bool
first_empty [] = false
first_empty (l ∷ ls) = is_empty l

-- whether a line is n figures, and which
abbrev pub has_figures : ℕ → List ℕ → Bool
has_figures n line = is_some (figures_of n (pieces line))

abbrev pub figures_in : ℕ → List ℕ → List ℕ
figures_in n line = unwrap_or (figures_of n (pieces line)) []

abbrev pub in_range : ℕ → ℕ → Bool
in_range left right = (nat_le 1 left && nat_le left widest) && (nat_le 1 right && nat_le right widest)

-- what a sheet comes to: bounds in range and the text of its word lines, or a refusal
pub data Sheeted : Type 0 where
  sheet : ℕ → ℕ → List ℕ → Sheeted
  wrong : Refused → Sheeted

-- the bounds, once they are known to be figures
abbrev pub ranged_by : ℕ → ℕ → List ℕ → Sheeted
ranged_by left right words = cond (in_range left right) (sheet left right words) (wrong (at_line 1 1))

-- In this order: an input that is longer than a sheet can be; a first line that is not two figures, or is missing; a
-- second line that is not empty, or is missing; a bound out of range, which stands in line 1.
abbrev pub sheet_by : List (List ℕ) → List ℕ → Sheeted
sheet_by ls words =
    cond (not (has_figures 2 (slice_index_or ls 0 []))) (wrong (at_line 16 1))
    (cond (not (first_empty (drop 1 ls))) (wrong (at_line 16 2))
    (ranged_by (slice_index (figures_in 2 (slice_index_or ls 0 [])) 0) (slice_index (figures_in 2 (slice_index_or ls 0 [])) 1) words))

-- of the bytes that came, or of none, where more came than a sheet can have
unfoldable pub sheet_of : Option (List ℕ) → Sheeted
sheet_of None = wrong (bare 16)
sheet_of (Some input) =
    cond (nat_lt largest (length input)) (wrong (bare 16)) (sheet_by (lines_of input) (behind_line (behind_line input)))
