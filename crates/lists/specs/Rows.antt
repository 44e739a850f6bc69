-- The word list of rows: a row a word.
use Rattle.std.specs.Prelude.{◌≡◌, ℕ, suc, ◌+◌, ◌<◌, ◌≤◌, cond, ◌⊎◌, List, [], ◌∷◌, map, length, take, nat_le, slice_index_or}
use Rattle.std.proofs.Common.{inl, inr}
use Rattle.text.specs.Refusals.{at_line, at_byte}
use Rattle.words.specs.declared.row.WordRow.{WordRow}
use Rattle.words.specs.Words.{Headword}
use Rattle.words.specs.Rows.{MakesWord, row_headword, row_ok}
use Rattle.lists.specs.Listing.{fullest, Ending, clean, stops, Content, overfull}

-- what row n adds: its word in front of what follows, or the ending
abbrev pub row_by : WordRow → ℕ → Content → Content
row_by row n more = cond (row_ok row) (row_headword row ∷ more.0, more.1) ([], stops (at_line 10 n))

-- what rows come to, where c words came before them, one for each row: the first of them is row c + 1
unfoldable pub rows_from : ℕ → List WordRow → Content
rows_from c [] = ([], clean)
rows_from c (row ∷ rows) = cond (nat_le fullest c) (overfull (suc c)) (row_by row (suc c) (rows_from (suc c) rows))

abbrev pub row_content : List WordRow → Content
row_content rows = rows_from 0 rows

abbrev pub row_words : List WordRow → List Headword
row_words rows = (row_content rows).0

abbrev pub row_ending : List WordRow → Ending
row_ending rows = (row_content rows).1

-- ---- the same in other words

-- what stands past the last row
abbrev pub no_row : WordRow
no_row = record { len = 0; letters = []; marks = 0 }

-- rows of which k have been passed, where c words came before them, and how the list ends there: cleanly with the last
-- row, or at a row that is one word too many or makes no word
abbrev pub RowsEnd : ℕ → List WordRow → ℕ → Ending → Type 0
RowsEnd c rows k (inl u) = k ≡ length rows
RowsEnd c rows k (inr r) =
    (k < length rows)
    × (((c + k ≡ fullest) × (r ≡ at_byte 9 (c + k + 1) 1)) ⊎ ((c + k < fullest) × (MakesWord (slice_index_or rows k no_row) → ⊥) × (r ≡ at_line 10 (c + k + 1))))

-- the words are those of the rows before the ending, in their order, each of which makes one
pub record RowsListed (before : ℕ) (rows : List WordRow) (content : Content) : Type 0 where
  pub passed : ℕ
  pub all : passed ≤ length rows
  pub words : content.0 ≡ map row_headword (take passed rows)
  pub make : (i : ℕ) → i < passed → MakesWord (slice_index_or rows i no_row)
  pub ends : RowsEnd before rows passed content.1
