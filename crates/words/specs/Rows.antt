-- When a row of numbers makes a word.
use Rattle.std.specs.Prelude.{◌≡◌, ℕ, zero, suc, ◌%◌, ◌^◌, ◌<◌, ◌≤◌, Bool, true, false, ◌&&◌, List, take, Ok, Err, Result, is_ok, ◌==◌, nat_le, nat_lt, slice_index}
use Rattle.words.specs.declared.word.Word.{Word}
use Rattle.words.specs.declared.row.WordRow.{WordRow}
use Rattle.words.specs.declared.row.NoWord.{NoWord}
use Rattle.words.specs.Words.{Headword, alphabet, longest}
use Rattle.words.specs.Views.{headword}

-- a row makes a word
pub record MakesWord (row : WordRow) : Type 0 where
  -- it has 1 to 48 letters
  pub some : 1 ≤ row.len
  pub few : row.len ≤ longest
  -- they come first, and only 0 behind them
  pub letters : (k : ℕ) → k < row.len → (1 ≤ slice_index row.letters k) × (slice_index row.letters k ≤ alphabet)
  pub unused : (k : ℕ) → row.len ≤ k → k < longest → slice_index row.letters k ≡ 0
  -- no hyphen at position 0, and none at the end or beyond
  pub below : row.marks < 2 ^ row.len
  pub even : row.marks % 2 ≡ 0

-- the word that it makes
abbrev pub row_headword : WordRow → Headword
row_headword row = (take row.len row.letters, row.marks)

-- what a row is made into: its word just where it makes one
abbrev pub Made : WordRow → Result Word NoWord → Type 0
Made row (Ok w) = MakesWord row × (headword w ≡ row_headword row)
Made row (Err none) = MakesWord row → ⊥

-- ---- the same as a test

-- whether a number is the symbol of a letter
abbrev pub is_symbol : ℕ → Bool
is_symbol s = nat_le 1 s && nat_le s alphabet

-- a symbol where the word has a letter, and one beyond its letters
abbrev pub symbol_ok : Bool → ℕ → Bool
symbol_ok true s = is_symbol s
symbol_ok false s = s == 0

-- the first i symbols of a word of n letters
unfoldable pub symbols_ok : ℕ → List ℕ → ℕ → Bool
symbols_ok n letters zero = true
symbols_ok n letters (suc i) = symbols_ok n letters i && symbol_ok (nat_lt i n) (slice_index letters i)

abbrev pub marks_ok : ℕ → ℕ → Bool
marks_ok n marks = nat_lt marks (2 ^ n) && marks % 2 == 0

abbrev pub row_ok : WordRow → Bool
row_ok row = nat_le 1 row.len && (nat_le row.len longest && (symbols_ok row.len row.letters longest && marks_ok row.len row.marks))

-- what trying a row answers: a word just where the row passes the test
pub record Tried (row : WordRow) (result : Result Word NoWord) : Type 0 where
  pub tested : is_ok result ≡ row_ok row
  pub meaning : Made row result
