-- The rules of a spelling.
use Rattle.std.specs.Prelude.{◌≡◌, ℕ, suc, ◌<◌, ◌≤◌, true, List, length, slice_index}
use Rattle.words.specs.Words.{alphabet}
use Rattle.patterns.specs.Spellings.{longest, any_above_zero}

-- at most 15 symbols, an edge only first or last, and some letter
pub record Ruled (u : List ℕ) : Type 0 where
  pub few : length u ≤ longest
  pub symbolic : (k : ℕ) → slice_index u k ≤ alphabet
  pub edged : (k : ℕ) → 0 < k → suc k < length u → 0 < slice_index u k
  pub lettered : any_above_zero u ≡ true
