-- The ranges of the settings of a level.
use Rattle.std.specs.Prelude.{ℕ, ◌≤◌}
use Rattle.patterns.specs.Spellings.{longest}

-- the greatest weight
abbrev pub heaviest : ℕ
heaviest = 1000

-- the greatest threshold
abbrev pub highest : ℕ
highest = 1000000

-- the settings that are taken; a candidate has as many symbols as a spelling may have
pub record InRange (lo hi good bad threshold : ℕ) : Type 0 where
  pub lengths : (1 ≤ lo) × (lo ≤ hi) × (hi ≤ longest)
  pub weights : (1 ≤ good) × (good ≤ heaviest) × (bad ≤ heaviest)
  pub limit : (1 ≤ threshold) × (threshold ≤ highest)
