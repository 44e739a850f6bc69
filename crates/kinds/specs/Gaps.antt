-- The gaps of a padded word.
use Rattle.std.specs.Prelude.{ℕ}

-- Gap q of a padded word lies behind its first q symbols, so that position i is gap i + 1. A row that begins at the last symbol
-- of the longest word, which is symbol 49, reaches gap 64.
abbrev pub gap_count : ℕ
gap_count = 65
