-- Rows in order hold a sound book.
use Rattle.std.specs.Prelude.{◌≡◌, ℕ, zero, suc, ◌<◌, true, List, [], ◌∷◌}
use Rattle.std.proofs.Common.{arith}
use Rattle.std.specs.List.{AllByRecursion}
use Rattle.patterns.specs.declared.pattern.Pattern.{Pattern}
use Rattle.patterns.specs.Order.{before}
use Rattle.patterns.specs.Spellings.{Valid}
use Rattle.patterns.specs.Views.{symbols_of}
use Rattle.patterns.proofs.Round.{valid_of}
use Rattle.books.specs.Maps.{Ascending}
use Rattle.books.specs.Books.{Sound}
use Rattle.books.proofs.Mapping.{along}
use Rattle.table.specs.Rows.{key_at, InOrder, in_use}

-- what comes before the first row comes before all
all_follow : (u : List ℕ) (rows : List Pattern) (n : ℕ) → (0 < n → before u (key_at rows 0) ≡ true) → Ascending (in_use rows n) → AllByRecursion (λ e. before u e.0 ≡ true) (in_use rows n)
all_follow u rows zero h a = tt
all_follow u [] (suc n) h a = tt
all_follow u (q ∷ rows) (suc n) h a = let b = h (omega arith) in (b, along u (symbols_of q.spelling) (in_use rows n) b a.0)

pub ascends_of : (rows : List Pattern) (n : ℕ) → InOrder rows n → Ascending (in_use rows n)
ascends_of rows zero o = tt
ascends_of [] (suc n) o = tt
ascends_of (p ∷ rows) (suc n) o =
    let a = ascends_of rows n (λ k h. o (suc k) (omega arith)) in
    (all_follow (symbols_of p.spelling) rows n (λ h. o 0 (omega arith)) a, a)

valid_all : (rows : List Pattern) (n : ℕ) → AllByRecursion Valid (in_use rows n)
valid_all rows zero = tt
valid_all [] (suc n) = tt
valid_all (p ∷ rows) (suc n) = (valid_of p p.spelling.full p.row.full, valid_all rows n)

pub sound_of : (rows : List Pattern) (n : ℕ) → InOrder rows n → Sound (in_use rows n)
sound_of rows n o = record { ascends = ascends_of rows n o; patterns = valid_all rows n }
