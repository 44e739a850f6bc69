-- Rows in order, by neighbours, by pairs and as a map that ascends.
use Rattle.std.proofs.Common.{◌≡◌, ℕ, zero, suc, ◌<◌, ◌≤◌, true, List, [], ◌∷◌, length, get_or, arith}
use Rattle.std.specs.List.{AllByRecursion}
use Rattle.std.proofs.lemmas.List.{get_or-map}
use Rattle.patterns.specs.declared.pattern.Pattern.{Pattern}
use Rattle.patterns.specs.Order.{before}
use Rattle.patterns.specs.Views.{symbols_of}
use Rattle.books.specs.Maps.{Ascending}
use Rattle.table.specs.Rows.{key_at, InOrder, in_use}

pub key_is : (rows : List Pattern) (k : ℕ) (d : Pattern) → k < length rows → key_at rows k ≡ symbols_of (get_or rows k d).spelling
key_is rows k d h = get_or-map (λ (p : Pattern). symbols_of p.spelling) rows k d [] h

-- ---- rows that hold a book that ascends are in order

leads : (u : List ℕ) (rows : List Pattern) (n : ℕ) → 0 < n → n ≤ length rows → AllByRecursion (λ e. before u e.0 ≡ true) (in_use rows n) → before u (key_at rows 0) ≡ true
leads u rows zero h l a = absurd (omega arith)
leads u [] (suc n) h l a = absurd (omega arith)
leads u (q ∷ rows) (suc n) h l a = a.0

pub order_of : (rows : List Pattern) (n : ℕ) → n ≤ length rows → Ascending (in_use rows n) → InOrder rows n
order_of rows zero l a k h = absurd (omega arith)
order_of [] (suc n) l a k h = absurd (omega arith)
order_of (p ∷ rows) (suc n) l a zero h = leads (symbols_of p.spelling) rows n (omega arith) (omega arith) a.0
order_of (p ∷ rows) (suc n) l a (suc k) h = order_of rows n (omega arith) a.1 k (omega arith)
