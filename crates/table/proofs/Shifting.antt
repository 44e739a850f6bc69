-- Rows moved one further, and a row put in.
use Rattle.std.proofs.Common.{◌≡◌, ℕ, suc, ◌+◌, ◌-◌, ◌<◌, ◌≤◌, List, [], ◌∷◌, ◌++◌, map, length, get_or, take, drop, set, sym, ap, ◌∙◌, ap₂, arith}
use Rattle.std.specs.List.{between, copy_within}
use Rattle.std.proofs.lemmas.List.Edits.{length-between, take-paste, drop-paste}
use Rattle.std.proofs.lemmas.List.{append_assoc, length-append, length-take-le, length-drop, take-append-drop, take_more, take-map, set_at, get_or-take, map-set, set-get_or}
use Rattle.patterns.specs.declared.pattern.Pattern.{Pattern}
use Rattle.patterns.specs.Order.{before}
use Rattle.patterns.specs.Views.{symbols_of}
use Rattle.table.specs.Rows.{key_at, InOrder, opened}

-- ---- the spellings of rows of which one is set

abbrev key_of : Pattern → List ℕ
key_of p = symbols_of p.spelling

pub order_by_keys : (rows new : List Pattern) (n : ℕ) → ((k : ℕ) → k < n → key_at new k ≡ key_at rows k) → InOrder rows n → InOrder new n
order_by_keys rows new n e o k h = ap₂ before (e k (omega arith)) (e (suc k) h) ∙ o k h

-- by what stands before the rows that change
pub order_before : (rows new : List Pattern) (n m : ℕ) → n ≤ m → take n new ≡ take n rows → InOrder rows m → InOrder new n
order_before rows new n m l e o =
    order_by_keys rows new n
    (λ k h. sym (key_taken new n k h) ∙ ap (λ (x : List Pattern). key_at x k) e ∙ key_taken rows n k h)
    (λ k h. o k (omega arith))
  where
    key_taken : (ps : List Pattern) (n k : ℕ) → k < n → key_at (take n ps) k ≡ key_at ps k
    key_taken ps n k h = ap (λ (x : List (List ℕ)). get_or x k []) (sym (take-map key_of n ps)) ∙ get_or-take n (map key_of ps) k [] h

-- by one of the same spelling
pub order_same : (rows : List Pattern) (n m : ℕ) (p : Pattern) → key_of p ≡ key_at rows m → InOrder rows n → InOrder (set rows m p) n
order_same rows n m p e o =
    order_by_keys rows (set rows m p) n
    (λ k h. ap (λ (x : List (List ℕ)). get_or x k []) (map-set key_of rows m p ∙ ap (set (map key_of rows) m) e ∙ set-get_or (map key_of rows) m [])) o

-- ---- room made

pub opened_copy : (rows : List Pattern) (at n : ℕ) → at ≤ n → n < length rows → copy_within rows at n (at + 1) ≡ opened rows at n
opened_copy rows at n h l =
    let k = length-drop at rows in
    let e : at + 1 + (n - at) ≡ n + 1 = omega arith in
    sym (take-append-drop (at + 1 + (n - at)) (copy_within rows at n (at + 1)))
    ∙ ap₂ (λ (x y : List Pattern). x ++ y) (take-paste rows (at + 1) (drop at rows) (n - at) (omega arith) (omega arith)) (drop-paste rows (at + 1) (drop at rows) (n - at) (omega arith) (omega arith))
    ∙ append_assoc (take (at + 1) rows) (between at n rows) (drop (at + 1 + (n - at)) rows)
    ∙ ap (λ (j : ℕ). take (at + 1) rows ++ (between at n rows ++ drop j rows)) e

module _ (rows : List Pattern) (n : ℕ) (l : n < length rows) where
  pub opened_length : (k : ℕ) → k ≤ n → length (opened rows k n) ≡ length rows
  opened_length k h =
      let a = length-append (take (k + 1) rows) (between k n rows ++ drop (n + 1) rows) in
      let b = length-append (between k n rows) (drop (n + 1) rows) in
      let c = length-take-le (k + 1) rows (omega arith) in
      let d = length-between rows k n (omega arith) in
      let e = length-drop (n + 1) rows in
      omega arith

  -- row k and what comes behind it
  opened_split : (k : ℕ) (d : Pattern) → k ≤ n → opened rows k n ≡ take k rows ++ get_or rows k d ∷ (between k n rows ++ drop (n + 1) rows)
  opened_split k d h =
      ap (λ (x : List Pattern). x ++ (between k n rows ++ drop (n + 1) rows)) (take_more rows k d (omega arith))
      ∙ append_assoc (take k rows) (get_or rows k d ∷ []) (between k n rows ++ drop (n + 1) rows)

  pub opened_set : (k : ℕ) (p : Pattern) → k ≤ n → set (opened rows k n) k p ≡ take k rows ++ p ∷ (between k n rows ++ drop (n + 1) rows)
  opened_set k p h =
      ap (λ (x : List Pattern). set x k p) (opened_split k p h)
      ∙ set_at (take k rows) (get_or rows k p) (between k n rows ++ drop (n + 1) rows) p k (length-take-le k rows (omega arith))
