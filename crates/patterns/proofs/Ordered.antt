-- The order of spellings is a total order, and what it says.
use Rattle.std.proofs.Common.{◌≡◌, ℕ, zero, suc, ◌<◌, ◌≤◌, true, ◌&&◌, nat_eq, ltb, ◌⊎◌, List, [], ◌∷◌, ◌++◌, length, get_or, take, Some, Option, Ordering, Less, Equal, Greater, sym, refl, ap, ◌∙◌, subst, ap₂, inl, inr, ⊎_elim, arith}
use Rattle.std.proofs.lemmas.Bool.{cases_order, lt-ltb, le-ltb, cond-true, cond-false, false≢true}
use Rattle.std.specs.Ordering.{is_lt, is_eq, ordering_reverse, ordering_then, partial_ordering_then, nat_cmp}
use Rattle.std.specs.Cmp.{then_flip, nat_cmp_is, both_tied, unsigned_ties}
use Rattle.std.proofs.lemmas.List.{ext_get_or}
use Rattle.std.specs.Cmp.Lexicographic.{slice_cmp, slice_partial_cmp, pointwise, texts_ties}
use Rattle.std.proofs.lemmas.Cmp.{tied_itself}
use Rattle.std.proofs.lemmas.Map.Lookups.{exact_bytes}
use Rattle.patterns.specs.declared.pattern.Spelling.{Spelling}
use Rattle.patterns.specs.Views.{symbols_of}
use Rattle.patterns.specs.Orders.{lists_ordering, ordering_total}
use Rattle.patterns.specs.Order.{ordering, before, Begins, Smaller, TotalOrder}

-- ---- by the first symbols

pub less_first : (x y : ℕ) (xs ys : List ℕ) → x < y → ordering (x ∷ xs) (y ∷ ys) ≡ Less
unfolding ordering
less_first x y xs ys h = cond-true (ltb x y) _ _ (lt-ltb x y h)

pub more_first : (x y : ℕ) (xs ys : List ℕ) → y < x → ordering (x ∷ xs) (y ∷ ys) ≡ Greater
unfolding ordering
more_first x y xs ys h = cond-false (ltb x y) _ _ (le-ltb x y (omega arith)) ∙ cond-true (ltb y x) _ _ (lt-ltb y x h)

pub same_first : (x y : ℕ) (xs ys : List ℕ) → x ≡ y → ordering (x ∷ xs) (y ∷ ys) ≡ ordering xs ys
unfolding ordering
same_first x y xs ys e = cond-false (ltb x y) _ _ (le-ltb x y (omega arith)) ∙ cond-false (ltb y x) _ _ (le-ltb y x (omega arith))

abbrev First : ℕ → ℕ → List ℕ → List ℕ → Type 0
First x y xs ys = (x < y) ⊎ ((x ≡ y) × (before xs ys ≡ true))

before_first : (x y : ℕ) (xs ys : List ℕ) → before (x ∷ xs) (y ∷ ys) ≡ true → First x y xs ys
before_first x y xs ys h =
    ⊎_elim
    (λ (e : x ≡ y). inr (e, sym (ap is_lt (same_first x y xs ys e)) ∙ h))
    (⊎_elim (λ (l : x < y). inl l) (λ (l : y < x). absurd (false≢true (sym (ap is_lt (more_first x y xs ys l)) ∙ h))))
    (cases_order x y)

first_before : (x y : ℕ) (xs ys : List ℕ) → First x y xs ys → before (x ∷ xs) (y ∷ ys) ≡ true
first_before x y xs ys (inl l) = ap is_lt (less_first x y xs ys l)
first_before x y xs ys (inr p) = ap is_lt (same_first x y xs ys p.0) ∙ p.1

-- ---- the laws of a total order

same : (u : List ℕ) → ordering u u ≡ Equal
same = tied_itself ordering_total

alike : (u v : List ℕ) → ordering u v ≡ Equal → u ≡ v
alike u v e = exact_bytes u v (lists_ordering u v ∙ e)

turned : (u v : List ℕ) → ordering v u ≡ ordering_reverse (ordering u v)
turned u v = ordering_total.antisymm v u

is_less : (o : Ordering) → is_lt o ≡ true → o ≡ Less
is_less Less e = refl
is_less Equal e = absurd (false≢true e)
is_less Greater e = absurd (false≢true e)

along : (u v w : List ℕ) → before u v ≡ true → before v w ≡ true → before u w ≡ true
along u v w p q = ap is_lt (ordering_total.trans u v w (is_less (ordering u v) p) (is_less (ordering v w) q))

-- ---- what the order says

longer : (x y : ℕ) (xs ys : List ℕ) → x ≡ y → Begins xs ys ⊎ Smaller xs ys → Begins (x ∷ xs) (y ∷ ys) ⊎ Smaller (x ∷ xs) (y ∷ ys)
longer x y xs ys e (inl b) = inl (record { next = b.next; rest = b.rest; whole = ap₂ (λ (a : ℕ) (c : List ℕ). a ∷ c) (sym e) b.whole })
longer x y xs ys e (inr s) =
    inr (record {
      front = x ∷ s.front;
      less = s.less;
      more = s.more;
      behind_less = s.behind_less;
      behind_more = s.behind_more;
      first = ap (λ (c : List ℕ). x ∷ c) s.first;
      second = ap₂ (λ (a : ℕ) (c : List ℕ). a ∷ c) (sym e) s.second;
      smaller = s.smaller;
    })

says : (u v : List ℕ) → before u v ≡ true → Begins u v ⊎ Smaller u v
unfolding ordering
says [] [] h = absurd (false≢true h)
says [] (y ∷ ys) h = inl (record { next = y; rest = ys; whole = refl })
says (x ∷ xs) [] h = absurd (false≢true h)
says (x ∷ xs) (y ∷ ys) h =
    ⊎_elim
    (λ (l : x < y). inr (record { front = []; less = x; more = y; behind_less = xs; behind_more = ys; first = refl; second = refl; smaller = l }))
    (λ p. longer x y xs ys p.0 (says xs ys p.1))
    (before_first x y xs ys h)

goes_on : (u : List ℕ) (n : ℕ) (r : List ℕ) → before u (u ++ n ∷ r) ≡ true
unfolding ordering
goes_on [] n r = refl
goes_on (x ∷ xs) n r = first_before x x xs (xs ++ n ∷ r) (inr (refl, goes_on xs n r))

shorter : (u v : List ℕ) → Begins u v → before u v ≡ true
shorter u v b = subst (λ (w : List ℕ). before u w ≡ true) (sym b.whole) (goes_on u b.next b.rest)

differs : (p : List ℕ) (x y : ℕ) (r s : List ℕ) → x < y → before (p ++ x ∷ r) (p ++ y ∷ s) ≡ true
differs [] x y r s l = first_before x y r s (inl l)
differs (z ∷ p) x y r s l = first_before z z (p ++ x ∷ r) (p ++ y ∷ s) (inr (refl, differs p x y r s l))

lesser : (u v : List ℕ) → Smaller u v → before u v ≡ true
lesser u v s = ap₂ before s.first s.second ∙ differs s.front s.less s.more s.behind_less s.behind_more s.smaller

pub total_order : TotalOrder
total_order = record { says = says; shorter = shorter; lesser = lesser; same = same; alike = alike; turned = turned; along = along }

-- ---- arrays with only 0 behind their symbols, compared whole and then by how many the symbols are

zeros_before : (xs ys : List ℕ) → length xs ≡ length ys → ((k : ℕ) → get_or xs k 0 ≡ 0) → ordering_then (ordering xs ys) Less ≡ Less
unfolding ordering
zeros_before [] [] e z = refl
zeros_before [] (y ∷ ys) e z = refl
zeros_before (x ∷ xs) [] e z = absurd (omega arith)
zeros_before (x ∷ xs) (y ∷ ys) e z =
    ⊎_elim
    (λ (h : x ≡ y). ap (λ (o : Ordering). ordering_then o Less) (same_first x y xs ys h) ∙ zeros_before xs ys (omega arith) (λ k. z (suc k)))
    (⊎_elim
    (λ (l : x < y). ap (λ (o : Ordering). ordering_then o Less) (less_first x y xs ys l))
    (λ (l : y < x). absurd (omega (arith, z 0))))
    (cases_order x y)

zeros_behind : (xs ys : List ℕ) → length xs ≡ length ys → ((k : ℕ) → get_or ys k 0 ≡ 0) → ordering_then (ordering xs ys) Greater ≡ Greater
zeros_behind xs ys e z =
    ap (λ (o : Ordering). ordering_then o Greater) (turned ys xs) ∙ then_flip (ordering ys xs) Less ∙ ap ordering_reverse (zeros_before ys xs (sym e) z)

zeros_alike : (xs ys : List ℕ) → length xs ≡ length ys → ((k : ℕ) → get_or xs k 0 ≡ 0) → ((k : ℕ) → get_or ys k 0 ≡ 0) → ordering xs ys ≡ Equal
zeros_alike xs ys e z w = ap (ordering xs) (ext_get_or 0 ys xs (sym e) (λ k _. w k ∙ sym (z k))) ∙ same xs

by_first : (r : Ordering) (x y : ℕ) (xs ys us vs : List ℕ) → ordering_then (ordering xs ys) r ≡ ordering us vs → ordering_then (ordering (x ∷ xs) (y ∷ ys)) r ≡ ordering (x ∷ us) (y ∷ vs)
by_first r x y xs ys us vs e =
    ⊎_elim
    (λ (h : x ≡ y). ap (λ (o : Ordering). ordering_then o r) (same_first x y xs ys h) ∙ e ∙ sym (same_first x y us vs h))
    (⊎_elim
    (λ (l : x < y). ap (λ (o : Ordering). ordering_then o r) (less_first x y xs ys l) ∙ sym (less_first x y us vs l))
    (λ (l : y < x). ap (λ (o : Ordering). ordering_then o r) (more_first x y xs ys l) ∙ sym (more_first x y us vs l)))
    (cases_order x y)

lengths_more : (m n : ℕ) → nat_cmp (suc m) (suc n) ≡ nat_cmp m n
lengths_more m n =
    ⊎_elim
    (λ (e : m ≡ n). sym (nat_cmp_is (suc m) (suc n) Equal (omega arith)) ∙ nat_cmp_is m n Equal e)
    (⊎_elim
    (λ (l : m < n). sym (nat_cmp_is (suc m) (suc n) Less (omega arith)) ∙ nat_cmp_is m n Less l)
    (λ (l : n < m). sym (nat_cmp_is (suc m) (suc n) Greater (omega arith)) ∙ nat_cmp_is m n Greater l))
    (cases_order m n)

padded_ordering : (xs ys : List ℕ) (m n : ℕ) → length xs ≡ length ys → m ≤ length xs → n ≤ length ys → ((k : ℕ) → m ≤ k → get_or xs k 0 ≡ 0) → ((k : ℕ) → n ≤ k → get_or ys k 0 ≡ 0)
    → ordering_then (ordering xs ys) (nat_cmp m n) ≡ ordering (take m xs) (take n ys)
unfolding ordering
padded_ordering xs ys zero zero e a b z w = ap (λ (o : Ordering). ordering_then o Equal) (zeros_alike xs ys e (λ k. z k (omega arith)) (λ k. w k (omega arith)))
padded_ordering xs [] zero (suc n) e a b z w = absurd (omega arith)
padded_ordering xs (y ∷ ys) zero (suc n) e a b z w =
    ap (ordering_then (ordering xs (y ∷ ys))) (sym (nat_cmp_is 0 (suc n) Less (omega arith))) ∙ zeros_before xs (y ∷ ys) e (λ k. z k (omega arith))
padded_ordering [] ys (suc m) zero e a b z w = absurd (omega arith)
padded_ordering (x ∷ xs) ys (suc m) zero e a b z w =
    ap (ordering_then (ordering (x ∷ xs) ys)) (sym (nat_cmp_is (suc m) 0 Greater (omega arith))) ∙ zeros_behind (x ∷ xs) ys e (λ k. w k (omega arith))
padded_ordering [] ys (suc m) (suc n) e a b z w = absurd (omega arith)
padded_ordering (x ∷ xs) [] (suc m) (suc n) e a b z w = absurd (omega arith)
padded_ordering (x ∷ xs) (y ∷ ys) (suc m) (suc n) e a b z w =
    ap (ordering_then (ordering (x ∷ xs) (y ∷ ys))) (lengths_more m n)
    ∙ by_first (nat_cmp m n) x y xs ys (take m xs) (take n ys)
    (padded_ordering xs ys m n (omega arith) (omega arith) (omega arith) (λ k h. z (suc k) (omega arith)) (λ k h. w (suc k) (omega arith)))

-- what the derived order of spellings answers, and their derived equality
pub spelling_ordering : (u v : Spelling) → ordering_then (slice_cmp nat_cmp u.symbols v.symbols) (nat_cmp u.len v.len) ≡ ordering (symbols_of u) (symbols_of v)
spelling_ordering u v =
    ap (λ (o : Ordering). ordering_then o (nat_cmp u.len v.len)) (lists_ordering u.symbols v.symbols)
    ∙ padded_ordering u.symbols v.symbols u.len v.len (u.full ∙ sym v.full) (omega (arith, u.full, u.sized.1)) (omega (arith, v.full, v.sized.1)) u.unused v.unused

-- an order that always answers, taken for one that may not
then_some : (o r : Ordering) → partial_ordering_then (Some o) (Some r) ≡ Some (ordering_then o r)
then_some Less r = refl
then_some Equal r = refl
then_some Greater r = refl

partial_slices : (xs ys : List ℕ) → slice_partial_cmp (λ x y. Some (nat_cmp x y)) xs ys ≡ Some (slice_cmp nat_cmp xs ys)
partial_slices [] [] = refl
partial_slices [] (y ∷ ys) = refl
partial_slices (x ∷ xs) [] = refl
partial_slices (x ∷ xs) (y ∷ ys) =
    ap (partial_ordering_then (Some (nat_cmp x y))) (partial_slices xs ys) ∙ then_some (nat_cmp x y) (slice_cmp nat_cmp xs ys)

pub spelling_partial_ordering : (u v : Spelling) → partial_ordering_then (slice_partial_cmp (λ x y. Some (nat_cmp x y)) u.symbols v.symbols) (Some (nat_cmp u.len v.len)) ≡ Some (ordering (symbols_of u) (symbols_of v))
spelling_partial_ordering u v =
    ap (λ (o : Option Ordering). partial_ordering_then o (Some (nat_cmp u.len v.len))) (partial_slices u.symbols v.symbols)
    ∙ then_some (slice_cmp nat_cmp u.symbols v.symbols) (nat_cmp u.len v.len)
    ∙ ap (λ (o : Ordering). Some o) (spelling_ordering u v)

pub spelling_equality : (u v : Spelling) → (pointwise nat_eq u.symbols v.symbols && nat_eq u.len v.len) ≡ is_eq (ordering (symbols_of u) (symbols_of v))
spelling_equality u v =
    both_tied _ _ (slice_cmp nat_cmp u.symbols v.symbols) (nat_cmp u.len v.len) (texts_ties u.symbols v.symbols) (unsigned_ties u.len v.len) ∙ ap is_eq (spelling_ordering u v)
