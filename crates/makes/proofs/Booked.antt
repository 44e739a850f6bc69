-- Rows by spelling, as a book.
use Rattle.std.proofs.Common.{◌≡◌, ℕ, zero, suc, ◌<◌, Bool, true, false, cond, ◌||◌, List, [], ◌∷◌, length, get_or, replicate, sym, refl, ap, ◌∙◌, subst, ⊎_elim, arith}
use Rattle.patterns.specs.declared.pattern.Row.{Row}
use Rattle.patterns.specs.Order.{before}
use Rattle.patterns.specs.Spellings.{places, no_values, greater}
use Rattle.patterns.proofs.Rowing.{get_or_greater}
use Rattle.books.specs.Maps.{Map, same, holds, lookup, least_of, after, Joined}
use Rattle.tree.specs.RowKind.{no_row, join_rows}
use Rattle.tree.proofs.Means.{same_or}
use Rattle.makes.specs.TreeBooks.{book_of, Bounded}

pub book_lookup : (m : Map Row) (u : List ℕ) → lookup no_values (book_of m) u ≡ (lookup no_row m u).values
book_lookup [] u = refl
book_lookup (e ∷ m) u = go (same u e.0) (book_lookup m u)
  where
    go : (b : Bool) → lookup no_values (book_of m) u ≡ (lookup no_row m u).values → cond b e.1.values (lookup no_values (book_of m) u) ≡ (cond b e.1 (lookup no_row m u)).values
    go true ih = refl
    go false ih = ih

pub book_holds : (m : Map Row) (u : List ℕ) → holds (book_of m) u ≡ holds m u
book_holds [] u = refl
book_holds (e ∷ m) u = ap (λ (b : Bool). same u e.0 || b) (book_holds m u)

pub book_least : (m : Map Row) → least_of (book_of m) ≡ least_of m
book_least [] = refl
book_least (e ∷ m) = refl

pub book_after : (u : List ℕ) (m : Map Row) → after u (book_of m) ≡ book_of (after u m)
book_after u [] = refl
book_after u (e ∷ m) = go (before u e.0) (book_after u m)
  where
    go : (b : Bool) → after u (book_of m) ≡ book_of (after u m) → cond b ((e.0, e.1.values) ∷ after u (book_of m)) (after u (book_of m)) ≡ book_of (cond b (e ∷ after u m) (after u m))
    go true ih = ap (λ (x : Map (List ℕ)). (e.0, e.1.values) ∷ x) ih
    go false ih = ih

-- rows joined are values joined
pub book_joined : (m n : Map Row) (u : List ℕ) (r : Row) → Joined no_row join_rows m u r n → Joined no_values greater (book_of m) u r.values (book_of n)
book_joined m n u r j = record {
  here = book_lookup n u ∙ ap (λ (x : Row). x.values) j.here ∙ ap (λ (x : List ℕ). greater x r.values) (sym (book_lookup m u));
  elsewhere = λ w ne. book_lookup n w ∙ ap (λ (x : Row). x.values) (j.elsewhere w ne) ∙ sym (book_lookup m w);
}

-- and stay within their spellings
pub joined_bounded : (m n : Map Row) (u : List ℕ) (r : Row) → ((k : ℕ) → length u < k → get_or r.values k 0 ≡ 0) → Joined no_row join_rows m u r n → Bounded m → Bounded n
joined_bounded m n u r z j b w k h = ⊎_elim
    (λ (e : w ≡ u).
    let a : get_or (lookup no_row n w).values k 0 ≡ get_or (greater (lookup no_row m w).values r.values) k 0 =
    ap (λ (x : List ℕ). get_or (lookup no_row n x).values k 0) e
    ∙ ap (λ (x : Row). get_or x.values k 0) j.here
    ∙ ap (λ (x : List ℕ). get_or (greater (lookup no_row m x).values r.values) k 0) (sym e) in
    let g = get_or_greater (lookup no_row m w).values r.values k in
    let y = z k (subst (λ (x : List ℕ). length x < k) e h) in
    let o = b w k h in
    omega arith)
    (λ (ne : w ≡ u → ⊥). ap (λ (x : Row). get_or x.values k 0) (j.elsewhere w ne) ∙ b w k h)
    (same_or w u)

-- no rows stay within theirs
zeros : (n k : ℕ) → ◌≡◌ {A = ℕ} (get_or (replicate n 0) k 0) 0
zeros zero k = refl
zeros (suc n) zero = refl
zeros (suc n) (suc k) = zeros n k

pub none_bounded : Bounded []
none_bounded u k h = zeros places k

pub emptied : (m : Map Row) → m ≡ [] → Bounded m
emptied m e = subst Bounded (sym e) none_bounded
