-- The test of a row says what it should: it passes just where the row makes a word.
use Rattle.std.proofs.Common.{◌≡◌, ℕ, zero, suc, ◌%◌, ◌^◌, ◌<◌, ◌≤◌, Bool, true, false, ◌&&◌, eqb, ltb, leb, List, [], ◌∷◌, length, get_or, take, drop, sym, refl, subst, ⊎_elim, arith}
use Rattle.std.specs.List.{list_all}
use Rattle.std.proofs.lemmas.List.{get_or_past}
use Rattle.std.proofs.lemmas.Bool.{and_parts, and_from, leb-true, le-leb, ltb-true, lt-ltb, le-ltb, eqb-true, eq-eqb, cases_lt, both_ways}
use Rattle.words.specs.declared.row.WordRow.{WordRow}
use Rattle.words.specs.Words.{alphabet, longest}
use Rattle.words.specs.Rows.{MakesWord, is_symbol, symbol_ok, symbols_ok, marks_ok, row_ok}

-- what the test of one symbol passes
abbrev Fits : Bool → ℕ → Type 0
Fits true s = (1 ≤ s) × (s ≤ alphabet)
Fits false s = s ≡ 0

fits_from : (used : Bool) (s : ℕ) → symbol_ok used s ≡ true → Fits used s
fits_from true s e = let p = and_parts (leb 1 s) (leb s alphabet) e in (leb-true 1 s p.0, leb-true s alphabet p.1)
fits_from false s e = eqb-true s 0 e

from_fits : (used : Bool) (s : ℕ) → Fits used s → symbol_ok used s ≡ true
from_fits true s h = and_from (leb 1 s) (leb s alphabet) (le-leb 1 s h.0) (le-leb s alphabet h.1)
from_fits false s h = eq-eqb s 0 h

-- ---- the symbols below i

each_from : (n : ℕ) (letters : List ℕ) (i : ℕ) → symbols_ok n letters i ≡ true → (k : ℕ) → k < i → Fits (ltb k n) (get_or letters k 0)
unfolding symbols_ok
each_from n letters zero e k h = absurd (omega arith)
each_from n letters (suc i) e k h =
    let p = and_parts (symbols_ok n letters i) (symbol_ok (ltb i n) (get_or letters i 0)) e in
    ⊎_elim (λ (l : k < i). each_from n letters i p.0 k l)
    (λ (l : i ≤ k). let q : i ≡ k = omega arith in subst (λ (x : ℕ). Fits (ltb x n) (get_or letters x 0)) q (fits_from (ltb i n) (get_or letters i 0) p.1))
    (cases_lt k i)

from_each : (n : ℕ) (letters : List ℕ) (i : ℕ) → ((k : ℕ) → k < i → Fits (ltb k n) (get_or letters k 0)) → symbols_ok n letters i ≡ true
unfolding symbols_ok
from_each n letters zero f = refl
from_each n letters (suc i) f =
    and_from (symbols_ok n letters i) (symbol_ok (ltb i n) (get_or letters i 0)) (from_each n letters i (λ k h. f k (omega arith)))
    (from_fits (ltb i n) (get_or letters i 0) (f i (omega arith)))

-- ---- a test of each symbol, by place

-- of the first n
front_each : (p : ℕ → Bool) (n : ℕ) (xs : List ℕ) → list_all p (take n xs) ≡ true → (k : ℕ) → k < n → k < length xs → p (get_or xs k 0) ≡ true
front_each p zero xs e k h l = absurd (omega arith)
front_each p (suc n) [] e k h l = absurd (omega arith)
front_each p (suc n) (x ∷ xs) e zero h l = (and_parts (p x) _ e).0
front_each p (suc n) (x ∷ xs) e (suc k) h l = front_each p n xs (and_parts (p x) _ e).1 k (omega arith) (omega arith)

each_front : (p : ℕ → Bool) (n : ℕ) (xs : List ℕ) → ((k : ℕ) → k < n → k < length xs → p (get_or xs k 0) ≡ true) → list_all p (take n xs) ≡ true
each_front p zero xs f = refl
each_front p (suc n) [] f = refl
each_front p (suc n) (x ∷ xs) f =
    and_from (p x) _ (f 0 (omega arith) (omega arith)) (each_front p n xs (λ k h l. f (suc k) (omega arith) (omega arith)))

-- of those behind the first n
back_each : (p : ℕ → Bool) (n : ℕ) (xs : List ℕ) → list_all p (drop n xs) ≡ true → (k : ℕ) → n ≤ k → k < length xs → p (get_or xs k 0) ≡ true
back_each p n [] e k h l = absurd (omega arith)
back_each p zero (x ∷ xs) e zero h l = (and_parts (p x) _ e).0
back_each p zero (x ∷ xs) e (suc k) h l = back_each p zero xs (and_parts (p x) _ e).1 k (omega arith) (omega arith)
back_each p (suc n) (x ∷ xs) e zero h l = absurd (omega arith)
back_each p (suc n) (x ∷ xs) e (suc k) h l = back_each p n xs e k (omega arith) (omega arith)

each_back : (p : ℕ → Bool) (n : ℕ) (xs : List ℕ) → ((k : ℕ) → n ≤ k → k < length xs → p (get_or xs k 0) ≡ true) → list_all p (drop n xs) ≡ true
each_back p zero [] f = refl
each_back p (suc n) [] f = refl
each_back p zero (x ∷ xs) f =
    and_from (p x) _ (f 0 (omega arith) (omega arith)) (each_back p zero xs (λ k h l. f (suc k) (omega arith) (omega arith)))
each_back p (suc n) (x ∷ xs) f = each_back p n xs (λ k h l. f (suc k) (omega arith) (omega arith))

-- tests that pass alike
same_tests : (a b : Bool) → (a ≡ true → b ≡ true) → (b ≡ true → a ≡ true) → a ≡ b
same_tests true b f g = sym (f refl)
same_tests false true f g = g refl
same_tests false false f g = refl

-- the symbols of an array of 48: n letters, and then only 0
pub symbols_split : (n : ℕ) (letters : List ℕ) → length letters ≡ longest → (list_all is_symbol (take n letters) && list_all (λ s. eqb s 0) (drop n letters)) ≡ symbols_ok n letters longest
symbols_split n letters full =
    same_tests _ _
    (λ e.
    let p = and_parts (list_all is_symbol (take n letters)) _ e in
    from_each n letters longest (λ k h. ⊎_elim
    (λ (l : k < n). subst (λ (b : Bool). Fits b (get_or letters k 0)) (sym (lt-ltb k n l)) (fits_from true (get_or letters k 0) (front_each is_symbol n letters p.0 k l (omega arith))))
    (λ (l : n ≤ k). subst (λ (b : Bool). Fits b (get_or letters k 0)) (sym (le-ltb k n l)) (fits_from false (get_or letters k 0) (back_each (λ s. eqb s 0) n letters p.1 k l (omega arith))))
    (cases_lt k n)))
    (λ e.
    let each = each_from n letters longest e in
    and_from (list_all is_symbol (take n letters)) _
    (each_front is_symbol n letters (λ k h l. from_fits true (get_or letters k 0) (subst (λ (b : Bool). Fits b (get_or letters k 0)) (lt-ltb k n h) (each k (omega arith)))))
    (each_back (λ s. eqb s 0) n letters (λ k h l. from_fits false (get_or letters k 0) (subst (λ (b : Bool). Fits b (get_or letters k 0)) (le-ltb k n h) (each k (omega arith))))))

-- ---- the row

-- the parts of the test
tested : (row : WordRow) → row_ok row ≡ true → (leb 1 row.len ≡ true) × (leb row.len longest ≡ true) × (symbols_ok row.len row.letters longest ≡ true) × (marks_ok row.len row.marks ≡ true)
tested row e =
    let a = and_parts _ _ e in
    let b = and_parts _ _ a.1 in
    let c = and_parts _ _ b.1 in
    (a.0, b.0, c.0, c.1)

pub makes_word : (row : WordRow) → row_ok row ≡ true → MakesWord row
makes_word row e =
    let n = row.len in
    let p = tested row e in
    let few = leb-true n longest p.1 in
    let each = each_from n row.letters longest p.2 in
    let marks = and_parts (ltb row.marks (2 ^ n)) (eqb (row.marks % 2) 0) p.3 in
    record {
      some = leb-true 1 n p.0;
      few = few;
      letters = λ k h. subst (λ (b : Bool). Fits b (get_or row.letters k 0)) (lt-ltb k n h) (each k (omega arith));
      unused = λ k h l. subst (λ (b : Bool). Fits b (get_or row.letters k 0)) (le-ltb k n h) (each k l);
      below = ltb-true row.marks (2 ^ n) marks.0;
      even = eqb-true (row.marks % 2) 0 marks.1;
    }

passes : (row : WordRow) → MakesWord row → row_ok row ≡ true
passes row m =
    let n = row.len in
    let each : (k : ℕ) → k < longest → Fits (ltb k n) (get_or row.letters k 0) =
    λ k h. ⊎_elim (λ (l : k < n). subst (λ (b : Bool). Fits b (get_or row.letters k 0)) (sym (lt-ltb k n l)) (m.letters k l))
    (λ (l : n ≤ k). subst (λ (b : Bool). Fits b (get_or row.letters k 0)) (sym (le-ltb k n l)) (m.unused k l h))
    (cases_lt k n) in
    and_from (leb 1 n) _ (le-leb 1 n m.some)
    (and_from (leb n longest) _ (le-leb n longest m.few)
    (and_from (symbols_ok n row.letters longest) _ (from_each n row.letters longest each)
    (and_from (ltb row.marks (2 ^ n)) _ (lt-ltb row.marks (2 ^ n) m.below) (eq-eqb (row.marks % 2) 0 m.even))))

pub makes_none : (row : WordRow) → row_ok row ≡ false → MakesWord row → ⊥
makes_none row e m = both_ways (row_ok row) e (passes row m)

-- all that is not used is 0, since nothing stands beyond
pub unused_all : (row : WordRow) → MakesWord row → length row.letters ≡ longest → (k : ℕ) → row.len ≤ k → get_or row.letters k 0 ≡ 0
unused_all row m full k h = ⊎_elim (λ (l : k < longest). m.unused k h l) (λ (l : longest ≤ k). get_or_past row.letters k 0 (omega arith)) (cases_lt k longest)
