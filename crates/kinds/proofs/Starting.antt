-- The values of a word, raised start by start, are those of the maximum rule.
use Rattle.std.proofs.Common.{◌≡◌, ℕ, zero, suc, ◌+◌, ◌-◌, ◌<◌, ◌≤◌, max, true, cond, ◌&&◌, leb, ◌⊎◌, List, [], ◌∷◌, ◌++◌, length, get_or, take, drop, sym, refl, ap, ◌∙◌, inl, inr, ⊎_elim, arith}
use Rattle.std.proofs.lemmas.Bool.{cases_lt, and_parts, and_from, leb-true, le-leb, lt-leb, cond-true, cond-false, cond_both}
use Rattle.std.proofs.lemmas.Bool.Decides.{nat_tests}
use Rattle.std.proofs.ByRecursion.{all-has, all_has_itself}
use Rattle.std.specs.List.{ContainsAt as Has, AllByRecursion}
use borrow.Rule.Slice.PartMut.{put_mid}
use Rattle.words.specs.Counting.{numbers}
use Rattle.words.specs.Words.{Headword}
use Rattle.patterns.specs.Spellings.{Spelled, Valid, longest, greater}
use Rattle.patterns.proofs.Rowing.{get_or_greater}
use Rattle.books.specs.Books.{Book, Sound}
use Rattle.books.specs.Rule.{greatest, matches, gives_by, gives, value, given_at}
use Rattle.books.proofs.Maxima.{greatest_le, greatest_each, numbers_le, numbers_at, numbers_more}
use Rattle.books.proofs.Ruling.{test_match, gives_most, above_some}

-- ---- a row lifts the gaps from s on

lifts_first : (gaps row : List ℕ) → length row ≤ length gaps → greater (take (length row) gaps) row ++ drop (length row) gaps ≡ greater gaps row
lifts_first [] [] h = refl
lifts_first [] (y ∷ row) h = absurd (omega arith)
lifts_first (x ∷ gaps) [] h = refl
lifts_first (x ∷ gaps) (y ∷ row) h = ap (λ (zs : List ℕ). max x y ∷ zs) (lifts_first gaps row (omega arith))

-- what a row whose place 0 is gap s gives gap q
abbrev pub gives_gap : List ℕ → ℕ → ℕ → ℕ
gives_gap row s q = cond (leb s q) (get_or row (q - s) 0) 0

gives_next : (row : List ℕ) (s q : ℕ) → gives_gap row s q ≡ gives_gap row (suc s) (suc q)
gives_next row s q = let e : suc q - suc s ≡ q - s = omega arith in grind (arith, nat_tests)

pub lifts : (s : ℕ) (gaps row : List ℕ) (q : ℕ) → s + length row ≤ length gaps → get_or (put_mid s (length row) gaps (greater (take (length row) (drop s gaps)) row)) q 0 ≡ max (get_or gaps q 0) (gives_gap row s q)
lifts zero gaps row q h =
    let e : q - 0 ≡ q = omega arith in
    ap (λ (xs : List ℕ). get_or xs q 0) (lifts_first gaps row (omega arith))
    ∙ get_or_greater gaps row q
    ∙ ap (max (get_or gaps q 0)) (sym (cond-true (leb 0 q) (get_or row (q - 0) 0) 0 (le-leb 0 q (omega arith)) ∙ ap (λ (k : ℕ). get_or row k 0) e))
lifts (suc s) [] row q h = absurd (omega arith)
lifts (suc s) (x ∷ gaps) row zero h = let e = cond-false (leb (suc s) 0) (get_or row (0 - suc s) 0) 0 (lt-leb (suc s) 0 (omega arith)) in omega arith
lifts (suc s) (x ∷ gaps) row (suc q) h =
    lifts s gaps row q (omega arith) ∙ ap (max (get_or gaps q 0)) (gives_next row s q)

-- what start s gives gap q
abbrev pub start_gives : Book → Headword → ℕ → ℕ → ℕ
start_gives b w q s = cond (leb s q) (given_at b w s longest (q - s)) 0

-- a pattern that matches at start s gives a position no more by a place than by all its places
start_below : (p : Spelled) (w : Headword) (i s : ℕ) → Valid p → s ≤ i + 1 → cond (leb (length p.0) longest && matches p.0 w s) (get_or p.1 (i + 1 - s) 0) 0 ≤ gives p w i
start_below p w i s v l =
    cond_both (leb (length p.0) longest && matches p.0 w s) (get_or p.1 (i + 1 - s) 0) 0 (λ x. x ≤ gives p w i)
    (λ t. ⊎_elim
    (λ (m : i + 1 - s ≤ length p.0).
    gives_most p w i (get_or p.1 (i + 1 - s) 0) (record { start = s; place = i + 1 - s; matches = test_match p.0 w s (and_parts (leb (length p.0) longest) (matches p.0 w s) t).1; inside = m; there = omega arith; value = refl }))
    (λ (m : length p.0 < i + 1 - s). let e = v.within (i + 1 - s) m in omega arith)
    (cases_le (i + 1 - s) (length p.0)))
    (λ t. omega arith)
  where
    cases_le : (x y : ℕ) → (x ≤ y) ⊎ (y < x)
    cases_le x y = ⊎_elim (λ h. inr h) (λ h. inl h) (cases_lt y x)

module _ (b : Book) (w : Headword) (i : ℕ) where
  abbrev all : ℕ
  all = greatest (start_gives b w (i + 1)) (numbers 0 (length w.0 + 2))

  -- no pattern that matches at a start gives more than the value
  given_below : AllByRecursion Valid b → (s : ℕ) → s ≤ i + 1 → given_at b w s longest (i + 1 - s) ≤ value b w i
  unfolding given_at value
  given_below v s l = greatest_le (λ p. cond (leb (length p.0) longest && matches p.0 w s) (get_or p.1 (i + 1 - s) 0) 0) (value b w i) b (each b v (greatest_each (λ p. gives p w i) b))
    where
      each : (c : Book) → AllByRecursion Valid c → AllByRecursion (λ p. gives p w i ≤ value b w i) c → AllByRecursion (λ p. cond (leb (length p.0) longest && matches p.0 w s) (get_or p.1 (i + 1 - s) 0) 0 ≤ value b w i) c
      each [] x y = tt
      each (p ∷ c) x y = (let h = start_below p w i s x.0 l in let k = y.0 in omega arith, each c x.1 y.1)

  -- what a pattern gives by a place comes from one of the starts
  place_below : (p : Spelled) → Has b p → Valid p → (k : ℕ) → gives_by p w i k ≤ all
  unfolding given_at
  place_below p h v k =
      cond_both (leb k (i + 1) && matches p.0 w (i + 1 - k)) (get_or p.1 k 0) 0 (λ x. x ≤ all)
      (λ t.
      let s = i + 1 - k in
      let c = and_parts (leb k (i + 1)) (matches p.0 w (i + 1 - k)) t in
      let m = (test_match p.0 w (i + 1 - k) c.1).inside in
      let l = leb-true k (i + 1) c.0 in
      let o = above_some p.0 v.lettered in
      let e : i + 1 - s ≡ k = omega arith in
      let x = all-has (λ q. cond (leb (length q.0) longest && matches q.0 w s) (get_or q.1 k 0) 0 ≤ given_at b w s longest k) b p (greatest_each (λ q. cond (leb (length q.0) longest && matches q.0 w s) (get_or q.1 k 0) 0) b) h in
      let f : (leb (length p.0) longest && matches p.0 w s) ≡ true = and_from _ _ (le-leb (length p.0) longest v.few) c.1 in
      let y : cond (leb (length p.0) longest && matches p.0 w s) (get_or p.1 k 0) 0 ≡ get_or p.1 k 0 = cond-true (leb (length p.0) longest && matches p.0 w s) (get_or p.1 k 0) 0 f in
      let z : start_gives b w (i + 1) s ≡ given_at b w s longest k = cond-true (leb s (i + 1)) (given_at b w s longest (i + 1 - s)) 0 (le-leb s (i + 1) (omega arith)) ∙ ap (given_at b w s longest) e in
      let u = numbers_at (start_gives b w (i + 1)) 0 (length w.0 + 2) s (omega arith) (omega arith) in
      omega arith)
      (λ t. omega arith)

  pattern_below : (p : Spelled) → Has b p → Valid p → gives p w i ≤ all
  unfolding gives
  pattern_below p h v = numbers_le (gives_by p w i) all 0 (suc (length p.0)) (λ k _ _. place_below p h v k)

  pub starts_give : Sound b → all ≡ value b w i
  unfolding value
  starts_give h =
      let l : all ≤ value b w i =
      numbers_le (start_gives b w (i + 1)) (value b w i) 0 (length w.0 + 2) (λ s _ _.
      cond_both (leb s (i + 1)) (given_at b w s longest (i + 1 - s)) 0 (λ x. x ≤ value b w i) (λ t. given_below h.patterns s (leb-true s (i + 1) t)) (λ t. omega arith)) in
      let u : value b w i ≤ all = greatest_le (λ p. gives p w i) all b (each b (all_has_itself b) h.patterns) in
      omega arith
    where
      each : (c : Book) → AllByRecursion (Has b) c → AllByRecursion Valid c → AllByRecursion (λ p. gives p w i ≤ all) c
      each [] x y = tt
      each (p ∷ c) x y = (pattern_below p x.0 y.0, each c x.1 y.1)

-- ---- the loop over the starts

abbrev pub StartsTo : Book → Headword → ℕ → List ℕ → Type 0
StartsTo b w n gaps = (q : ℕ) → get_or gaps q 0 ≡ greatest (start_gives b w q) (numbers 0 n)

pub starts_more : (b : Book) (w : Headword) (s : ℕ) (old new row : List ℕ) → ((k : ℕ) → get_or row k 0 ≡ given_at b w s longest k) → ((q : ℕ) → get_or new q 0 ≡ max (get_or old q 0) (gives_gap row s q)) → StartsTo b w s old → StartsTo b w (s + 1) new
starts_more b w s old new row e f i q =
    let x = f q in
    let y = i q in
    let z : gives_gap row s q ≡ start_gives b w q s = ap (λ (v : ℕ). cond (leb s q) v 0) (e (q - s)) in
    let v = numbers_more (start_gives b w q) 0 s in
    let o : 0 + s ≡ s = omega arith in
    let n : s + 1 ≡ suc s = omega arith in
    let t : start_gives b w q (0 + s) ≡ start_gives b w q s = ap (start_gives b w q) o in
    let u : greatest (start_gives b w q) (numbers 0 (s + 1)) ≡ greatest (start_gives b w q) (numbers 0 (suc s)) = ap (λ (j : ℕ). greatest (start_gives b w q) (numbers 0 j)) n in
    omega arith

pub starts_all : (b : Book) (w : Headword) (s : ℕ) (gaps : List ℕ) → s ≡ length w.0 + 2 → Sound b → StartsTo b w s gaps → (i : ℕ) → get_or gaps (i + 1) 0 ≡ value b w i
starts_all b w s gaps e h i j = i (j + 1) ∙ ap (λ (n : ℕ). greatest (start_gives b w (j + 1)) (numbers 0 n)) e ∙ starts_give b w j h
