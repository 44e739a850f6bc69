-- The maximum rule: the greatest value is what the function says, and what the parts of a word look up.
use Rattle.std.proofs.Common.{◌≡◌, ℕ, zero, suc, ◌+◌, ◌-◌, ◌<◌, ◌≤◌, min, max, true, false, cond, ◌&&◌, leb, ◌⊎◌, List, [], ◌∷◌, length, get_or, drop, sym, ap, ◌∙◌, subst, inl, inr, ⊎_elim, arith}
use Rattle.std.proofs.lemmas.List.{length-take-le, length-drop}
use Rattle.std.proofs.lemmas.Bool.{cases_Bool, and_parts, and_from, leb-true, le-leb, cond-true, cond-false, cond_both, false≢true}
use Rattle.std.proofs.ByRecursion.{all-has, All-weaker}
use Rattle.std.specs.List.{ContainsAt as Has, AllByRecursion}
use Rattle.text.proofs.Padding.{zeros}
use Rattle.words.specs.Counting.{numbers}
use Rattle.words.specs.Words.{Headword}
use Rattle.patterns.specs.Spellings.{Spelled, Valid, longest, places, any_above_zero, no_values, greater}
use Rattle.patterns.specs.Parts.{padded, part, is_spelling}
use Rattle.patterns.proofs.Cutting.{padded_length}
use Rattle.patterns.proofs.Rowing.{get_or_greater}
use Rattle.books.specs.Maps.{same}
use Rattle.books.specs.Books.{Book, Sound, row_in}
use Rattle.books.specs.Rule.{Matches, Gives, Greatest, greatest, matches, gives_by, gives, value, MaximumRule, given_at}
use Rattle.books.proofs.Mapping.{same_refl, same_eq, looked}
use Rattle.books.proofs.Maxima.{greatest_le, greatest_each, greatest_has, numbers_le, numbers_at, numbers_more}

-- ---- a match, as a fact and as a test

pub match_test : (u : List ℕ) (w : Headword) (s : ℕ) → Matches u w s → matches u w s ≡ true
unfolding matches
match_test u w s m =
    and_from _ _ (le-leb (s + length u) (length w.0 + 2) m.inside) (subst (λ (z : List ℕ). same u z ≡ true) (sym m.stands) (same_refl u))

pub test_match : (u : List ℕ) (w : Headword) (s : ℕ) → matches u w s ≡ true → Matches u w s
unfolding matches
test_match u w s t =
    let p = and_parts (leb (s + length u) (length w.0 + 2)) (same u (part (padded w) s (length u))) t in
    record { inside = leb-true _ _ p.0; stands = sym (same_eq u (part (padded w) s (length u)) p.1) }

-- ---- what is given, and the greatest of it

pub gives_most : (p : Spelled) (w : Headword) (i x : ℕ) → Gives p w i x → x ≤ gives p w i
unfolding gives
gives_most p w i x g =
    let k = g.place in
    let e : i + 1 - k ≡ g.start = let t = g.there in omega arith in
    let m : (leb k (i + 1) && matches p.0 w (i + 1 - k)) ≡ true = and_from _ _ (le-leb k (i + 1) (let t = g.there in omega arith)) (subst (λ (z : ℕ). matches p.0 w z ≡ true) (sym e) (match_test p.0 w g.start g.matches)) in
    let v : gives_by p w i k ≡ x = cond-true (leb k (i + 1) && matches p.0 w (i + 1 - k)) (get_or p.1 k 0) 0 m ∙ g.value in
    let l = numbers_at (gives_by p w i) 0 (suc (length p.0)) k (omega arith) (let h = g.inside in omega arith) in
    omega arith

pub numbers_within : (a n : ℕ) → AllByRecursion (λ j. (a ≤ j) × (j < a + n)) (numbers a n)
numbers_within a zero = tt
numbers_within a (suc n) =
    ((omega arith, omega arith), All-weaker (λ j. (suc a ≤ j) × (j < suc a + n)) (λ j. (a ≤ j) × (j < a + suc n)) (λ j h. let l = h.0 in let u = h.1 in (omega arith, omega arith)) (numbers (suc a) n) (numbers_within (suc a) n))

-- a place that has the value, where it matches
gives_by_lem : (p : Spelled) (w : Headword) (i k v : ℕ) → k ≤ length p.0 → gives_by p w i k ≡ v → (v ≡ 0) ⊎ Gives p w i v
gives_by_lem p w i k v h e = go (cases_Bool (leb k (i + 1) && matches p.0 w (i + 1 - k))) where
  go : ((leb k (i + 1) && matches p.0 w (i + 1 - k)) ≡ true) ⊎ ((leb k (i + 1) && matches p.0 w (i + 1 - k)) ≡ false) → (v ≡ 0) ⊎ Gives p w i v
  go (inl t) =
      let q = and_parts (leb k (i + 1)) (matches p.0 w (i + 1 - k)) t in
      let l = leb-true k (i + 1) q.0 in
      inr (record {
        start = i + 1 - k;
        place = k;
        matches = test_match p.0 w (i + 1 - k) q.1;
        inside = h;
        there = omega arith;
        value = sym (cond-true (leb k (i + 1) && matches p.0 w (i + 1 - k)) (get_or p.1 k 0) 0 t) ∙ e;
      })
  go (inr t) = inl (sym e ∙ cond-false (leb k (i + 1) && matches p.0 w (i + 1 - k)) (get_or p.1 k 0) 0 t)

gives_has : (p : Spelled) (w : Headword) (i v : ℕ) → gives p w i ≡ v → (v ≡ 0) ⊎ Gives p w i v
unfolding gives
gives_has p w i v e =
    ⊎_elim
    (λ z. inl (sym e ∙ z))
    (λ (x : (k : ℕ) × Has (numbers 0 (suc (length p.0))) k × (gives_by p w i k ≡ greatest (gives_by p w i) (numbers 0 (suc (length p.0))))).
    gives_by_lem p w i x.0 v (let l = (all-has (λ j. (0 ≤ j) × (j < 0 + suc (length p.0))) (numbers 0 (suc (length p.0))) x.0 (numbers_within 0 (suc (length p.0))) x.1).1 in omega arith) (x.2 ∙ e))
    (greatest_has (gives_by p w i) (numbers 0 (suc (length p.0))))

value_is : (b : Book) (w : Headword) (i : ℕ) → Greatest b w i (value b w i)
unfolding value
value_is b w i = record {
  most = λ p x h g. let l = all-has (λ q. gives q w i ≤ value b w i) b p (greatest_each (λ q. gives q w i) b) h in let k = gives_most p w i x g in omega arith;
  given =
      ⊎_elim
      (λ z. inl z)
      (λ (x : (p : Spelled) × Has b p × (gives p w i ≡ value b w i)). ⊎_elim (λ z. inl z) (λ g. inr (x.0, x.1, g)) (gives_has x.0 w i (value b w i) x.2))
      (greatest_has (λ p. gives p w i) b);
}

-- of two greatest values neither exceeds the other
greatest_below : (b : Book) (w : Headword) (i v x : ℕ) → Greatest b w i v → Greatest b w i x → v ≤ x
greatest_below b w i v x g h =
    ⊎_elim (λ (z : v ≡ 0). omega arith) (λ (q : (p : Spelled) × Has b p × Gives p w i v). h.most q.0 v q.1 q.2) g.given

value_only : (b : Book) (w : Headword) (i v : ℕ) → Greatest b w i v → v ≡ value b w i
value_only b w i v g =
    let l = greatest_below b w i v (value b w i) g (value_is b w i) in
    let h = greatest_below b w i (value b w i) v (value_is b w i) g in
    omega arith

pub maximum_rule : MaximumRule
maximum_rule = record { is = value_is; only = value_only }

-- ---- what the parts of a word look up at a start

-- what the part of m symbols gives place k
abbrev pub part_gives : Book → Headword → ℕ → ℕ → ℕ → ℕ
part_gives b w s k m = cond (is_spelling w s m) (get_or (row_in b (part (padded w) s m)) k 0) 0

pub part_length : (w : Headword) (s m : ℕ) → s + m ≤ length w.0 + 2 → length (part (padded w) s m) ≡ m
part_length w s m h =
    let a = padded_length w in
    let d = length-drop s (padded w) in
    length-take-le m (drop s (padded w)) (omega arith)

-- a part stands where it was taken
pub part_matches : (w : Headword) (s m : ℕ) → s + m ≤ length w.0 + 2 → Matches (part (padded w) s m) w s
part_matches w s m h =
    let l = part_length w s m h in
    record { inside = omega arith; stands = ap (part (padded w) s) l }

-- a row that is looked up for a spelling that matches gives no more than all that match
row_below : (b : Book) (u : List ℕ) (w : Headword) (s n k : ℕ) → length u ≤ n → matches u w s ≡ true → get_or (row_in b u) k 0 ≤ given_at b w s n k
unfolding given_at
row_below [] u w s n k l m = let e = zeros places k in omega arith
row_below (p ∷ b) u w s n k l m = go (cases_Bool (same u p.0)) (row_below b u w s n k l m) where
  go : (same u p.0 ≡ true) ⊎ (same u p.0 ≡ false) → get_or (row_in b u) k 0 ≤ given_at b w s n k → get_or (row_in (p ∷ b) u) k 0 ≤ given_at (p ∷ b) w s n k
  go (inl t) h =
      let e : get_or (row_in (p ∷ b) u) k 0 ≡ get_or p.1 k 0 = ap (λ (r : List ℕ). get_or r k 0) (cond-true (same u p.0) p.1 (row_in b u) t) in
      let x : u ≡ p.0 = same_eq u p.0 t in
      let f : (leb (length p.0) n && matches p.0 w s) ≡ true =
      and_from _ _ (le-leb (length p.0) n (subst (λ (z : List ℕ). length z ≤ n) x l)) (subst (λ (z : List ℕ). matches z w s ≡ true) x m) in
      let q : cond (leb (length p.0) n && matches p.0 w s) (get_or p.1 k 0) 0 ≡ get_or p.1 k 0 = cond-true (leb (length p.0) n && matches p.0 w s) (get_or p.1 k 0) 0 f in
      omega arith
  go (inr t) h =
      let e : get_or (row_in (p ∷ b) u) k 0 ≡ get_or (row_in b u) k 0 = ap (λ (r : List ℕ). get_or r k 0) (cond-false (same u p.0) p.1 (row_in b u) t) in
      omega arith

-- a pattern has a symbol
pub above_some : (u : List ℕ) → any_above_zero u ≡ true → 1 ≤ length u
above_some [] e = absurd (false≢true e)
above_some (x ∷ u) e = omega arith

module _ (b : Book) (w : Headword) (s n k : ℕ) where
  abbrev all : ℕ
  all = greatest (part_gives b w s k) (numbers 1 (min n longest))

  part_below : (m : ℕ) → m ≤ n → part_gives b w s k m ≤ given_at b w s n k
  part_below m l =
      cond_both (is_spelling w s m) (get_or (row_in b (part (padded w) s m)) k 0) 0 (λ x. x ≤ given_at b w s n k)
      (λ t.
      let p = and_parts (leb 1 m) _ t in
      let q = and_parts (leb m longest) _ p.1 in
      let r = and_parts (leb (s + m) (length w.0 + 2)) _ q.1 in
      let e = part_length w s m (leb-true _ _ r.0) in
      row_below b (part (padded w) s m) w s n k (omega arith) (match_test (part (padded w) s m) w s (part_matches w s m (leb-true _ _ r.0))))
      (λ t. omega arith)

  -- a pattern that matches is what its part looks up
  entry_below : (p : Spelled) → row_in b p.0 ≡ p.1 → Valid p → cond (leb (length p.0) n && matches p.0 w s) (get_or p.1 k 0) 0 ≤ all
  entry_below p e v =
      cond_both (leb (length p.0) n && matches p.0 w s) (get_or p.1 k 0) 0 (λ x. x ≤ all)
      (λ t.
      let m = length p.0 in
      let d = and_parts (leb m n) (matches p.0 w s) t in
      let f = test_match p.0 w s d.1 in
      let o = leb-true m n d.0 in
      let l = above_some p.0 v.lettered in
      let c : is_spelling w s m ≡ true =
      and_from (leb 1 m) _ (le-leb 1 m l) (and_from (leb m longest) _ (le-leb m longest v.few) (and_from (leb (s + m) (length w.0 + 2)) _ (le-leb (s + m) (length w.0 + 2) f.inside) (ap any_above_zero f.stands ∙ v.lettered))) in
      let g : part_gives b w s k m ≡ get_or p.1 k 0 = cond-true (is_spelling w s m) (get_or (row_in b (part (padded w) s m)) k 0) 0 c ∙ ap (λ (u : List ℕ). get_or (row_in b u) k 0) f.stands ∙ ap (λ (r : List ℕ). get_or r k 0) e in
      let h = numbers_at (part_gives b w s k) 1 (min n longest) m l (let x = v.few in omega arith) in
      omega arith)
      (λ t. omega arith)

  pub parts_give : Sound b → all ≡ given_at b w s n k
  unfolding given_at
  parts_give h =
      let l : all ≤ given_at b w s n k = numbers_le (part_gives b w s k) (given_at b w s n k) 1 (min n longest) (λ m _ u. part_below m (omega arith)) in
      let u : given_at b w s n k ≤ all = greatest_le (λ p. cond (leb (length p.0) n && matches p.0 w s) (get_or p.1 k 0) 0) all b (both b (looked no_values b h.ascends) h.patterns) in
      omega arith
    where
      both : (c : Book) → AllByRecursion (λ p. row_in b p.0 ≡ p.1) c → AllByRecursion Valid c → AllByRecursion (λ p. cond (leb (length p.0) n && matches p.0 w s) (get_or p.1 k 0) 0 ≤ all) c
      both [] x y = tt
      both (p ∷ c) x y = (entry_below p x.0 y.0, both c x.1 y.1)

-- the loop over the lengths of the parts: one part more
abbrev pub PartsTo : Book → Headword → ℕ → ℕ → List ℕ → Type 0
PartsTo b w s n row = (k : ℕ) → get_or row k 0 ≡ greatest (part_gives b w s k) (numbers 1 n)

pub parts_more : (b : Book) (w : Headword) (s m : ℕ) (old new : List ℕ) → 1 ≤ m → ((k : ℕ) → get_or new k 0 ≡ max (get_or old k 0) (part_gives b w s k m)) → PartsTo b w s (m - 1) old → PartsTo b w s (m + 1 - 1) new
parts_more b w s m old new l e i k =
    let n : m + 1 - 1 ≡ suc (m - 1) = omega arith in
    let o : 1 + (m - 1) ≡ m = omega arith in
    let x = e k in
    let y = i k in
    let z : greatest (part_gives b w s k) (numbers 1 (m + 1 - 1)) ≡ greatest (part_gives b w s k) (numbers 1 (suc (m - 1))) = ap (λ (j : ℕ). greatest (part_gives b w s k) (numbers 1 j)) n in
    let v = numbers_more (part_gives b w s k) 1 (m - 1) in
    let t : part_gives b w s k (1 + (m - 1)) ≡ part_gives b w s k m = ap (part_gives b w s k) o in
    omega arith

pub part_joined : (b : Book) (w : Headword) (s m : ℕ) (old row u : List ℕ) → is_spelling w s m ≡ true → u ≡ part (padded w) s m → row ≡ row_in b u → (k : ℕ) → get_or (greater old row) k 0 ≡ max (get_or old k 0) (part_gives b w s k m)
part_joined b w s m old row u t e f k =
    get_or_greater old row k
    ∙ ap (max (get_or old k 0)) (ap (λ (r : List ℕ). get_or r k 0) (f ∙ ap (row_in b) e) ∙ sym (cond-true (is_spelling w s m) (get_or (row_in b (part (padded w) s m)) k 0) 0 t))

pub part_none : (b : Book) (w : Headword) (s m : ℕ) (old : List ℕ) → is_spelling w s m ≡ false → (k : ℕ) → get_or old k 0 ≡ max (get_or old k 0) (part_gives b w s k m)
part_none b w s m old t k = let e = cond-false (is_spelling w s m) (get_or (row_in b (part (padded w) s m)) k 0) 0 t in omega arith

pub parts_all : (b : Book) (w : Headword) (s n m : ℕ) (row : List ℕ) → m ≡ min n longest + 1 → Sound b → PartsTo b w s (m - 1) row → (k : ℕ) → get_or row k 0 ≡ given_at b w s n k
parts_all b w s n m row e h i k =
    let o : m - 1 ≡ min n longest = omega arith in
    i k ∙ ap (λ (j : ℕ). greatest (part_gives b w s k) (numbers 1 j)) o ∙ parts_give b w s n k h
