-- Where a spelling stands among the rows in use, and what its place tells of the book that they hold.
use Rattle.std.proofs.Common.{◌≡◌, ℕ, zero, suc, ◌+◌, ◌-◌, ◌<◌, ◌≤◌, true, List, [], ◌∷◌, map, length, get_or, take, drop, Ok, Err, Result, Ordering, Less, Equal, Greater, sym, refl, ap, ◌∙◌, subst, ⊎_elim, arith}
use Rattle.std.specs.Ordering.{is_lt, ordering_index, ordering_reverse}
use Rattle.std.specs.List.{AllByRecursion, HoldsAt}
use Rattle.std.specs.List.Sorted.{IsNonDecreasingBy, IsBinarySearchResult, IsSearchInRange}
use Rattle.std.proofs.ByRecursion.{All-get_or}
use Rattle.std.proofs.lemmas.List.{drop_more, drop_all, drop-take, drop-map, get_or-take, get_or-map, length-map, length-take-le}
use Rattle.std.proofs.lemmas.Bool.{cases_lt, cases_eq, false≢true}
use Rattle.patterns.specs.declared.pattern.Pattern.{Pattern}
use Rattle.patterns.specs.Order.{ordering, before}
use Rattle.patterns.specs.Spellings.{Spelled}
use Rattle.patterns.specs.Views.{symbols_of, spelled}
use Rattle.patterns.proofs.Ordered.{total_order}
use Rattle.books.specs.Maps.{Ascending}
use Rattle.books.specs.Books.{Book}
use Rattle.books.proofs.Mapping.{Stand, first, equal, later, stand, along}
use Rattle.table.specs.declared.table.Table.{Table}
use Rattle.table.specs.Places.{Around, Found}
use Rattle.table.specs.Views.{rows_of, held_by}

-- ---- in a book

pub drop_ascends : (i : ℕ) (b : Book) → Ascending b → Ascending (drop i b)
drop_ascends zero b a = a
drop_ascends (suc i) [] a = tt
drop_ascends (suc i) (e ∷ b) a = drop_ascends i b a.1

abbrev key_in : Book → ℕ → List ℕ
key_in b i = (get_or b i ([], [])).0

-- an entry comes before each that follows it
pair : (b : Book) → Ascending b → (i j : ℕ) → i < j → j < length b → before (key_in b i) (key_in b j) ≡ true
pair [] a i j h l = absurd (omega arith)
pair (e ∷ b) a i zero h l = absurd (omega arith)
pair (e ∷ b) a zero (suc j) h l = All-get_or (λ f. before e.0 f.0 ≡ true) b j ([], []) (omega arith) a.0
pair (e ∷ b) a (suc i) (suc j) h l = pair b a.1 i j (omega arith) (omega arith)

-- the first i entries, by each of them
front_all : (u : List ℕ) (b : Book) (i : ℕ) → i ≤ length b → ((k : ℕ) → k < i → before (key_in b k) u ≡ true) → AllByRecursion (λ e. before e.0 u ≡ true) (take i b)
front_all u b zero l f = tt
front_all u [] (suc i) l f = tt
front_all u (e ∷ b) (suc i) l f = (f 0 (omega arith), front_all u b i (omega arith) (λ k h. f (suc k) (omega arith)))

module _ (b : Book) (u : List ℕ) (i : ℕ) (a : Ascending b) where
  -- the entries behind entry i come after it
  behind : i < length b → AllByRecursion (λ e. before (key_in b i) e.0 ≡ true) (drop (i + 1) b)
  behind l = (subst Ascending (drop_more b i ([], []) l) (drop_ascends i b a)).0

  around_held : i < length b → key_in b i ≡ u → Around b u i (i + 1)
  around_held l k = record {
    front = front_all u b i (omega arith) (λ j h. subst (λ (v : List ℕ). before (key_in b j) v ≡ true) k (pair b a j i h l));
    back = subst (λ (v : List ℕ). AllByRecursion (λ e. before v e.0 ≡ true) (drop (i + 1) b)) k (behind l);
  }

  around_other : i ≤ length b → ((k : ℕ) → k < i → before (key_in b k) u ≡ true) → (i < length b → before u (key_in b i) ≡ true) → Around b u i i
  around_other l f h = record {
    front = front_all u b i l f;
    back = ⊎_elim
        (λ (l : i < length b). subst (AllByRecursion (λ e. before u e.0 ≡ true)) (sym (drop_more b i ([], []) l)) (h l, along u (key_in b i) (drop (i + 1) b) (h l) (behind l)))
        (λ (l : length b ≤ i). subst (AllByRecursion (λ e. before u e.0 ≡ true)) (sym (drop_all i b l)) tt)
        (cases_lt i (length b));
  }

-- ---- by a search of the rows that hold it

index_less : (o : Ordering) → is_lt o ≡ true → ordering_index o ≡ 0
index_less Less e = refl
index_less Equal e = absurd (false≢true e)
index_less Greater e = absurd (false≢true e)

index_most : (o : Ordering) → ordering_index o ≤ 2
index_most Less = omega arith
index_most Equal = omega arith
index_most Greater = omega arith

-- of two spellings the later stands no lower to a third
rises : (v w u : List ℕ) → before v w ≡ true → ordering_index (ordering v u) ≤ ordering_index (ordering w u)
rises v w u h = go (stand w u) where
  go : Stand w u → ordering_index (ordering v u) ≤ ordering_index (ordering w u)
  go (first l o) = let e = index_less (ordering v u) (total_order.along v w u h l) in omega arith
  go (equal l o) = let e = index_less (ordering v u) (subst (λ (z : List ℕ). before v z ≡ true) l h) in omega arith
  go (later l o) = let e = ap ordering_index o in let m = index_most (ordering v u) in omega arith

module _ (rows : List Pattern) (u : List ℕ) (a : Ascending (map spelled rows)) where
  abbrev stands : Pattern → Ordering
  stands p = ordering (symbols_of p.spelling) u

  key : (k : ℕ) (d : Pattern) → k < length rows → key_in (map spelled rows) k ≡ symbols_of (get_or rows k d).spelling
  key k d h = ap (λ (e : Spelled). e.0) (get_or-map spelled rows k d ([], []) h)

  stands_at : (k : ℕ) (d : Pattern) → k < length rows → ordering (key_in (map spelled rows) k) u ≡ stands (get_or rows k d)
  stands_at k d h = ap (λ (v : List ℕ). ordering v u) (key k d h)

  -- some row, where there are rows
  some : (k : ℕ) → k < length rows → Pattern
  some k h = go rows h where
    go : (ps : List Pattern) → k < length ps → Pattern
    go [] l = absurd (omega arith)
    go (p ∷ ps) l = p

  stands_as : (k : ℕ) (o : Ordering) → k < length rows → HoldsAt (λ p. stands p ≡ o) rows k → ordering (key_in (map spelled rows) k) u ≡ o
  stands_as k o h f = stands_at k (some k h) h ∙ f (some k h)

  rising : IsNonDecreasingBy (λ p. ordering_index (stands p)) rows
  rising i j d h l =
      let m = length-map rows spelled in
      ⊎_elim
      (λ (e : i ≡ j). let q = ap (λ (k : ℕ). ordering_index (stands (get_or rows k d))) e in omega arith)
      (λ (e : i ≡ j → ⊥).
      let r = rises (key_in (map spelled rows) i) (key_in (map spelled rows) j) u (pair (map spelled rows) a i j (omega arith) (omega arith)) in
      let x = ap ordering_index (stands_at i d (omega arith)) in
      let y = ap ordering_index (stands_at j d l) in
      omega arith)
      (cases_eq i j)

  pub found : (r : Result ℕ ℕ) → IsSearchInRange r (length rows) → IsBinarySearchResult stands rows r → Found (map spelled rows) u r
  found (Ok i) l s =
      let m = length-map rows spelled in
      let k = total_order.alike (key_in (map spelled rows) i) u (stands_as i Equal l s) in
      (omega arith, k, around_held (map spelled rows) u i a (omega arith) k)
  found (Err i) l s =
      let m = length-map rows spelled in
      let p = s rising in (
        omega arith,
        around_other (map spelled rows) u i a (omega arith)
            (λ k h. ap is_lt (stands_as k Less (omega arith) (λ d. p.0 k d (omega arith) h)))
            (λ h. let v = key_in (map spelled rows) i in ap is_lt (total_order.turned v u ∙ ap ordering_reverse (stands_as i Greater (omega arith) (λ d. p.1 i d (omega arith) (omega arith))))),
      )

-- ---- in a table

pub held_length : (t : Table) → length (held_by t) ≡ t.used
held_length t = length-map (take t.used (rows_of t)) spelled ∙ length-take-le t.used (rows_of t) t.within

pub entry_is : (t : Table) (i : ℕ) (d : Pattern) (e : Spelled) → i < t.used → get_or (held_by t) i e ≡ spelled (get_or (rows_of t) i d)
entry_is t i d e h =
    let k = length-take-le t.used (rows_of t) t.within in
    get_or-map spelled (take t.used (rows_of t)) i d e (omega arith) ∙ ap spelled (get_or-take t.used (rows_of t) i d h)

-- what the rows in use behind the first i hold
pub rest_held : (t : Table) (i : ℕ) → i ≤ t.used → map spelled (take (t.used - i) (drop i (rows_of t))) ≡ drop i (held_by t)
rest_held t i h =
    let e : i + (t.used - i) ≡ t.used = omega arith in
    ap (map spelled) (sym (drop-take i (t.used - i) (rows_of t)) ∙ ap (λ (k : ℕ). drop i (take k (rows_of t))) e) ∙ sym (drop-map spelled i (take t.used (rows_of t)))
