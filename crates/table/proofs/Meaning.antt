-- What a book answers, by the place of a spelling in it.
use Rattle.std.proofs.Common.{◌≡◌, ℕ, ◌+◌, Bool, true, false, ◌||◌, List, [], ◌∷◌, ◌++◌, get_or, take, drop, set, Ok, Err, sym, refl, ap, ◌∙◌, ap₂, add-one}
use Rattle.std.specs.Ordering.{is_lt}
use Rattle.std.specs.List.{insert, AllByRecursion}
use Rattle.std.proofs.lemmas.List.Elements.{filter-append}
use Rattle.std.proofs.lemmas.List.{take-append-drop, drop_more, set_split}
use Rattle.std.proofs.lemmas.Bool.{cond-true, cond-false, true≢false}
use Rattle.patterns.specs.Order.{ordering, before}
use Rattle.patterns.specs.Spellings.{Spelled, no_values, greater}
use Rattle.patterns.proofs.Ordered.{total_order}
use Rattle.books.specs.Maps.{same, holds, lookup, after, raised}
use Rattle.books.specs.Books.{Book, row_in}
use Rattle.books.proofs.Mapping.{Stand, first, equal, later, stand, same_refl, before_turned, before_ne, lookup_before, lookup_append, holds_before, holds_append, raised_append, raised_equal, raised_first}
use Rattle.table.specs.Places.{Found}

-- ---- what comes after a spelling

before_self : (u : List ℕ) → before u u ≡ false
before_self u = ap is_lt (total_order.same u)

none_after : (u : List ℕ) (b : Book) → AllByRecursion (λ e. before e.0 u ≡ true) b → after u b ≡ []
none_after u [] a = refl
none_after u (e ∷ b) a = cond-false (before u e.0) (e ∷ after u b) (after u b) (before_turned e.0 u a.0) ∙ none_after u b a.1

all_after : (u : List ℕ) (b : Book) → AllByRecursion (λ e. before u e.0 ≡ true) b → after u b ≡ b
all_after u [] a = refl
all_after u (e ∷ b) a = cond-true (before u e.0) (e ∷ after u b) (after u b) a.0 ∙ ap (λ (x : Book). e ∷ x) (all_after u b a.1)

-- ---- the spelling is held

abbrev entry_of : Book → ℕ → Spelled
entry_of b i = get_or b i ([], [])

module _ (b : Book) (u : List ℕ) (i : ℕ) (f : Found b u (Ok i)) where
  split : b ≡ take i b ++ entry_of b i ∷ drop (i + 1) b
  split = sym (take-append-drop i b) ∙ ap (λ (x : Book). take i b ++ x) (drop_more b i ([], []) f.0)

  is_same : same u (entry_of b i).0 ≡ true
  is_same = ap (same u) f.1 ∙ same_refl u

  pub row_held : row_in b u ≡ (entry_of b i).1
  row_held =
      ap (λ (x : Book). lookup no_values x u) split
      ∙ lookup_append no_values (take i b) (entry_of b i ∷ drop (i + 1) b) u f.2.front
      ∙ cond-true (same u (entry_of b i).0) (entry_of b i).1 (lookup no_values (drop (i + 1) b) u) is_same

  pub after_held : after u b ≡ drop (i + 1) b
  after_held =
      ap (after u) split
      ∙ filter-append (λ e. before u e.0) (take i b) (entry_of b i ∷ drop (i + 1) b)
      ∙ ap₂ (λ (x y : Book). x ++ y) (none_after u (take i b) f.2.front)
      (cond-false (before u (entry_of b i).0) (entry_of b i ∷ after u (drop (i + 1) b)) (after u (drop (i + 1) b)) (ap (before u) f.1 ∙ before_self u)
      ∙ all_after u (drop (i + 1) b) f.2.back)

  pub holds_held : holds b u ≡ true
  holds_held =
      ap (λ (x : Book). holds x u) split
      ∙ holds_append (take i b) (entry_of b i ∷ drop (i + 1) b) u f.2.front
      ∙ ap (λ (t : Bool). t || holds (drop (i + 1) b) u) is_same

  pub raised_held : (v : List ℕ) → raised greater u v b ≡ set b i (u, greater (entry_of b i).1 v)
  raised_held v =
      ap (raised greater u v) split
      ∙ raised_append greater u v (take i b) (entry_of b i ∷ drop (i + 1) b) f.2.front
      ∙ ap (λ (x : Book). take i b ++ x) (raised_equal greater u v (entry_of b i) (drop (i + 1) b) (ap (ordering u) f.1 ∙ total_order.same u))
      ∙ ap (λ (k : ℕ). take i b ++ (u, greater (entry_of b i).1 v) ∷ drop k b) (add-one i)
      ∙ sym (set_split b i (u, greater (entry_of b i).1 v) f.0)

-- ---- the spelling is not held

raised_before : (u : List ℕ) (v : List ℕ) (b : Book) → AllByRecursion (λ e. before u e.0 ≡ true) b → raised greater u v b ≡ (u, v) ∷ b
unfolding raised
raised_before u v [] a = refl
raised_before u v (e ∷ b) a = go (stand u e.0) where
  go : Stand u e.0 → raised greater u v (e ∷ b) ≡ (u, v) ∷ e ∷ b
  go (first l o) = raised_first greater u v e b o
  go (equal l o) = absurd (before_ne u e.0 a.0 l)
  go (later l o) = absurd (true≢false (sym a.0 ∙ before_turned e.0 u l))

module _ (b : Book) (u : List ℕ) (i : ℕ) (f : Found b u (Err i)) where
  pub row_other : row_in b u ≡ no_values
  row_other =
      ap (λ (x : Book). lookup no_values x u) (sym (take-append-drop i b))
      ∙ lookup_append no_values (take i b) (drop i b) u f.1.front
      ∙ lookup_before no_values (drop i b) u f.1.back

  pub after_other : after u b ≡ drop i b
  after_other =
      ap (after u) (sym (take-append-drop i b))
      ∙ filter-append (λ e. before u e.0) (take i b) (drop i b)
      ∙ ap₂ (λ (x y : Book). x ++ y) (none_after u (take i b) f.1.front) (all_after u (drop i b) f.1.back)

  pub holds_other : holds b u ≡ false
  holds_other =
      ap (λ (x : Book). holds x u) (sym (take-append-drop i b))
      ∙ holds_append (take i b) (drop i b) u f.1.front
      ∙ holds_before (drop i b) u f.1.back

  pub raised_other : (v : List ℕ) → raised greater u v b ≡ insert b i (u, v)
  raised_other v =
      ap (raised greater u v) (sym (take-append-drop i b))
      ∙ raised_append greater u v (take i b) (drop i b) f.1.front
      ∙ ap (λ (x : Book). take i b ++ x) (raised_before u v (drop i b) f.1.back)
