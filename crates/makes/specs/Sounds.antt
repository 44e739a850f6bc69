-- What a tree book holds is a book.
use Rattle.std.specs.Prelude.{◌≡◌, ℕ, ◌<◌, true, ◌≢◌, List, [], ◌∷◌, length, slice_index}
use Rattle.std.proofs.Common.{sym, ap, ◌∙◌}
use Rattle.std.specs.List.{AllByRecursion}
use Rattle.std.proofs.ByRecursion.{All-map, All-weaker}
use Rattle.std.proofs.lemmas.Bool.{not-false}
use Rattle.patterns.specs.declared.pattern.Row.{Row}
use Rattle.patterns.specs.Order.{before}
use Rattle.patterns.specs.Spellings.{any_above_zero, Valid}
use Rattle.books.specs.Maps.{Map, Ascending, lookup}
use Rattle.books.specs.Books.{Sound}
use Rattle.books.proofs.Mapping.{looked}
use Rattle.tree.specs.Rules.{Ruled}
use Rattle.tree.specs.Meanings as tree
use Rattle.tree.specs.RowKind.{row_kind, no_row}
use Rattle.tree.specs.Stands.{Stands}
use Rattle.tree.specs.declared.tree.Tree.{Tree}
use Rattle.tree.proofs.Props.{standing}
use Rattle.tree.proofs.Putting.{bare_not}
use Rattle.tree.proofs.Works.{means_sound}
use Rattle.makes.specs.TreeBooks.{book_of, rows, booked, Bounded}

ascends : (m : Map Row) → Ascending m → Ascending (book_of m)
ascends [] a = tt
ascends (e ∷ m) a = (All-map (λ f. before e.0 f.0 ≡ true) (λ f. (f.0, f.1.values)) m a.0, ascends m a.1)

valid : (u : List ℕ) (r : Row) → Ruled u → r ≢ no_row → ((k : ℕ) → length u < k → slice_index r.values k ≡ 0) → Valid (u, r.values)
valid u r l n b = record {
  few = l.few;
  symbolic = l.symbolic;
  edged = l.edged;
  lettered = l.lettered;
  wide = r.full;
  digits = r.digits;
  within = b;
  valued = not-false (any_above_zero r.values) (bare_not row_kind r n);
}

both : {X : Type 0} (P Q : X → Type 0) (xs : List X) → AllByRecursion P xs → AllByRecursion Q xs → AllByRecursion (λ x. P x × Q x) xs
both P Q [] a b = tt
both P Q (x ∷ xs) a b = ((a.0, b.0), both P Q xs a.1 b.1)

book_sound : (m : Map Row) → tree.Sound row_kind m → AllByRecursion (λ e. Ruled e.0) m → Bounded m → Sound (book_of m)
book_sound m s r b = record {
  ascends = ascends m s.ascends;
  patterns = All-map Valid (λ f. (f.0, f.1.values)) m
      (All-weaker (λ e. (Ruled e.0 × (e.1 ≢ no_row)) × (lookup no_row m e.0 ≡ e.1)) (λ e. Valid (e.0, e.1.values))
      (λ e h. valid e.0 e.1 h.0.0 h.0.1 (λ k l. ap (λ (x : Row). slice_index x.values k) (sym h.1) ∙ b e.0 k l))
      m
      (both (λ e. Ruled e.0 × (e.1 ≢ no_row)) (λ e. lookup no_row m e.0 ≡ e.1) m (both (λ e. Ruled e.0) (λ e. e.1 ≢ no_row) m r s.some) (looked no_row m s.ascends)));
}

-- rows in a tree that stands, and none has a value beyond its spelling's last place
pub tree_sound : (t : Tree Row) (count : ℕ) → ∥ Stands row_kind t.cells.now t.used count ∥₁ → Bounded (rows t) → Sound (booked t)
tree_sound t count s b =
    let u = standing row_kind t count s in
    book_sound (rows t) (means_sound row_kind t.cells.now t.used u.tree) u.ruled b
