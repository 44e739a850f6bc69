-- What a raise leaves in the rows, and what these hold then.
use Rattle.std.proofs.Common.{◌≡◌, ℕ, ◌+◌, ◌<◌, ◌≤◌, Bool, true, false, ◌||◌, ltb, List, [], ◌∷◌, ◌++◌, map, length, get_or, take, drop, set, Ok, Err, sym, ap, ◌∙◌, subst, ap₂, arith}
use Rattle.std.specs.List.{between}
use Rattle.std.proofs.Math.Seq.{take-set-lt}
use Rattle.std.proofs.lemmas.List.Edits.{length-between}
use Rattle.std.proofs.lemmas.List.{append_assoc, length-append, length-take-le, length-set, take_at, drop_at, take-take, take-map, map-append, map-set}
use Rattle.std.proofs.lemmas.Bool.{or_left, or_right, or_from, lt-ltb, le-ltb}
use Rattle.patterns.specs.declared.pattern.Pattern.{Pattern}
use Rattle.patterns.specs.Spellings.{Spelled, places, greater, no_values}
use Rattle.patterns.specs.Views.{symbols_of, spelled}
use Rattle.patterns.proofs.RowLaws.{greater_zeros}
use Rattle.books.specs.Maps.{Ascending, holds, raised}
use Rattle.books.specs.Books.{Book, Raised}
use Rattle.books.proofs.Mapping.{raised_ascends, raised_joined}
use Rattle.table.specs.declared.table.Table.{Table}
use Rattle.table.specs.Rows.{InOrder, in_use, opened}
use Rattle.table.specs.Places.{Found}
use Rattle.table.specs.Soundness.{ascends_of}
use Rattle.table.specs.Views.{rows_of, held_by, limit_of}
use Rattle.table.proofs.Ascents.{key_is, order_of}
use Rattle.table.proofs.Finding.{held_length, entry_is, rest_held}
use Rattle.table.proofs.Meaning.{holds_held, holds_other, raised_held, raised_other}
use Rattle.table.proofs.Shifting.{order_same, opened_set, opened_length}

-- the book with the pattern raised
abbrev risen : Book → Pattern → Book
risen b p = raised greater (symbols_of p.spelling) p.row.values b

raised_is : (b new : Book) (p : Pattern) → Ascending b → new ≡ risen b p → Raised b (spelled p) new
raised_is b new p a e =
    subst (Raised b (spelled p)) (sym e)
    (raised_joined greater no_values (symbols_of p.spelling) p.row.values b a (greater_zeros places p.row.values p.row.full))

-- ---- the spelling is held

-- whether a raise is taken
abbrev taken : Table → Pattern → Bool
taken t p = holds (held_by t) (symbols_of p.spelling) || ltb (length (held_by t)) (limit_of t)

module _ (t : Table) (p : Pattern) (i : ℕ) (d : Pattern) (h : i < t.used) (f : Found (held_by t) (symbols_of p.spelling) (Ok i)) where
  pub same_spelling : symbols_of (get_or (rows_of t) i d).spelling ≡ symbols_of p.spelling
  same_spelling = sym (ap (λ (e : Spelled). e.0) (entry_is t i d ([], []) h)) ∙ f.1

  module _ (q : Pattern) (e : spelled q ≡ (symbols_of (get_or (rows_of t) i d).spelling, greater (get_or (rows_of t) i d).row.values p.row.values)) where
    pub held_order : InOrder (set (rows_of t) i q) t.used
    held_order = order_same (rows_of t) t.used i q (ap (λ (x : Spelled). x.0) e ∙ sym (key_is (rows_of t) i d (omega arith))) t.ordered

    held_risen : in_use (set (rows_of t) i q) t.used ≡ risen (held_by t) p
    held_risen =
        ap (map spelled) (take-set-lt t.used (rows_of t) i q h)
        ∙ map-set spelled (take t.used (rows_of t)) i q
        ∙ ap (set (held_by t) i) (e ∙ ap₂ (λ (x y : List ℕ). (x, greater y p.row.values)) same_spelling (sym (ap (λ (x : Spelled). x.1) (entry_is t i d ([], []) h))))
        ∙ sym (raised_held (held_by t) (symbols_of p.spelling) i f p.row.values)

    pub held_raised : (taken t p ≡ true) × Raised (held_by t) (spelled p) (in_use (set (rows_of t) i q) t.used)
    held_raised = (
      or_left (holds (held_by t) (symbols_of p.spelling)) _ (holds_held (held_by t) (symbols_of p.spelling) i f),
      raised_is (held_by t) (in_use (set (rows_of t) i q) t.used) p (ascends_of (rows_of t) t.used t.ordered) held_risen,
    )

-- ---- the spelling is not held

module _ (t : Table) (p : Pattern) (i : ℕ) (h : i ≤ t.used) (f : Found (held_by t) (symbols_of p.spelling) (Err i)) where
  pub refused : limit_of t ≤ t.used → taken t p ≡ false
  refused m =
      let e = held_length t in
      or_from (holds (held_by t) (symbols_of p.spelling)) _ (holds_other (held_by t) (symbols_of p.spelling) i f) (le-ltb (length (held_by t)) (limit_of t) (omega arith))

  module _ (r : t.used < limit_of t) (new : List Pattern) (e : new ≡ opened (rows_of t) i t.used) where
    -- the rows in use, and those beyond
    front : List Pattern
    front = take i (rows_of t) ++ p ∷ between i t.used (rows_of t)

    put : set new i p ≡ front ++ drop (t.used + 1) (rows_of t)
    unfolding front
    put =
        ap (λ (x : List Pattern). set x i p) e ∙ opened_set (rows_of t) t.used r i p h
        ∙ sym (append_assoc (take i (rows_of t)) (p ∷ between i t.used (rows_of t)) (drop (t.used + 1) (rows_of t)))

    front_length : length front ≡ t.used + 1
    unfolding front
    front_length =
        let a = length-append (take i (rows_of t)) (p ∷ between i t.used (rows_of t)) in
        let b = length-take-le i (rows_of t) (omega arith) in
        let c = length-between (rows_of t) i t.used t.within in
        omega arith

    pub put_length : length (set new i p) ≡ limit_of t
    put_length = length-set new i p ∙ ap length e ∙ opened_length (rows_of t) t.used r i h

    pub put_rest : drop (t.used + 1) (set new i p) ≡ drop (t.used + 1) (rows_of t)
    put_rest = ap (drop (t.used + 1)) put ∙ drop_at front (drop (t.used + 1) (rows_of t)) (t.used + 1) front_length

    put_risen : in_use (set new i p) (t.used + 1) ≡ risen (held_by t) p
    unfolding front
    put_risen =
        ap (λ (x : List Pattern). map spelled (take (t.used + 1) x)) put
        ∙ ap (map spelled) (take_at front (drop (t.used + 1) (rows_of t)) (t.used + 1) front_length)
        ∙ map-append spelled (take i (rows_of t)) (p ∷ between i t.used (rows_of t))
        ∙ ap₂ (λ (x y : Book). x ++ spelled p ∷ y)
        (ap (map spelled) (sym (take-take i t.used (rows_of t) h)) ∙ sym (take-map spelled i (take t.used (rows_of t))))
        (rest_held t i h)
        ∙ sym (raised_other (held_by t) (symbols_of p.spelling) i f p.row.values)

    pub put_order : InOrder (set new i p) (t.used + 1)
    put_order =
        let c = put_length in
        order_of (set new i p) (t.used + 1) (omega arith)
        (subst Ascending (sym put_risen) (raised_ascends greater (symbols_of p.spelling) p.row.values (held_by t) (ascends_of (rows_of t) t.used t.ordered)))

    pub put_raised : (taken t p ≡ true) × Raised (held_by t) (spelled p) (in_use (set new i p) (t.used + 1))
    put_raised =
        let c = held_length t in (
          or_right (holds (held_by t) (symbols_of p.spelling)) _ (lt-ltb (length (held_by t)) (limit_of t) (omega arith)),
          raised_is (held_by t) (in_use (set new i p) (t.used + 1)) p (ascends_of (rows_of t) t.used t.ordered) put_risen,
        )
