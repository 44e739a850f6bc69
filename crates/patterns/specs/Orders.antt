-- The order of spellings is the library's order of lists of numbers, and so it is total.
use Rattle.std.specs.Prelude.{◌≡◌, ℕ, Bool, true, false, cond, List, [], ◌∷◌, refl, nat_lt, ◌==◌}
use Rattle.std.proofs.Common.{subst, arith, eqb-true}
use Rattle.std.proofs.lemmas.Bool.{ltb-true, ltb-false, eqb-false}
use Rattle.std.specs.declared.cmp.Ordering.{Ordering}
use Rattle.std.specs.declared.cmp.Ordering.TheVariants.{Less, Equal, Greater}
use Rattle.std.specs.Ordering.{nat_cmp, ordering_then, eq_by_cmp}
use Rattle.std.specs.Cmp.{IsTotalOrder, IsEquivalence, nat_cmp_total, eq_by_cmp_equiv, on_total}
use Rattle.std.specs.Cmp.Lexicographic.{slice_cmp, lists_total}
use Rattle.patterns.specs.declared.pattern.Spelling.{Spelling}
use Rattle.patterns.specs.Order.{ordering}
use Rattle.patterns.specs.Views.{symbols_of}

-- the first two symbols decide, or what follows them does
by_first : (x y : ℕ) (a b c : Bool) (r s : Ordering) → nat_lt x y ≡ a → (x == y) ≡ b → nat_lt y x ≡ c → r ≡ s → ordering_then (cond a Less (cond b Equal Greater)) r ≡ cond a Less (cond c Greater s)
by_first x y true b c r s p q k e = refl
by_first x y false true true r s p q k e = absurd (omega (arith, eqb-true x y q, ltb-true y x k))
by_first x y false true false r s p q k e = e
by_first x y false false true r s p q k e = refl
by_first x y false false false r s p q k e = absurd (omega (arith, eqb-false x y q, ltb-false x y p, ltb-false y x k))

pub lists_ordering : (u v : List ℕ) → slice_cmp nat_cmp u v ≡ ordering u v
unfolding ordering
lists_ordering [] [] = refl
lists_ordering [] (y ∷ ys) = refl
lists_ordering (x ∷ xs) [] = refl
lists_ordering (x ∷ xs) (y ∷ ys) = by_first x y (nat_lt x y) (x == y) (nat_lt y x) _ _ refl refl refl (lists_ordering xs ys)

pub ordering_total : IsTotalOrder ordering
ordering_total = subst IsTotalOrder (λ i u v. lists_ordering u v i) (lists_total nat_cmp_total)

pub spelling_total : IsTotalOrder (λ (u v : Spelling). ordering (symbols_of u) (symbols_of v))
spelling_total = on_total symbols_of ordering_total

pub spelling_equiv : IsEquivalence (eq_by_cmp (λ (u v : Spelling). ordering (symbols_of u) (symbols_of v)))
spelling_equiv = eq_by_cmp_equiv spelling_total
