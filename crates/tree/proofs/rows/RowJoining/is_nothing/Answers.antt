use Rattle.std.proofs.Common.{◌≡◌, ℕ, zero, suc, ◌<◌, Bool, true, false, not, List, [], ◌∷◌, length, get_or, sym, refl, ap, ⊎_elim, rules, arith}
use Rattle.std.specs.Prelude.{IsTrue, ◌↔◌, EachIndex}
use Rattle.std.proofs.lemmas.Bool.{cases_Bool, false≢true}
use Rattle.patterns.specs.Spellings.{any_above_zero}
use Rattle.tree.proofs.rows.RowJoining.is_nothing.Goals as goal

-- all numbers of a list are 0, or some number is above it
all_zero : (xs : List ℕ) → any_above_zero xs ≡ false → (k : ℕ) → get_or xs k 0 ≡ 0
all_zero [] e k = refl
all_zero (zero ∷ xs) e zero = refl
all_zero (zero ∷ xs) e (suc k) = all_zero xs e k
all_zero (suc x ∷ xs) e k = absurd (cc)

none_above : (xs : List ℕ) → ((k : ℕ) → k < length xs → get_or xs k 0 ≡ 0) → any_above_zero xs ≡ false
none_above [] h = refl
none_above (zero ∷ xs) h = none_above xs (λ k l. h (suc k) (omega arith))
none_above (suc x ∷ xs) h = let e = h 0 (omega arith) in absurd (omega arith)

told : (xs : List ℕ) (b : Bool) → IsTrue b ↔ EachIndex xs (λ k. get_or xs k 0 ≡ 0) → b ≡ not (any_above_zero xs)
told xs true h = sym (ap not (none_above xs (h.0 refl)))
told xs false h = ⊎_elim
    (λ (t : any_above_zero xs ≡ true). sym (ap not t))
    (λ (f : any_above_zero xs ≡ false). absurd (false≢true (h.1 (λ k l. all_zero xs f k))))
    (cases_Bool (any_above_zero xs))

pub returns : goal.returns
returns c = told c.args.self.values c.all.result (search rules)
