use Rattle.std.proofs.Common.{◌≡◌, ℕ, zero, suc, ◌+◌, ◌-◌, false, not, List, [], ◌∷◌, length, get_or, take, drop, sym, refl, ap, ◌∙◌, arith}
use Rattle.std.proofs.lemmas.List.{take_all, length-drop, length-take-le, get_or-drop}
use Rattle.std.proofs.lemmas.Bool.{true≢false, and_left, and_right}
use Rattle.patterns.specs.declared.pattern.Spelling.{Spelling}
use Rattle.patterns.specs.Spellings.{any_above_zero}
use Rattle.patterns.specs.Views.{symbols_of}
use Rattle.patterns.proofs.pattern.Pattern.new.Goals as goal
use Rattle.patterns.proofs.pattern.Pattern.new.Goals.{then-not-any_above-via-then-not-any_above, then-not-any_above-via-else-not-any_above+then-any_above}

-- the places beyond the last one, as the code cuts them off
beyond : (s : Spelling) (values : List ℕ) → any_above_zero (take (length values - (s.len + 1)) (drop (s.len + 1) values)) ≡ any_above_zero (drop (suc (length (symbols_of s))) values)
beyond s values =
    let n : length (symbols_of s) ≡ s.len = length-take-le s.len s.symbols (omega (arith, s.full, s.sized)) in
    let m : s.len + 1 ≡ suc (length (symbols_of s)) = omega arith in
    ap any_above_zero (take_all (length values - (s.len + 1)) (drop (s.len + 1) values) (omega (arith, length-drop (s.len + 1) values)) ∙ ap (λ (j : ℕ). drop j values) m)

none_above : (xs : List ℕ) → any_above_zero xs ≡ false → (k : ℕ) → get_or xs k 0 ≡ 0
none_above [] e k = refl
none_above (zero ∷ xs) e zero = refl
none_above (zero ∷ xs) e (suc k) = none_above xs e k
none_above (suc x ∷ xs) e k = absurd (true≢false e)

pub returns-then-not-any_above : goal.returns-then-not-any_above
returns-then-not-any_above c =
    let s = c.args.spelling in
    let vs = c.args.row.values in
    elim c.then-not-any_above.branch [
      | then-not-any_above-via-then-not-any_above w ↦ and_left (any_above_zero vs) _ (sym w.if-not-any_above.ensures)
      | then-not-any_above-via-else-not-any_above+then-any_above w ↦ and_right (any_above_zero vs) _ (ap not (sym (beyond s vs) ∙ sym w.if-any_above.ensures))
    ]

pub invariant_of-result : goal.invariant_of-result
invariant_of-result c =
    let s = c.args.spelling in
    let vs = c.args.row.values in
    let z = none_above (drop (suc (length (symbols_of s))) vs) (sym (beyond s vs) ∙ sym c.if-any_above.ensures) in
    let n : length (symbols_of s) ≡ s.len = length-take-le s.len s.symbols (omega (arith, s.full, s.sized)) in record {
      valued = sym c.if-not-any_above.ensures;
      within = (λ k h.
          let e : suc (length (symbols_of s)) + (k - suc s.len) ≡ k = omega arith in
          sym (ap (λ (j : ℕ). get_or vs j 0) e) ∙ sym (get_or-drop (suc (length (symbols_of s))) vs (k - suc s.len) 0) ∙ z (k - suc s.len));
    }
