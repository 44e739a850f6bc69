-- Spellings and their rules.
use Rattle.std.proofs.Common.{◌≡◌, ℕ, suc, ◌<◌, ◌≤◌, true, List, [], ◌∷◌, length, get_or, take, sym, refl, ap, ◌∙◌, subst, ⊎_elim, arith}
use Rattle.std.proofs.lemmas.List.{get_or-take, get_or_past, length-take-le}
use Rattle.std.proofs.lemmas.Bool.{cases_lt, false≢true}
use Rattle.words.specs.Words.{alphabet}
use Rattle.patterns.specs.declared.pattern.Spelling.{Spelling}
use Rattle.patterns.specs.Spellings.{any_above_zero}
use Rattle.patterns.specs.Views.{symbols_of}
use Rattle.patterns.proofs.Cutting.{above_front}
use Rattle.tree.specs.Rules.{Ruled}
use Rattle.tree.specs.Leasts.{Written}

-- ---- a spelling in an array

module _ (w : List ℕ) (len : ℕ) (symbols : List ℕ) (a : Written w len symbols) where
  pub written_length : length w ≡ len
  written_length = ap length (sym a.front) ∙ length-take-le len symbols (omega (arith, a.sized, a.full))

  pub written_get : (k : ℕ) → get_or w k 0 ≡ get_or symbols k 0
  written_get k = ap (λ (x : List ℕ). get_or x k 0) (sym a.front) ∙ ⊎_elim
      (λ (h : k < len). get_or-take len symbols k 0 h)
      (λ (h : len ≤ k). let n = length-take-le len symbols (omega (arith, a.sized, a.full)) in get_or_past (take len symbols) k 0 (omega arith) ∙ sym (a.unused k h))
      (cases_lt k len)

  above_is : any_above_zero w ≡ any_above_zero symbols
  above_is = ap any_above_zero (sym a.front) ∙ sym (above_front len symbols a.unused)

  -- what a `Spelling` keeps
  module _ (r : Ruled w) where
    pub some_symbols : 1 ≤ len
    some_symbols = go w r.lettered written_length
      where
        go : (x : List ℕ) → any_above_zero x ≡ true → length x ≡ len → 1 ≤ len
        go [] t e = absurd (false≢true t)
        go (y ∷ ys) t e = omega arith

    pub all_symbolic : (k : ℕ) → get_or symbols k 0 ≤ alphabet
    all_symbolic k = subst (λ (x : ℕ). x ≤ alphabet) (written_get k) (r.symbolic k)

    pub inner_letters : (k : ℕ) → 0 < k → suc k < len → 0 < get_or symbols k 0
    inner_letters k h l = let n = written_length in subst (λ (x : ℕ). 0 < x) (written_get k) (r.edged k h (omega arith))

    pub some_letter : any_above_zero symbols ≡ true
    some_letter = sym above_is ∙ r.lettered

  -- and the rules that follow from it
  pub ruled_written : ((k : ℕ) → get_or symbols k 0 ≤ alphabet) → ((k : ℕ) → 0 < k → suc k < len → 0 < get_or symbols k 0) → any_above_zero symbols ≡ true → Ruled w
  ruled_written y e l =
      let n = written_length in
      record {
        few = omega (arith, a.sized);
        symbolic = λ k. subst (λ (x : ℕ). x ≤ alphabet) (sym (written_get k)) (y k);
        edged = λ k h q. subst (λ (x : ℕ). 0 < x) (sym (written_get k)) (e k h (omega arith));
        lettered = above_is ∙ l;
      }

-- ---- a spelling obeys the rules

written : (s : Spelling) → Written (symbols_of s) s.len s.symbols
written s = record { full = s.full; sized = s.sized.1; front = refl; unused = s.unused }

pub spelling_ruled : (s : Spelling) → Ruled (symbols_of s)
spelling_ruled s = ruled_written (symbols_of s) s.len s.symbols (written s) s.symbolic s.edged s.lettered

pub spelling_some : (s : Spelling) → 0 < length (symbols_of s)
spelling_some s = let n = written_length (symbols_of s) s.len s.symbols (written s) in omega (arith, s.sized.0)
