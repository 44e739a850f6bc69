-- The loop that writes a pattern, over its symbols and the values behind them.
use denote.Ref.{Bor}
use Rattle.std.proofs.Common.{◌≡◌, ℕ, ◌+◌, ◌<◌, ◌≤◌, List, [], ◌∷◌, ◌++◌, length, get_or, drop, set, sym, ap, ◌∙◌, ap₂, Some, None, Option, Iter, append_assoc, arith}
use Rattle.std.proofs.iter.Yields.{fronts}
use Rattle.std.proofs.lemmas.Iterator.{zips}
use Rattle.std.proofs.lemmas.Slice.Zip.{zip_turn, zip_end}
use Rattle.std.proofs.lemmas.List.{get_or-drop, length-drop, length_push}
use Rattle.std.specs.declared.iter.Zip.{Zip}
use Rattle.std.specs.Iterator.{Yields}
use Rattle.std.specs.Iterator.Adapters.{zip_first, zip_second}
use Rattle.std.specs.Slice.Iter.{iter_rest}
use Rattle.patterns.specs.Texts.{digit, byte_of, text_to, with_digit}
use Rattle.patterns.proofs.Bytes.{text_more, len_more, len_mono, put_front, put_digit_front}

pub record Turn (S V : List ℕ) (k symbol value : ℕ) : Type 0 where
  pub inside : k < length S
  pub of_symbol : symbol ≡ get_or S k 0
  pub of_value : value ≡ get_or V (k + 1) 0

pub turn : (S V : List ℕ) (xs : List (Bor ℕ × Bor ℕ)) (s t u : Zip (Iter ℕ) (Iter ℕ)) (r : Option (Bor ℕ × Bor ℕ)) (p : Bor ℕ × Bor ℕ) → iter_rest (zip_first s) ≡ S → iter_rest (zip_second s) ≡ drop 1 V
    → Yields (zips fronts fronts) s xs t → r ≡ Some p → zips fronts fronts t r u → Turn S V (length xs) p.0.now p.1.now
turn S V xs s t u r p a b y e z =
    let h = zip_turn S (drop 1 V) xs s t u r a b y p e z in
    let j : 1 + length xs ≡ length xs + 1 = omega arith in
    record { inside = h.0; of_symbol = h.2 0; of_value = h.3 0 ∙ get_or-drop 1 V (length xs) 0 ∙ ap (λ (k : ℕ). get_or V k 0) j }

pub turns : (S V : List ℕ) (xs : List (Bor ℕ × Bor ℕ)) (s t u : Zip (Iter ℕ) (Iter ℕ)) (r : Option (Bor ℕ × Bor ℕ)) → iter_rest (zip_first s) ≡ S → iter_rest (zip_second s) ≡ drop 1 V
    → Yields (zips fronts fronts) s xs t → r ≡ None → zips fronts fronts t r u → length S < length V → length xs ≡ length S
turns S V xs s t u r a b y e z h = omega (arith, zip_end S (drop 1 V) xs s t u r a b y e z, length-drop 1 V)

module _ {S V : List ℕ} {k symbol value : ℕ} (t : Turn S V k symbol value) where
  pub room : (i n o : ℕ) → i ≡ length (text_to S V k) → n ≡ length (text_to S V (length S)) → n ≤ o → i + (1 + length (digit value)) ≤ o
  room i n o e f g = rw (t.of_value) (omega (arith, len_more S V k, len_mono S V (k + 1) (length S) (omega (arith, t.inside))))

  pub write_step : (E out : List ℕ) (i b i' : ℕ) → i ≡ length (text_to S V k) → out ≡ text_to S V k ++ drop i E → b ≡ byte_of symbol → i + (1 + length (digit value)) ≤ length E → i' ≡ i + 1 + length (digit value)
      → (i' ≡ length (text_to S V (k + 1))) × (with_digit (set out i b) (i + 1) value ≡ text_to S V (k + 1) ++ drop i' E)
  write_step E out i b i' e o f h g =
      let T = text_to S V k in
      let q : i < length E = omega arith in
      let r : i + 1 + length (digit value) ≤ length E = omega arith in (
        g ∙ ap (λ (v : ℕ). i + 1 + length (digit v)) t.of_value ∙ omega (arith, e, len_more S V k),
        put_digit_front (T ++ b ∷ []) E (set out i b) (i + 1) value (ap (λ (x : ℕ). x + 1) e ∙ sym (length_push T b)) r (put_front T E out i b e q o)
            ∙ ap₂ (λ (x : List ℕ) (j : ℕ). x ++ drop j E) (append_assoc T (b ∷ []) (digit value) ∙ ap₂ (λ (x v : ℕ). T ++ x ∷ digit v) (f ∙ ap byte_of t.of_symbol) t.of_value ∙ sym (text_more S V k)) (sym g),
      )
