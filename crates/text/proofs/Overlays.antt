-- Text that is written over memory: one text after another is the two in one.
use Rattle.std.proofs.Common.{◌≡◌, ℕ, ◌+◌, ◌≤◌, List, ◌++◌, length, take, drop, sym, ap, ◌∙◌, ap₂, append_assoc, arith}
use Rattle.std.proofs.lemmas.List.{length-append, length-take-le, take_at, drop_at, drop-drop}
use Rattle.text.specs.Written.{overlaid}

-- where the text ends
front_length : (m : List ℕ) (at : ℕ) (s : List ℕ) → at + length s ≤ length m → length (take at m ++ s) ≡ at + length s
front_length m at s h = length-append (take at m) s ∙ omega (arith, length-take-le at m (omega arith))

-- the memory up to the end of the text, and what lies beyond
overlaid_parts : (m : List ℕ) (at : ℕ) (s : List ℕ) → overlaid m at s ≡ (take at m ++ s) ++ drop (at + length s) m
overlaid_parts m at s = sym (append_assoc (take at m) s (drop (at + length s) m))

take_overlaid : (m : List ℕ) (at : ℕ) (s : List ℕ) (end : ℕ) → at + length s ≤ length m → end ≡ at + length s → take end (overlaid m at s) ≡ take at m ++ s
take_overlaid m at s end h e =
    ap (take end) (overlaid_parts m at s) ∙ take_at (take at m ++ s) (drop (at + length s) m) end (front_length m at s h ∙ sym e)

drop_overlaid : (m : List ℕ) (at : ℕ) (s : List ℕ) (end k : ℕ) → at + length s ≤ length m → end ≡ at + length s → drop (end + k) (overlaid m at s) ≡ drop (end + k) m
drop_overlaid m at s end k h e =
    sym (drop-drop k end (overlaid m at s))
    ∙ ap (λ (x : List ℕ). drop k (drop end x)) (overlaid_parts m at s)
    ∙ ap (drop k) (drop_at (take at m ++ s) (drop (at + length s) m) end (front_length m at s h ∙ sym e) ∙ ap (λ (j : ℕ). drop j m) (sym e))
    ∙ drop-drop k end m

-- s from `at` on, and then t from where s ends
pub overlaid_more : (m : List ℕ) (at : ℕ) (s : List ℕ) (end : ℕ) (t : List ℕ) → at + length s ≤ length m → end ≡ at + length s → overlaid (overlaid m at s) end t ≡ overlaid m at (s ++ t)
overlaid_more m at s end t h e =
    let beyond = drop (at + length (s ++ t)) m in
    let same : end + length t ≡ at + length (s ++ t) = omega (arith, length-append s t) in
    ap₂ (λ (x y : List ℕ). x ++ (t ++ y)) (take_overlaid m at s end h e) (drop_overlaid m at s end (length t) h e ∙ ap (λ (k : ℕ). drop k m) same)
    ∙ append_assoc (take at m) s (t ++ beyond)
    ∙ ap (λ (x : List ℕ). take at m ++ x) (sym (append_assoc s t beyond))
