-- The value of a piece, digit by digit, and the figures of a line, piece by piece.
use Rattle.std.proofs.Common.{◌≡◌, ℕ, suc, ◌-◌, ◌^◌, ◌<◌, ◌≤◌, Bool, true, false, cond, ◌&&◌, eqb, leb, List, [], ◌∷◌, ◌++◌, map, length, drop, Some, None, Option, sym, refl, ap, ◌∙◌, ap₂, append_assoc, arith}
use native.Mathlib.Nat.{pow-le-pow_right}
use lib.Dec.{eqb-suc-suc}
use Rattle.std.specs.Str.Parse.{digits_value, digits_value_after}
use Rattle.std.specs.Char.{is_ascii_digit, digit_value as value_of_digit}
use Rattle.std.specs.Str.{all_ascii_digits}
use Rattle.std.proofs.lemmas.Bool.{and_parts, and_right, leb-true, le-ltb, lt-ltb, ne_eqb, cond-true, cond-false}
use Rattle.text.specs.Figures.{is_figure, figure_of, all_figures}

-- a decimal digit, by its place among the bytes
pub digit_bounds : (b : ℕ) → is_ascii_digit b ≡ true → (48 ≤ b) × (b ≤ 57)
digit_bounds b d =
    let both = and_parts (leb 48 b) (leb b 57) d in
    (leb-true 48 b both.0, leb-true b 57 both.1)

-- what a decimal digit stands for
digit_value : (b : ℕ) → is_ascii_digit b ≡ true → value_of_digit b ≡ b - 48
digit_value b d =
    let h = digit_bounds b d in
    cond-false _ _ _ (le-ltb b 48 h.0) ∙ cond-true _ _ _ (lt-ltb b 58 (omega arith))

-- the number that the first i digits of the piece write is v
abbrev pub ReadTo : List ℕ → ℕ → ℕ → Type 0
ReadTo p v i =
    (all_ascii_digits (drop i p) ≡ all_ascii_digits p)
    × (digits_value_after 10 v (drop i p) ≡ digits_value 10 p)
    × (v < 10 ^ i)

-- a value of at most six digits leaves room for a seventh
pub read_small : (p : List ℕ) (v i : ℕ) → ReadTo p v i → i ≤ 6 → v < 1000000
read_small p v i before h = omega (arith, pow-le-pow_right {n = 10} (omega arith) {i = i} {j = 6} h, before.2)

-- the figures read so far, and those of n pieces that are left
abbrev pub onward : List ℕ → ℕ → List (List ℕ) → Option (List ℕ)
onward done n ps = cond (all_figures ps && eqb (length ps) n) (Some (done ++ map (digits_value 10) ps)) None

-- one piece more is a figure
pub onward_more : (done : List ℕ) (n k : ℕ) (p : List ℕ) (ps : List (List ℕ)) (v : ℕ) → n ≡ suc k → Some v ≡ figure_of p → onward (done ++ v ∷ []) k ps ≡ onward done n (p ∷ ps)
onward_more done n k p ps v e is = go (is_figure p) is ∙ ap (λ (m : ℕ). onward done m (p ∷ ps)) (sym e)
  where
    go : (t : Bool) → Some v ≡ cond t (Some (digits_value 10 p)) None → onward (done ++ v ∷ []) k ps ≡ cond ((t && all_figures ps) && eqb (suc (length ps)) (suc k)) (Some (done ++ digits_value 10 p ∷ map (digits_value 10) ps)) None
    go true one =
        let same : v ≡ digits_value 10 p = cc in
        ap₂ (λ (t : Bool) (vs : List ℕ). cond (all_figures ps && t) (Some vs) None) (sym (eqb-suc-suc (length ps) k))
        (append_assoc done (v ∷ []) (map (digits_value 10) ps) ∙ ap (λ (x : ℕ). done ++ x ∷ map (digits_value 10) ps) same)
    go false none = let z : ◌≡◌ {A = ℕ} 0 1 = cc in absurd (omega arith)

-- the next piece is no figure
pub onward_refused : (done : List ℕ) (n : ℕ) (p : List ℕ) (ps : List (List ℕ)) → None ≡ figure_of p → None ≡ onward done n (p ∷ ps)
onward_refused done n p ps is = go (is_figure p) is
  where
    go : (t : Bool) → None ≡ cond t (Some (digits_value 10 p)) None → None ≡ cond ((t && all_figures ps) && eqb (suc (length ps)) n) (Some (done ++ digits_value 10 p ∷ map (digits_value 10) ps)) None
    go true some = let z : ◌≡◌ {A = ℕ} 0 1 = cc in absurd (omega arith)
    go false none = refl

-- fewer or more pieces than are wanted
pub onward_other : (done : List ℕ) (n : ℕ) (ps : List (List ℕ)) → (length ps ≡ n → ⊥) → None ≡ onward done n ps
onward_other done n ps other = sym (cond-false _ (Some (done ++ map (digits_value 10) ps)) None (and_right (all_figures ps) (eqb (length ps) n) (ne_eqb (length ps) n other)))
