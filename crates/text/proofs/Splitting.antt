-- The first line of a text, and what follows it.
use Rattle.std.proofs.Common.{◌≡◌, ℕ, suc, ◌<◌, eqb, List, [], ◌∷◌, ◌++◌, length, Some, None, Option, sym, refl, ap, ◌∙◌, inl, inr, ⊎_elim, arith, Bor}
use Rattle.std.specs.Option.{unwrap_or}
use Rattle.std.proofs.lemmas.Bool.{cond-false, ne_eqb}
use Rattle.text.specs.Cuts.{CutAt}
use Rattle.text.specs.Lines.{lines_of, grow, behind_line, NoFeed, Begins}

lines_feed : (xs t : List ℕ) → NoFeed xs → lines_of (xs ++ 10 ∷ t) ≡ xs ∷ lines_of t
unfolding lines_of
lines_feed [] t f = refl
lines_feed (x ∷ xs) t f =
    cond-false (eqb x 10) _ _ (ne_eqb x 10 (f 0 (omega arith))) ∙ ap (grow x) (lines_feed xs t (λ k h. f (suc k) (omega arith)))

lines_last : (x : ℕ) (xs : List ℕ) → NoFeed (x ∷ xs) → lines_of (x ∷ xs) ≡ (x ∷ xs) ∷ []
unfolding lines_of
lines_last x [] f = cond-false (eqb x 10) _ _ (ne_eqb x 10 (f 0 (omega arith)))
lines_last x (y ∷ xs) f =
    cond-false (eqb x 10) _ _ (ne_eqb x 10 (f 0 (omega arith))) ∙ ap (grow x) (lines_last y xs (λ k h. f (suc k) (omega arith)))

last_line : (xs : List ℕ) → 0 < length xs → NoFeed xs → lines_of xs ≡ xs ∷ lines_of []
unfolding lines_of
last_line [] h f = absurd (omega arith)
last_line (x ∷ xs) h f = lines_last x xs f

-- a text that begins with a line has it as the first of its lines
pub begins_lines : (text line rest : List ℕ) → Begins text line rest → lines_of text ≡ line ∷ lines_of rest
begins_lines text line rest b =
    ⊎_elim
    (λ (e : text ≡ line ++ 10 ∷ rest). ap lines_of e ∙ lines_feed line rest b.clear)
    (λ p. ap lines_of p.0 ∙ last_line line p.2 b.clear ∙ ap (λ (x : List ℕ). line ∷ lines_of x) (sym p.1))
    b.parts

-- and goes on behind it with the rest
behind_feed : (xs t : List ℕ) → NoFeed xs → behind_line (xs ++ 10 ∷ t) ≡ t
unfolding behind_line
behind_feed [] t f = refl
behind_feed (x ∷ xs) t f = cond-false (eqb x 10) _ _ (ne_eqb x 10 (f 0 (omega arith))) ∙ behind_feed xs t (λ k h. f (suc k) (omega arith))

behind_last : (xs : List ℕ) → NoFeed xs → behind_line xs ≡ []
unfolding behind_line
behind_last [] f = refl
behind_last (x ∷ xs) f = cond-false (eqb x 10) _ _ (ne_eqb x 10 (f 0 (omega arith))) ∙ behind_last xs (λ k h. f (suc k) (omega arith))

pub begins_behind : (text line rest : List ℕ) → Begins text line rest → behind_line text ≡ rest
begins_behind text line rest b =
    ⊎_elim
    (λ (e : text ≡ line ++ 10 ∷ rest). ap behind_line e ∙ behind_feed line rest b.clear)
    (λ p. ap behind_line p.0 ∙ behind_last line b.clear ∙ sym p.1)
    b.parts

-- a text cut at its first line feed begins with the line in front of it
pub begins_cut : (text line : List ℕ) (rest : Option (Bor (List ℕ))) (none : Bor (List ℕ)) → none.now ≡ [] → 0 < length text → CutAt 10 text line rest → Begins text line (unwrap_or rest none).now
begins_cut text line None none empty some w = record { clear = w.0; parts = inr (w.1, empty, omega (arith, ap length w.1)) }
begins_cut text line (Some rest) none empty some w = record { clear = w.0; parts = inl w.1 }
