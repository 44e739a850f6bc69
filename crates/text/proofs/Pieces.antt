-- The pieces of a line that is cut at its first comma.
use Rattle.std.proofs.Common.{◌≡◌, ℕ, suc, ◌<◌, Bool, true, false, cond, eqb, List, [], ◌∷◌, ◌++◌, length, Some, None, Option, refl, ap, ◌∙◌, arith, Bor}
use Rattle.std.proofs.lemmas.Bool.{cond-false, ne_eqb}
use Rattle.text.specs.Cuts.{Without, CutAt}
use Rattle.text.specs.Figures.{onto, pieces, pieces_after}

pieces_comma : (xs rest : List ℕ) → Without 44 xs → pieces (xs ++ 44 ∷ rest) ≡ xs ∷ pieces rest
pieces_comma [] rest w = refl
pieces_comma (x ∷ xs) rest w =
    cond-false (eqb x 44) _ _ (ne_eqb x 44 (w 0 (omega arith))) ∙ ap (onto (x ∷ [])) (pieces_comma xs rest (λ k h. w (suc k) (omega arith)))

pieces_one : (xs : List ℕ) → Without 44 xs → pieces xs ≡ xs ∷ []
pieces_one [] w = refl
pieces_one (x ∷ xs) w =
    cond-false (eqb x 44) _ _ (ne_eqb x 44 (w 0 (omega arith))) ∙ ap (onto (x ∷ [])) (pieces_one xs (λ k h. w (suc k) (omega arith)))

-- the piece in front of the first comma, and those of what follows it
pub pieces_cut : (line front : List ℕ) (rest : Option (Bor (List ℕ))) → CutAt 44 line front rest → pieces line ≡ front ∷ pieces_after rest
pieces_cut line front None w = ap pieces w.1 ∙ pieces_one front w.0
pieces_cut line front (Some rest) w = ap pieces w.1 ∙ pieces_comma front rest.now w.0

onto_some : (xs : List ℕ) (ps : List (List ℕ)) → 0 < length (onto xs ps)
onto_some xs [] = omega arith
onto_some xs (p ∷ ps) = omega arith

pub pieces_some : (bs : List ℕ) → 0 < length (pieces bs)
pieces_some [] = omega arith
pieces_some (b ∷ bs) = go (eqb b 44)
  where
    go : (t : Bool) → 0 < length (cond t ([] ∷ pieces bs) (onto (b ∷ []) (pieces bs)))
    go true = omega arith
    go false = onto_some (b ∷ []) (pieces bs)
