use Rattle.std.proofs.Common.{rules, ◌≡◌, ℕ, zero, suc, ◌+◌, ◌<◌, max, List, [], ◌∷◌, length, get_or, take, set, sym, refl, ap, ◌∙◌, add-one, arith}
use Rattle.patterns.specs.Spellings.{greater}
use Rattle.kinds.proofs.values.lift.Goals as goal

greater_none : (xs : List ℕ) → greater xs [] ≡ xs
greater_none [] = refl
greater_none (x ∷ xs) = refl

-- one value more is joined
greater_more : (xs ys : List ℕ) (k : ℕ) → k < length xs → k < length ys → set (greater xs (take k ys)) k (max (get_or (greater xs (take k ys)) k 0) (get_or ys k 0)) ≡ greater xs (take (suc k) ys)
greater_more [] ys k h l = absurd (omega arith)
greater_more (x ∷ xs) [] k h l = absurd (omega arith)
greater_more (x ∷ xs) (y ∷ ys) zero h l = ap (λ (zs : List ℕ). max x y ∷ zs) (sym (greater_none xs))
greater_more (x ∷ xs) (y ∷ ys) (suc k) h l = ap (λ (zs : List ℕ). max x y ∷ zs) (greater_more xs ys k (omega arith) (omega arith))

pub loop-k-init : goal.loop-k-init
loop-k-init c = sym (greater_none c.args.gaps.now)

joined : (xs ys zs : List ℕ) (k x : ℕ) → k < length xs → k < length ys → zs ≡ greater xs (take k ys) → x ≡ max (get_or zs k 0) (get_or ys k 0) → set zs k x ≡ greater xs (take (k + 1) ys)
joined xs ys zs k x h l e m =
    ap (set zs k) m
    ∙ ap (λ (z : List ℕ). set z k (max (get_or z k 0) (get_or ys k 0))) e
    ∙ greater_more xs ys k h l
    ∙ ap (λ (n : ℕ). greater xs (take n ys)) (sym (add-one k))

pub loop-k-preserved : goal.loop-k-preserved
loop-k-preserved c = let f = c.args.row.now.full in joined c.args.gaps.now c.args.row.now.values c.loop-k.gaps c.loop-k.k _ (omega arith) (omega arith) c.loop-k.invariant (search rules)
