use Rattle.std.proofs.Common.{◌≡◌, ℕ, suc, ◌+◌, ◌-◌, ◌^◌, ◌<◌, ◌≤◌, sym, ap, ◌∙◌, ap₂, arith, pow_mono}
use Rattle.std.proofs.lemmas.Nat.{one_shl}
use Rattle.words.proofs.Bits.{bits_numbers}
use Rattle.words.proofs.word.Word.mask.Goals as goal

pub overflow_sub-result-2 : goal.overflow_sub-result-2
overflow_sub-result-2 c =
    let l : c.args.bounds.left < 64 = omega arith in
    let h : c.args.self.now.len + 1 - c.args.bounds.right < 64 = omega arith in
    let o : c.args.bounds.left ≤ c.args.self.now.len + 1 - c.args.bounds.right = omega arith in
    rw (one_shl c.args.bounds.left 64 l, one_shl (c.args.self.now.len + 1 - c.args.bounds.right) 64 h) (pow_mono o)

-- no position lies within bounds

pub returns : goal.returns
returns c =
    let n = c.args.self.now.len in
    let left = c.args.bounds.left in
    let right = c.args.bounds.right in
    let l : left < 64 = omega arith in
    let h : n + 1 - right < 64 = omega arith in
    let o : n + 1 - right ≡ left + (suc (n - right) - left) = omega arith in
    ap₂ (λ (x y : ℕ). x - y) (one_shl (n + 1 - right) 64 h ∙ ap (λ (x : ℕ). 2 ^ x) o) (one_shl left 64 l) ∙ sym (bits_numbers (suc (n - right) - left) left)
