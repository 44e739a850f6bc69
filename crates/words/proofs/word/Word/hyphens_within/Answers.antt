use Rattle.std.proofs.Common.{◌≡◌, ℕ, suc, ◌-◌, length, take, sym, ap, ◌∙◌, arith}
use lib.Count.{ones}
use lib.Bits.{bit_and}
use Rattle.std.proofs.lemmas.List.{length-take-le}
use Rattle.words.specs.Counting.{count}
use Rattle.words.specs.Words.{hyphen, positions}
use Rattle.words.specs.Views.{headword}
use Rattle.words.proofs.Bits.{ones_mask, count_le}
use Rattle.words.proofs.word.Word.hyphens_within.Goals as goal

pub returns : goal.returns
returns c =
    let w = c.args.self.now in
    let l = c.args.bounds.left in
    let r = c.args.bounds.right in
    let k = suc (w.len - r) - l in
    let e : ones (bit_and w.marks c.mask.result) ≡ count (hyphen (headword w)) (positions l r w.len) =
    ap (λ (x : ℕ). ones (bit_and w.marks x)) c.mask.ensures ∙ ones_mask (headword w) k l in
    let n : length (take w.len w.letters) ≡ w.len = length-take-le w.len w.letters (omega (arith, w.full, w.sized.1)) in
    record {
      few = omega (arith, e, count_le (hyphen (headword w)) k l, w.sized.0, c.args.bounds.ranged);
      value = e ∙ ap (λ (x : ℕ). count (hyphen (headword w)) (positions l r x)) (sym n);
    }
