use Rattle.std.proofs.Common.{◌≡◌, ℕ, suc, ◌-◌, ◌^◌, ◌<◌, Bool, not, ◌&&◌, length, take, ap, ◌∙◌, ap₂, arith}
use lib.Bits.{bit_and, and_comm, and_le_l}
use lib.Count.{ones}
use Rattle.words.specs.Counting.{count, numbers}
use Rattle.words.specs.Words.{Headword, hyphen, bits_of}
use Rattle.words.specs.Views.{headword}
use Rattle.words.proofs.Bits.{ones_mask}
use Rattle.patterns.proofs.Cutting.{letters_length}
use Rattle.kinds.specs.Kinds.{given as is_given}
use Rattle.kinds.proofs.Masks.{kept, ones_kept, ones_both, ones_apart, count_apart, count_without}
use Rattle.kinds.proofs.kind.count_kinds.Goals as goal

-- the ones of three masks are the counts of three kinds
masks : (w : Headword) (p : ℕ → Bool) (n a h given : ℕ) → h ≡ bit_and w.1 (bits_of (numbers a n)) → given ≡ kept p a n → h < 2 ^ 64 → given < 2 ^ 64 →
    (ones (bit_and h given) ≡ count (λ i. hyphen w i && p i) (numbers a n))
    × (ones (bit_and given (2 ^ 64 - 1 - h)) ≡ count (λ i. not (hyphen w i) && p i) (numbers a n))
    × (ones (bit_and h (2 ^ 64 - 1 - given)) ≡ count (λ i. hyphen w i && not (p i)) (numbers a n))
unfolding hyphen
masks w p n a h given e f k l =
    let found : ones (bit_and h given) ≡ count (λ i. hyphen w i && p i) (numbers a n) = ap₂ (λ (x y : ℕ). ones (bit_and x y)) e f ∙ ones_both p w.1 n a in
    let turned : ones (bit_and given h) ≡ ones (bit_and h given) = ap ones (and_comm given h) in
    let all : ones given ≡ count p (numbers a n) = ap ones f ∙ ones_kept p n a in
    let hyphens : ones h ≡ count (hyphen w) (numbers a n) = ap ones e ∙ ones_mask w n a in
    let x = ones_apart 64 given h l k in
    let y = ones_apart 64 h given k l in
    let s = count_apart (hyphen w) p n a in
    let t = count_without (hyphen w) p n a in
    (found, omega arith, omega arith)

pub returns : goal.returns
returns g c =
    let b = g.B.ReadingBook.held c.args.book.now in
    let w = c.args.word.now in
    let l = c.args.bounds.left in
    let r = c.args.bounds.right in
    let m = length (take w.len w.letters) in
    let n = suc (m - r) - l in
    let k : suc (w.len - r) - l ≡ n = omega (arith, letters_length w) in
    let h = bit_and w.marks c.mask.result in
    let e : h ≡ bit_and w.marks (bits_of (numbers l n)) = ap (bit_and w.marks) (c.mask.ensures ∙ ap (λ (x : ℕ). bits_of (numbers l x)) k) in
    let o : h < 2 ^ 64 = omega (arith, and_le_l w.marks c.mask.result) in
    let t = masks (headword w) (is_given b (headword w)) n l h c.given_in-given.result e c.given_in-given.ensures o (omega arith) in
    record { found = t.0; wrong = t.1; missed = t.2 }
