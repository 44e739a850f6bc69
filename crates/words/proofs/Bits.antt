-- Counting the ones of masked marks counts the positions of the mask that have a hyphen.
use Rattle.std.proofs.Common.{◌≡◌, ℕ, zero, suc, ◌+◌, ◌-◌, ◌*◌, ◌/◌, ◌%◌, ◌^◌, ◌<◌, ◌≤◌, Bool, true, false, eqb, sym, ap, ◌∙◌, ap₂, ⊎_elim, add-zero, add_comm, pow-suc, add-one, arith, pow_pos, shr-shr}
use native.Mathlib.Nat.{mod-one}
use lib.Count.{ones, ones_step, ones_cat}
use lib.Bits.{bit_and, and_high}
use lib.Pow.{field, mod-mod-pow}
use Rattle.std.proofs.lemmas.Bool.{cases_eq, eq-eqb, ne_eqb, cond-true, cond-false}
use Rattle.words.specs.Counting.{count, one, numbers}
use Rattle.words.specs.Words.{Headword, bit, bits_of, hyphen}

-- a binary digit is what the test for 1 counts
pub digit : (n : ℕ) → n < 2 → one (eqb n 1) ≡ n
digit n h =
    ⊎_elim (λ (e : n ≡ 1). cond-true (eqb n 1) 1 0 (eq-eqb n 1 e) ∙ sym e)
    (λ (e : n ≡ 1 → ⊥). let z : n ≡ 0 = omega arith in cond-false (eqb n 1) 1 0 (ne_eqb n 1 e) ∙ sym z)
    (cases_eq n 1)

pub ones_numbers : (w : Headword) (k a : ℕ) → ones (w.1 / 2 ^ a % 2 ^ k) ≡ count (hyphen w) (numbers a k)
unfolding hyphen ones
ones_numbers w zero a = ap ones (mod-one (w.1 / 2 ^ a))
ones_numbers w (suc k) a =
    ap (λ (x : ℕ). ones (w.1 / 2 ^ a % 2 ^ x)) (sym (add-one k))
    ∙ ones_step (w.1 / 2 ^ a % 2 ^ (k + 1))
    ∙ ap₂ (λ (x y : ℕ). x + ones y) (mod-mod-pow (w.1 / 2 ^ a) k 1 ∙ sym (digit (bit w.1 a) (omega arith)))
    (field (w.1 / 2 ^ a) k 1 ∙ ap (λ (x : ℕ). x % 2 ^ k) (shr-shr w.1 a 1 ∙ ap (λ (x : ℕ). w.1 / 2 ^ x) (add-one a)))
    ∙ ap (λ (x : ℕ). one (eqb (bit w.1 a) 1) + x) (ones_numbers w k (suc a))

ones_high : (w : Headword) (j k : ℕ) → ones (bit_and w.1 (2 ^ (k + j) - 2 ^ k)) ≡ count (hyphen w) (numbers k j)
unfolding ones
ones_high w j k =
    ap (λ (x : ℕ). ones (bit_and w.1 (2 ^ x - 2 ^ k))) (add_comm k j)
    ∙ ap ones (and_high w.1 j k ∙ sym (add-zero (w.1 / 2 ^ k % 2 ^ j * 2 ^ k)))
    ∙ ones_cat k (w.1 / 2 ^ k % 2 ^ j) 0 (pow_pos k)
    ∙ add-zero (ones (w.1 / 2 ^ k % 2 ^ j))
    ∙ ones_numbers w j k

-- neighbouring positions as bits
powers : (k a : ℕ) → bits_of (numbers a k) + 2 ^ a ≡ 2 ^ (a + k)
powers zero a = omega (arith, ap (λ (x : ℕ). 2 ^ x) (add-zero a))
powers (suc k) a =
    let e : suc a + k ≡ a + suc k = omega arith in
    omega (arith, powers k (suc a), pow-suc 2 a, ap (λ (x : ℕ). 2 ^ x) e)

pub bits_numbers : (k a : ℕ) → bits_of (numbers a k) ≡ 2 ^ (a + k) - 2 ^ a
bits_numbers k a = omega (arith, powers k a)

pub ones_mask : (w : Headword) (j k : ℕ) → ones (bit_and w.1 (bits_of (numbers k j))) ≡ count (hyphen w) (numbers k j)
ones_mask w j k = ap (λ (x : ℕ). ones (bit_and w.1 x)) (bits_numbers j k) ∙ ones_high w j k

one_le : (b : Bool) → one b ≤ 1
one_le true = omega arith
one_le false = omega arith

pub count_le : (p : ℕ → Bool) (n a : ℕ) → count p (numbers a n) ≤ n
count_le p zero a = omega arith
count_le p (suc n) a = omega (arith, one_le (p a), count_le p n (suc a))
