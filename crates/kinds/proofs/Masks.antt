-- Counting the ones of masked positions counts the positions.
use Rattle.std.proofs.Common.{◌≡◌, ℕ, zero, suc, ◌+◌, ◌-◌, ◌*◌, ◌/◌, ◌%◌, ◌^◌, ◌<◌, ◌≤◌, min, Bool, true, false, cond, not, ◌&&◌, eqb, ◌∷◌, filter, sym, refl, ap, ◌∙◌, subst, ap₂, add-zero, mod-eq_of_lt, mul_assoc, add-mul, add_comm, one-mul, pow-suc, zero-add, zero-mul, mul_right_comm, add-one, arith, pow_pos, shl_exact, shr-shr}
use lib.Count.{ones, ones_step, ones_cat}
use lib.Bits.{bit_and, bit_or, and_step, and_zero_r, and_le_r, and_mod, and_block, and_high, or_shifted_r}
use Rattle.std.proofs.lemmas.Bool.{eqb-true, eqb-false}
use Rattle.words.specs.Counting.{count, one, numbers}
use Rattle.words.specs.Words.{bit, bits_of}
use Rattle.words.proofs.Bits.{bits_numbers}

-- twice a number and a binary digit
double_half : (q r : ℕ) → r < 2 → (q * 2 + r) / 2 ≡ q
double_half q r h = omega arith

double_digit : (q r : ℕ) → r < 2 → (q * 2 + r) % 2 ≡ r
double_digit q r h = omega arith

pub ones_double : (q r : ℕ) → r < 2 → ones (q * 2 + r) ≡ r + ones q
ones_double q r h = ones_step (q * 2 + r) ∙ ap₂ (λ (x y : ℕ). x + ones y) (double_digit q r h) (double_half q r h)

-- ---- the ones of x where y has none, and where it has one

pub ones_apart : (k x y : ℕ) → x < 2 ^ k → y < 2 ^ k → ones (bit_and x (2 ^ k - 1 - y)) + ones (bit_and x y) ≡ ones x
unfolding ones
ones_apart zero x y a b =
    let e : x ≡ 0 = omega arith in
    subst (λ (z : ℕ). ones (bit_and z (2 ^ 0 - 1 - y)) + ones (bit_and z y) ≡ ones z) (sym e) refl
ones_apart (suc k) x y a b =
    let p : 2 ^ suc k ≡ 2 ^ k * 2 = pow-suc 2 k in
    let c : ℕ = 2 ^ suc k - 1 - y in
    let h : c / 2 ≡ 2 ^ k - 1 - y / 2 = omega arith in
    let d : c % 2 ≡ 1 - y % 2 = omega arith in
    let u : ones (bit_and x c) ≡ min (x % 2) (c % 2) + ones (bit_and (x / 2) (c / 2)) = ap ones (and_step x c) ∙ ones_double (bit_and (x / 2) (c / 2)) (min (x % 2) (c % 2)) (omega arith) in
    let v : ones (bit_and x y) ≡ min (x % 2) (y % 2) + ones (bit_and (x / 2) (y / 2)) = ap ones (and_step x y) ∙ ones_double (bit_and (x / 2) (y / 2)) (min (x % 2) (y % 2)) (omega arith) in
    let r = ones_apart k (x / 2) (y / 2) (omega arith) (omega arith) in
    let s = ones_step x in
    let t : ones (bit_and (x / 2) (c / 2)) ≡ ones (bit_and (x / 2) (2 ^ k - 1 - y / 2)) = ap (λ (z : ℕ). ones (bit_and (x / 2) z)) h in
    omega arith

-- ---- the bits of those positions of a run that pass a test

one_lt : (b : Bool) → one b < 2
one_lt true = omega arith
one_lt false = omega arith

min_one : (n : ℕ) (b : Bool) → n < 2 → min n (one b) ≡ one (eqb n 1 && b)
min_one n b h = go (eqb n 1) refl b where
  go : (t : Bool) → eqb n 1 ≡ t → (b : Bool) → min n (one b) ≡ one (t && b)
  go true e true = let q = eqb-true n 1 e in omega arith
  go true e false = omega arith
  go false e b = let q : n ≡ 0 = let z = eqb-false n 1 e in omega arith in omega arith

module _ (g : ℕ → Bool) where
  abbrev pub kept : ℕ → ℕ → ℕ
  kept a n = bits_of (filter g (numbers a n))

  pub kept_more : (a n : ℕ) → kept a (suc n) ≡ one (g a) * 2 ^ a + kept (suc a) n
  kept_more a n = go (g a) where
    go : (b : Bool) → bits_of (cond b (a ∷ filter g (numbers (suc a) n)) (filter g (numbers (suc a) n))) ≡ one b * 2 ^ a + kept (suc a) n
    go true = ap (λ (x : ℕ). x + kept (suc a) n) (sym (one-mul (2 ^ a)))
    go false = sym (ap (λ (x : ℕ). x + kept (suc a) n) (zero-mul (2 ^ a)) ∙ zero-add (kept (suc a) n))

  -- the same, moved down to bit 0
  unfoldable low : ℕ → ℕ → ℕ
  low a zero = 0
  low a (suc n) = low (suc a) n * 2 + one (g a)

  kept_low : (n a : ℕ) → kept a n ≡ low a n * 2 ^ a
  unfolding low
  kept_low zero a = sym (zero-mul (2 ^ a))
  kept_low (suc n) a =
      kept_more a n
      ∙ ap (λ (x : ℕ). one (g a) * 2 ^ a + x) (kept_low n (suc a) ∙ ap (λ (x : ℕ). low (suc a) n * x) (pow-suc 2 a))
      ∙ (let x = add-mul (low (suc a) n * 2) (one (g a)) (2 ^ a) in
      let y = mul_right_comm (low (suc a) n) 2 (2 ^ a) in
      let z = mul_assoc (low (suc a) n) (2 ^ a) 2 in
      omega arith)

  low_lt : (n a : ℕ) → low a n < 2 ^ n
  unfolding low
  low_lt zero a = omega arith
  low_lt (suc n) a = let h = low_lt n (suc a) in let p : 2 ^ suc n ≡ 2 ^ n * 2 = pow-suc 2 n in let o = one_lt (g a) in omega arith

  ones_low : (n a : ℕ) → ones (low a n) ≡ count g (numbers a n)
  unfolding low ones
  ones_low zero a = refl
  ones_low (suc n) a = ones_double (low (suc a) n) (one (g a)) (one_lt (g a)) ∙ ap (λ (x : ℕ). one (g a) + x) (ones_low n (suc a))

  and_low : (m n a : ℕ) → ones (bit_and (m / 2 ^ a) (low a n)) ≡ count (λ i. eqb (bit m i) 1 && g i) (numbers a n)
  unfolding low ones
  and_low m zero a = ap ones (and_zero_r (m / 2 ^ a))
  and_low m (suc n) a =
      let q = low (suc a) n in
      let r = one (g a) in
      let f : m / 2 ^ a / 2 ≡ m / 2 ^ suc a = shr-shr m a 1 ∙ ap (λ (x : ℕ). m / 2 ^ x) (add-one a) in
      ap ones (and_step (m / 2 ^ a) (q * 2 + r))
      ∙ ones_double (bit_and (m / 2 ^ a / 2) ((q * 2 + r) / 2)) (min (bit m a) ((q * 2 + r) % 2)) (omega arith)
      ∙ ap₂ (λ (x y : ℕ). min (bit m a) x + ones y) (double_digit q r (one_lt (g a))) (ap₂ bit_and f (double_half q r (one_lt (g a))))
      ∙ ap₂ (λ (x y : ℕ). x + y) (min_one (bit m a) (g a) (omega arith)) (and_low m n (suc a))

  -- ---- the ones of the kept, and of what else is masked by them

  pub ones_kept : (n a : ℕ) → ones (kept a n) ≡ count g (numbers a n)
  unfolding ones
  ones_kept n a =
      ap ones (kept_low n a ∙ sym (add-zero (low a n * 2 ^ a)))
      ∙ ones_cat a (low a n) 0 (pow_pos a)
      ∙ add-zero (ones (low a n))
      ∙ ones_low n a

  -- masked to the run first
  pub ones_both : (m n a : ℕ) → ones (bit_and (bit_and m (bits_of (numbers a n))) (kept a n)) ≡ count (λ i. eqb (bit m i) 1 && g i) (numbers a n)
  unfolding ones
  ones_both m n a =
      let h : ℕ = m / 2 ^ a % 2 ^ n in
      let l : ℕ = low a n in
      let s : l < 2 ^ n = low_lt n a in
      let t : bit_and (m / 2 ^ a) l < 2 ^ n = let x = and_le_r (m / 2 ^ a) l in omega arith in
      ap₂ (λ (x y : ℕ). ones (bit_and x y))
      (ap (bit_and m) (bits_numbers n a ∙ ap (λ (x : ℕ). 2 ^ x - 2 ^ a) (add_comm a n)) ∙ and_high m n a ∙ sym (add-zero (h * 2 ^ a)))
      (kept_low n a ∙ sym (add-zero (l * 2 ^ a)))
      ∙ ap ones (and_block a h l 0 0 (pow_pos a) (pow_pos a))
      ∙ ones_cat a (bit_and h l) 0 (pow_pos a)
      ∙ add-zero (ones (bit_and h l))
      ∙ ap ones (ap (bit_and h) (sym (mod-eq_of_lt s)) ∙ sym (and_mod (m / 2 ^ a) l n) ∙ mod-eq_of_lt t)
      ∙ and_low m n a

-- ---- counts of a run by two tests

pub count_apart : (p g : ℕ → Bool) (n a : ℕ) → count (λ i. p i && g i) (numbers a n) + count (λ i. not (p i) && g i) (numbers a n) ≡ count g (numbers a n)
count_apart p g zero a = refl
count_apart p g (suc n) a =
    let r = count_apart p g n (suc a) in
    let s : one (p a && g a) + one (not (p a) && g a) ≡ one (g a) = go (p a) (g a) in
    omega arith
  where
    go : (x y : Bool) → one (x && y) + one (not x && y) ≡ one y
    go true y = add-zero (one y)
    go false y = zero-add (one y)

pub count_without : (p g : ℕ → Bool) (n a : ℕ) → count (λ i. p i && g i) (numbers a n) + count (λ i. p i && not (g i)) (numbers a n) ≡ count p (numbers a n)
count_without p g zero a = refl
count_without p g (suc n) a =
    let r = count_without p g n (suc a) in
    let s : one (p a && g a) + one (p a && not (g a)) ≡ one (p a) = go (p a) (g a) in
    omega arith
  where
    go : (x y : Bool) → one (x && y) + one (x && not y) ≡ one x
    go true true = refl
    go true false = refl
    go false y = refl

-- ---- the loop that sets a bit for each position that passes

-- the bits below i are set, those from i to e are left
pub record Setting (g : ℕ → Bool) (a e i bits : ℕ) : Type 0 where
  pub below : bits < 2 ^ i
  pub left : bits + kept g i (e - i) ≡ kept g a (e - a)

pub setting_more : (g : ℕ → Bool) (a e i bits v : ℕ) → i < e → i < 63 → v < 2 → one (g i) ≡ v → Setting g a e i bits → Setting g a e (i + 1) (bit_or bits ((v * 2 ^ i) % 2 ^ 64))
setting_more g a e i bits v h k o d s =
    let x : (v * 2 ^ i) % 2 ^ 64 ≡ v * 2 ^ i = shl_exact 1 i 64 o (omega arith) in
    let y : bit_or bits (v * 2 ^ i) ≡ v * 2 ^ i + bits = or_shifted_r v i bits s.below in
    let z : bit_or bits ((v * 2 ^ i) % 2 ^ 64) ≡ v * 2 ^ i + bits = ap (bit_or bits) x ∙ y in
    let p : 2 ^ (i + 1) ≡ 2 ^ i * 2 = ap (λ (n : ℕ). 2 ^ n) (add-one i) ∙ pow-suc 2 i in
    let b = s.below in
    let c = s.left in
    let n : e - i ≡ suc (e - (i + 1)) = omega arith in
    let q : kept g i (e - i) ≡ v * 2 ^ i + kept g (i + 1) (e - (i + 1)) =
    ap (kept g i) n ∙ kept_more g i (e - (i + 1)) ∙ ap₂ (λ (m j : ℕ). m * 2 ^ i + kept g j (e - (i + 1))) d (sym (add-one i)) in
    let m : v * 2 ^ i ≤ 2 ^ i = scaled v (2 ^ i) o in
    record { below = subst (λ (j : ℕ). j < 2 ^ (i + 1)) (sym z) (omega arith); left = ap (λ (j : ℕ). j + kept g (i + 1) (e - (i + 1))) z ∙ (omega arith) }
  where
    scaled : (v n : ℕ) → v < 2 → v * n ≤ n
    scaled zero n l = omega (arith, zero-mul n)
    scaled (suc zero) n l = omega (arith, one-mul n)
    scaled (suc (suc v)) n l = absurd (omega arith)
