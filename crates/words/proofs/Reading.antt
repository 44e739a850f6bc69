-- The reader's loop: what holds after i bytes, what a byte of each kind does, and what the whole line comes to.
use Rattle.std.proofs.Common.{◌≡◌, ℕ, zero, suc, ◌+◌, ◌-◌, ◌%◌, ◌^◌, ◌<◌, ◌≤◌, Bool, true, false, cond, ◌&&◌, ◌||◌, eqb, leb, List, [], ◌∷◌, ◌++◌, length, Some, None, Option, get_or, take, set, replicate, sym, refl, ap, ◌∙◌, subst, ap₂, subst₂, ⊎_elim, append-nil, add-zero, add_comm, one-mul, pow-suc, add-one, arith, lit<, pow_mono, pow-add}
use mathlib.Core.Path.{subst₃}
use native.Mathlib.Decide.{le_ind}
use lib.Bits.{bit_or, or_shifted_r, or_zero_r}
use Rattle.std.proofs.lemmas.List.{get_or_append_left, get_or-append_right, length_push, get_or_push, length-append, length-replicate, take_at}
use Rattle.std.proofs.lemmas.Bool.{cond_both, cases_lt, leb-true, le-leb, lt-leb, lt-ltb, and_parts, false≢true, cond-true}
use Rattle.words.specs.declared.line.Kind.{Kind}
use Rattle.words.specs.declared.line.Kind.TheVariants.{Letter, Mark}
use Rattle.text.specs.Refusals.{at_byte}
use Rattle.text.proofs.Padding.{zeros, pad_set}
use Rattle.words.specs.Words.{alphabet, longest}
use Rattle.words.specs.Line.{kind_of, kind_at, symbols_of, is_letter, bit_of, letters_to, marks_to, after_letter, fault_of, fault_at, First, none, fault, first_of, or_else, first_to, reading, reading_by, spells, refused}

-- ---- one byte more

pub letters_more : (bs : List ℕ) (i : ℕ) → letters_to bs (i + 1) ≡ letters_to bs i ++ symbols_of (kind_at bs i)
unfolding letters_to
letters_more bs i = ap (letters_to bs) (add-one i)

marks_more : (bs : List ℕ) (i : ℕ) → marks_to bs (i + 1) ≡ marks_to bs i + bit_of (kind_at bs i) (length (letters_to bs i))
unfolding marks_to
marks_more bs i = ap (marks_to bs) (add-one i)

pub after_more : (bs : List ℕ) (i : ℕ) → after_letter bs (i + 1) ≡ is_letter (kind_at bs i)
unfolding after_letter
after_more bs i = ap (after_letter bs) (add-one i)

first_more : (bs : List ℕ) (i : ℕ) → first_to bs i ≡ none → fault_at bs i ≡ 0 → first_to bs (i + 1) ≡ none
unfolding first_to
first_more bs i e z = ap (first_to bs) (add-one i) ∙ ap₂ (λ (f : First) (n : ℕ). or_else f (first_of n i)) e z

-- ---- the first fault stays the first

keeps : (bs : List ℕ) (i k c : ℕ) → first_to bs i ≡ fault k c → first_to bs (suc i) ≡ fault k c
unfolding first_to
keeps bs i k c e = ap (λ (f : First). or_else f (first_of (fault_at bs i) i)) e

stays : (bs : List ℕ) (i k c n : ℕ) → i ≤ n → first_to bs i ≡ fault k c → first_to bs n ≡ fault k c
stays bs i k c n h e = le_ind (λ (m : ℕ). first_to bs m ≡ fault k c) e (λ m _ q. keeps bs m k c q) n h

-- ---- the reading of a line that is not empty

reading_by_lem : (number : ℕ) (bs : List ℕ) (f : First) → 0 < length bs → first_to bs (length bs) ≡ f → reading_by number f (letters_to bs (length bs), marks_to bs (length bs)) ≡ reading number bs
unfolding reading
reading_by_lem number [] f h e = absurd (omega arith)
reading_by_lem number (b ∷ bs) f h e =
    ap (λ (x : First). reading_by number x (letters_to (b ∷ bs) (length (b ∷ bs)), marks_to (b ∷ bs) (length (b ∷ bs)))) (sym e)

pub refused_at : (number : ℕ) (bs : List ℕ) (i k : ℕ) → i < length bs → first_to bs i ≡ none → fault_at bs i ≡ suc k → refused (at_byte (suc k) number (i + 1)) ≡ reading number bs
unfolding first_to
refused_at number bs i k h e z =
    let f : first_to bs (suc i) ≡ fault (suc k) (suc i) = ap₂ (λ (g : First) (n : ℕ). or_else g (first_of n i)) e z in
    let g : first_to bs (length bs) ≡ fault (suc k) (suc i) = stays bs (suc i) (suc k) (suc i) (length bs) h f in
    ap (λ (c : ℕ). refused (at_byte (suc k) number c)) (add-one i) ∙ reading_by_lem number bs (fault (suc k) (suc i)) (omega arith) g

-- ---- what a front without fault spells keeps the rules of a word

-- the bits of the marks lie below the number of letters, or right at it after a mark
abbrev pub slack : Bool → ℕ
slack true = 0
slack false = 1

pub record Sound (xs : List ℕ) (m : ℕ) (after : Bool) : Type 0 where
  pub within : (k : ℕ) → k < length xs → (1 ≤ get_or xs k 0) × (get_or xs k 0 ≤ alphabet)
  pub low : m < 2 ^ (length xs + slack after)
  pub even : m % 2 ≡ 0
  pub some : after ≡ true → 1 ≤ length xs

abbrev Symbol : Option Kind → Type 0
Symbol (Some (Letter s)) = (1 ≤ s) × (s ≤ alphabet)
Symbol (Some (Mark h)) = Unit {0}
Symbol None = Unit {0}

symbol : (b : ℕ) → Symbol (kind_of b)
symbol b =
    cond_both (leb 97 b && leb b 122) _ _ Symbol (λ e. let p = and_parts (leb 97 b) (leb b 122) e in omega (arith, leb-true 97 b p.0, leb-true b 122 p.1))
    (λ _. cond_both (leb 65 b && leb b 90) _ _ Symbol (λ e. let p = and_parts (leb 65 b) (leb b 90) e in omega (arith, leb-true 65 b p.0, leb-true b 90 p.1))
    (λ _. cond_both (eqb b 45 || eqb b 42) _ _ Symbol (λ _. tt) (λ _. cond_both (eqb b 46) _ _ Symbol (λ _. tt) (λ _. tt))))

pow_even : (n : ℕ) → 1 ≤ n → 2 ^ n % 2 ≡ 0
pow_even zero h = omega arith
pow_even (suc n) h = omega (arith, pow-suc 2 n)

slack_le : (a : Bool) → slack a ≤ 1
slack_le true = omega arith
slack_le false = omega arith

-- the bit of a mark: below the next power, and even
bit_low : (h : Bool) (n m : ℕ) → m < 2 ^ n → m + cond h (2 ^ n) 0 < 2 ^ (n + 1)
bit_low true n m l = omega (arith, pow-add 2 n 1)
bit_low false n m l = omega (arith, pow-add 2 n 1)

bit_even : (h : Bool) (n m : ℕ) → 1 ≤ n → m % 2 ≡ 0 → (m + cond h (2 ^ n) 0) % 2 ≡ 0
bit_even true n m l e = omega (arith, pow_even n l)
bit_even false n m l e = omega arith

sound_more : (k : Option Kind) (after last : Bool) (xs : List ℕ) (m : ℕ) → Symbol k → fault_of k after last (length xs) ≡ 0 → Sound xs m after → Sound (xs ++ symbols_of k) (m + bit_of k (length xs)) (is_letter k)
sound_more (Some (Letter s)) after last xs m r z h =
    let n : length (xs ++ s ∷ []) ≡ length xs + 1 = length_push xs s in
    let le : length xs + slack after ≤ length (xs ++ s ∷ []) + 0 = omega (arith, slack_le after) in
    record {
      within = λ k l. ⊎_elim
          (λ (p : k < length xs). rw get_or_append_left (h.within k p))
          (λ (p : length xs ≤ k). let e : length xs ≡ k = omega arith in rw (get_or_push xs s 0 k e) r)
          (cases_lt k (length xs));
      low = omega (arith, h.low, pow_mono le);
      even = omega (arith, h.even);
      some = λ _. omega arith;
    }
sound_more (Some (Mark b)) true true xs m r z h = omega (arith, z)
sound_more (Some (Mark b)) true false xs m r z h =
    let n : 1 ≤ length xs = h.some refl in
    let l : m < 2 ^ length xs = subst (λ (x : ℕ). m < 2 ^ x) (add-zero (length xs)) h.low in
    subst (λ (ys : List ℕ). Sound ys (m + cond b (2 ^ length xs) 0) false) (sym (append-nil xs))
    (record { within = h.within; low = bit_low b (length xs) m l; even = bit_even b (length xs) m n h.even; some = λ e. absurd (false≢true e) })
sound_more (Some (Mark b)) false last xs m r z h = omega (arith, z)
sound_more None after last xs m r z h = omega (arith, z)

pub inverse : (f : First) (k i : ℕ) → or_else f (first_of k i) ≡ none → (f ≡ none) × (k ≡ 0)
inverse none zero i e = (refl, refl)
inverse none (suc k) i e = let z : ◌≡◌ {A = ℕ} 0 1 = cc in absurd (omega arith)
inverse (fault n c) k i e = let z : ◌≡◌ {A = ℕ} 0 1 = cc in absurd (omega arith)

pub fault_zero : (bs : List ℕ) (i : ℕ) → fault_at bs i ≡ 0 → fault_of (kind_at bs i) (after_letter bs i) (leb (length bs) (i + 1)) (length (letters_to bs i)) ≡ 0
unfolding fault_at
fault_zero bs i e = e

pub sound : (bs : List ℕ) (i : ℕ) → first_to bs i ≡ none → Sound (letters_to bs i) (marks_to bs i) (after_letter bs i)
unfolding first_to letters_to marks_to after_letter
sound bs zero e = record { within = λ k l. omega arith; low = lit< tt; even = refl; some = λ a. absurd (false≢true a) }
sound bs (suc i) e =
    let p = inverse (first_to bs i) (fault_at bs i) i e in
    sound_more (kind_at bs i) (after_letter bs i) (leb (length bs) (i + 1)) (letters_to bs i) (marks_to bs i) (symbol (get_or bs i 0)) (fault_zero bs i p.1) (sound bs i p.0)

-- a line without fault ends in a letter
last_letter : (k : Option Kind) (after : Bool) (n : ℕ) → fault_of k after true n ≡ 0 → is_letter k ≡ true
last_letter (Some (Letter s)) after n z = refl
last_letter (Some (Mark h)) true n z = absurd (omega (arith, z))
last_letter (Some (Mark h)) false n z = absurd (omega (arith, z))
last_letter None after n z = absurd (omega (arith, z))

pub ends : (bs : List ℕ) (n : ℕ) → length bs ≡ n → 0 < n → first_to bs n ≡ none → after_letter bs n ≡ true
unfolding first_to after_letter
ends bs zero l h e = absurd (omega arith)
ends bs (suc n) l h e =
    let p = inverse (first_to bs n) (fault_at bs n) n e in
    last_letter (kind_at bs n) (after_letter bs n) (length (letters_to bs n))
    (ap (λ (b : Bool). fault_of (kind_at bs n) (after_letter bs n) b (length (letters_to bs n))) (sym (le-leb (length bs) (n + 1) (omega arith))) ∙ fault_zero bs n p.1)

-- ---- what the loop holds after i bytes

pub record At (bs : List ℕ) (i : ℕ) (letters : List ℕ) (len marks : ℕ) (after : Bool) : Type 0 where
  pub clean : first_to bs i ≡ none
  pub counted : len ≡ length (letters_to bs i)
  pub room : len ≤ longest
  pub filled : letters ≡ letters_to bs i ++ replicate (longest - len) 0
  pub marked : marks ≡ marks_to bs i
  pub follows : after ≡ after_letter bs i

pub at_start : (bs : List ℕ) → At bs 0 (replicate longest 0) 0 0 false
unfolding first_to letters_to marks_to after_letter
at_start bs = record { clean = refl; counted = refl; room = omega arith; filled = refl; marked = refl; follows = refl }

pub fault_is : (bs : List ℕ) (i : ℕ) (k : Option Kind) (a : Bool) → kind_at bs i ≡ k → a ≡ after_letter bs i → fault_at bs i ≡ fault_of k a (leb (length bs) (i + 1)) (length (letters_to bs i))
unfolding fault_at
fault_is bs i k a e f = ap₂ (λ (x : Option Kind) (y : Bool). fault_of x y (leb (length bs) (i + 1)) (length (letters_to bs i))) e (sym f)

or_bit : (h : Bool) (n m : ℕ) → m < 2 ^ n → bit_or m (cond h (2 ^ n) 0) ≡ m + cond h (2 ^ n) 0
or_bit true n m l = ap (bit_or m) (sym (one-mul (2 ^ n))) ∙ or_shifted_r 1 n m l ∙ ap (λ (x : ℕ). x + m) (one-mul (2 ^ n)) ∙ add_comm (2 ^ n) m
or_bit false n m l = or_zero_r m ∙ sym (add-zero m)

module _ (bs : List ℕ) (i : ℕ) (L : List ℕ) (n m : ℕ) (a : Bool) (at : At bs i L n m a) where
  pub turn_letter : (s : ℕ) → kind_at bs i ≡ Some (Letter s) → n < longest → At bs (i + 1) (set L n s) (n + 1) m true
  turn_letter s k h =
      let e : letters_to bs (i + 1) ≡ letters_to bs i ++ s ∷ [] = letters_more bs i ∙ ap (λ (x : Option Kind). letters_to bs i ++ symbols_of x) k in
      let z : fault_at bs i ≡ 0 = fault_is bs i (Some (Letter s)) a k at.follows ∙ cond-true _ 0 8 (lt-ltb _ longest (omega arith)) in
      record {
        clean = first_more bs i at.clean z;
        counted = ap (λ (x : ℕ). x + 1) at.counted ∙ sym (length_push (letters_to bs i) s) ∙ ap length (sym e);
        room = omega arith;
        filled = ap (λ (x : List ℕ). set x n s) at.filled ∙ pad_set longest (letters_to bs i) n s at.counted h ∙ ap (λ (x : List ℕ). x ++ replicate (longest - (n + 1)) 0) (sym e);
        marked = at.marked ∙ sym (marks_more bs i ∙ ap (λ (x : Option Kind). marks_to bs i + bit_of x (length (letters_to bs i))) k ∙ add-zero (marks_to bs i));
        follows = sym (after_more bs i ∙ ap is_letter k);
      }

  pub turn_mark : (h : Bool) → kind_at bs i ≡ Some (Mark h) → a ≡ true → i + 1 < length bs → (bit : ℕ) → bit ≡ cond h (2 ^ n) 0 → At bs (i + 1) L n (bit_or m bit) false
  turn_mark h k t r bit q =
      let e : letters_to bs (i + 1) ≡ letters_to bs i = letters_more bs i ∙ ap (λ (x : Option Kind). letters_to bs i ++ symbols_of x) k ∙ append-nil (letters_to bs i) in
      let l : m < 2 ^ n = subst₂ (λ (x y : ℕ). x < 2 ^ y) (sym at.marked) (ap (λ (x : Bool). length (letters_to bs i) + slack x) (sym at.follows ∙ t) ∙ add-zero (length (letters_to bs i)) ∙ sym at.counted) (sound bs i at.clean).low in
      record {
        clean = first_more bs i at.clean (fault_is bs i (Some (Mark h)) a k at.follows ∙ ap₂ (λ (x y : Bool). cond x (cond y 7 0) 7) t (lt-leb (length bs) (i + 1) r));
        counted = at.counted ∙ ap length (sym e);
        room = at.room;
        filled = at.filled ∙ ap (λ (x : List ℕ). x ++ replicate (longest - n) 0) (sym e);
        marked = ap (bit_or m) q ∙ or_bit h n m l ∙ ap₂ (λ (x y : ℕ). x + cond h (2 ^ y) 0) at.marked at.counted
            ∙ sym (marks_more bs i ∙ ap (λ (x : Option Kind). marks_to bs i + bit_of x (length (letters_to bs i))) k);
        follows = sym (after_more bs i ∙ ap is_letter k);
      }

-- the same at equal values
pub at_same : (bs : List ℕ) (i : ℕ) (L L' : List ℕ) (n n' m m' : ℕ) (a a' : Bool) → L' ≡ L → n' ≡ n → m' ≡ m → a' ≡ a → At bs i L n m a → At bs i L' n' m' a'
at_same bs i L L' n n' m m' a a' e f g h t =
    let p = subst₃ (λ (x : List ℕ) (y z : ℕ). At bs i x y z a) (sym e) (sym f) (sym g) t in subst (λ (b : Bool). At bs i L' n' m' b) (sym h) p

-- ---- the end of the loop: the word's rules, and what the line spells

module _ (bs : List ℕ) (i : ℕ) (L : List ℕ) (n m : ℕ) (a : Bool) (at : At bs i L n m a) (all : i ≡ length bs) (some : 0 < length bs) where
  whole : Sound (letters_to bs i) (marks_to bs i) true
  whole = subst (λ (b : Bool). Sound (letters_to bs i) (marks_to bs i) b) (ends bs i (sym all) (omega arith) at.clean) (sound bs i at.clean)

  pub end_len : 1 ≤ n
  end_len = omega (arith, at.counted, whole.some refl)

  pub end_letters : (k : ℕ) → k < n → (1 ≤ get_or L k 0) × (get_or L k 0 ≤ alphabet)
  end_letters k h =
      let l : k < length (letters_to bs i) = omega (arith, at.counted) in
      let e : get_or L k 0 ≡ get_or (letters_to bs i) k 0 = ap (λ (x : List ℕ). get_or x k 0) at.filled ∙ get_or_append_left (letters_to bs i) (replicate (longest - n) 0) 0 k l in
      rw e (whole.within k l)

  pub end_rest : (k : ℕ) → n ≤ k → get_or L k 0 ≡ 0
  end_rest k h =
      let e : get_or L k 0 ≡ get_or (replicate {A = ℕ} (longest - n) 0) (k - n) 0 = ap (λ (x : List ℕ). get_or x k 0) at.filled ∙ get_or-append_right (letters_to bs i) (replicate (longest - n) 0) n k 0 (sym at.counted) h in
      e ∙ zeros (longest - n) (k - n)

  pub end_low : m < 2 ^ n
  end_low = subst₂ (λ (x y : ℕ). x < 2 ^ y) (sym at.marked) (add-zero (length (letters_to bs i)) ∙ sym at.counted) whole.low

  pub end_even : m % 2 ≡ 0
  end_even = ap (λ (x : ℕ). x % 2) at.marked ∙ whole.even

  pub end_full : length L ≡ longest
  end_full =
      ap length at.filled ∙ length-append (letters_to bs i) (replicate (longest - n) 0) ∙ ap (λ (x : ℕ). length (letters_to bs i) + x) (length-replicate (longest - n) 0)
      ∙ omega (arith, at.counted, at.room)

  pub end_spells : (number : ℕ) → spells (take n L, m) ≡ reading number bs
  end_spells number =
      let e : take n L ≡ letters_to bs (length bs) = ap (take n) at.filled ∙ take_at (letters_to bs i) (replicate (longest - n) 0) n (sym at.counted) ∙ ap (letters_to bs) all in
      let f : m ≡ marks_to bs (length bs) = at.marked ∙ ap (marks_to bs) all in
      ap₂ (λ (x : List ℕ) (y : ℕ). spells (x, y)) e f ∙ reading_by_lem number bs none some (ap (first_to bs) (sym all) ∙ at.clean)
