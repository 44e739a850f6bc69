-- Why the reading of a line says in the subject's words what the line is: the theorem behind `read_line`.
use Rattle.std.proofs.Common.{◌≡◌, ℕ, zero, suc, ◌+◌, ◌-◌, ◌*◌, ◌/◌, ◌%◌, ◌^◌, ◌<◌, ◌≤◌, Bool, true, false, cond, ltb, leb, ◌⊎◌, List, [], ◌∷◌, ◌++◌, length, Some, None, Option, get_or, take, drop, sym, refl, ap, ◌∙◌, subst, ap₂, inl, inr, ⊎_elim, append-nil, lt_of_lt_of_le, add-zero, pow-suc, add-one, arith, pow_pos, pow_mono, pow-add}
use native.Mathlib.Nat.{add-div_right, add-mul-div_right, div-eq_of_lt, zero-div}
use native.Mathlib.Decide.{le_ind}
use Rattle.std.proofs.lemmas.List.{get_or_append_left, get_or_at, get_or-take, get_or_past, length-take-le, length-append, take-append-drop, take_all}
use Rattle.std.proofs.lemmas.Bool.{cases_lt, cases_Bool, cases_order, ltb-true, ltb-false, leb-true, leb-false, eqb-true, eq-eqb, false≢true, both_ways}
use Rattle.words.specs.declared.line.Kind.{Kind}
use Rattle.words.specs.declared.line.Kind.TheVariants.{Letter, Mark}
use Rattle.text.specs.Refusals.{at_byte}
use Rattle.words.specs.Words.{bit, hyphen, longest}
use Rattle.words.specs.Line.{kind_of, kind_at, symbols_of, is_letter, bit_of, letters_to, marks_to, after_letter, fault_of, fault_at, First, none, fault, first_of, or_else, first_to, reading, reading_by}
use Rattle.words.specs.Grammar.{LetterAt, MarkAt, HyphenAt, BetweenLetters, Formed, WordLine, WordOf, Hopeful, Spent, Cause, no_letter, loose_mark, too_long, FaultAt, Judged}
use Rattle.words.proofs.Reading.{after_more, inverse, fault_zero, ends, sound, slack}

-- ---- the bytes of a front without fault

clean_each : (bs : List ℕ) (i j : ℕ) → j < i → first_to bs i ≡ none → fault_at bs j ≡ 0
unfolding first_to
clean_each bs zero j h e = absurd (omega arith)
clean_each bs (suc i) j h e =
    let p = inverse (first_to bs i) (fault_at bs i) i e in
    ⊎_elim (λ (l : j < i). clean_each bs i j l p.0)
    (λ (l : i ≤ j). let q : i ≡ j = omega arith in subst (λ (x : ℕ). fault_at bs x ≡ 0) q p.1)
    (cases_lt j i)

abbrev FineKind : Option Kind → Bool → Bool → ℕ → Type 0
FineKind k after last n = ((is_letter k ≡ true) × (n < longest)) ⊎ (((h : Bool) × (k ≡ Some (Mark h))) × (after ≡ true) × (last ≡ false))

no_excess : (b : Bool) → ◌≡◌ {A = ℕ} (cond b 0 8) 0 → b ≡ true
no_excess true z = refl
no_excess false z = absurd (omega (arith, z))

fine : (k : Option Kind) (after last : Bool) (n : ℕ) → fault_of k after last n ≡ 0 → FineKind k after last n
fine (Some (Letter s)) after last n z = inl (refl, ltb-true n longest (no_excess (ltb n longest) z))
fine (Some (Mark h)) true true n z = absurd (omega (arith, z))
fine (Some (Mark h)) true false n z = inr ((h, refl), refl, refl)
fine (Some (Mark h)) false last n z = absurd (omega (arith, z))
fine None after last n z = absurd (omega (arith, z))

-- a byte without fault is a letter, or a mark after a letter that does not end the line
fine_at : (bs : List ℕ) (i : ℕ) → fault_at bs i ≡ 0 → LetterAt bs i ⊎ (MarkAt bs i × (after_letter bs i ≡ true) × (i + 1 < length bs))
fine_at bs i z =
    ⊎_elim (λ p. inl p.0) (λ p. inr (p.0, p.1, leb-false (length bs) (i + 1) p.2))
    (fine (kind_at bs i) (after_letter bs i) (leb (length bs) (i + 1)) (length (letters_to bs i)) (fault_zero bs i z))

before_letter : (bs : List ℕ) (i : ℕ) → after_letter bs i ≡ true → (1 ≤ i) × LetterAt bs (i - 1)
unfolding after_letter
before_letter bs zero e = absurd (false≢true e)
before_letter bs (suc i) e = let q : i ≡ suc i - 1 = omega arith in (omega arith, subst (λ (x : ℕ). LetterAt bs x) q e)

letter_before : (bs : List ℕ) (i : ℕ) → 1 ≤ i → LetterAt bs (i - 1) → after_letter bs i ≡ true
unfolding after_letter
letter_before bs zero h e = absurd (omega arith)
letter_before bs (suc i) h e = let q : suc i - 1 ≡ i = omega arith in subst (λ (x : ℕ). LetterAt bs x) q e

after_mark : (bs : List ℕ) (i : ℕ) → MarkAt bs i → after_letter bs (i + 1) ≡ false
after_mark bs i m = after_more bs i ∙ ap is_letter m.1

-- ---- the letters of a front

letter_one : (k : Option Kind) → is_letter k ≡ true → length (symbols_of k) ≡ 1
letter_one (Some (Letter s)) e = refl
letter_one (Some (Mark h)) e = absurd (false≢true e)
letter_one None e = absurd (false≢true e)

none_yet : (bs : List ℕ) → length (letters_to bs zero) ≡ 0
unfolding letters_to
none_yet bs = refl

letters_step : (bs : List ℕ) (i : ℕ) → length (letters_to bs (suc i)) ≡ length (letters_to bs i) + length (symbols_of (kind_at bs i))
unfolding letters_to
letters_step bs i = length-append (letters_to bs i) (symbols_of (kind_at bs i))

letters_grow : (bs : List ℕ) (i n : ℕ) → i ≤ n → length (letters_to bs i) ≤ length (letters_to bs n)
letters_grow bs i n h = le_ind (λ (m : ℕ). length (letters_to bs i) ≤ length (letters_to bs m)) (omega arith) (λ m _ q. omega (arith, letters_step bs m)) n h

same_letters : (xs ys : List ℕ) (n : ℕ) → ((j : ℕ) → j < n → get_or xs j 0 ≡ get_or ys j 0) → letters_to xs n ≡ letters_to ys n
unfolding letters_to
same_letters xs ys zero f = refl
same_letters xs ys (suc n) f = ap₂ (λ (a : List ℕ) (b : ℕ). a ++ symbols_of (kind_of b)) (same_letters xs ys n (λ j h. f j (omega arith))) (f n (omega arith))

few_more : (k : Option Kind) (after last : Bool) (n : ℕ) → fault_of k after last n ≡ 0 → n ≤ longest → n + length (symbols_of k) ≤ longest
few_more (Some (Letter s)) after last n z h = omega (arith, ltb-true n longest (no_excess (ltb n longest) z))
few_more (Some (Mark b)) after last n z h = omega arith
few_more None after last n z h = omega arith

few_clean : (bs : List ℕ) (i : ℕ) → first_to bs i ≡ none → length (letters_to bs i) ≤ longest
unfolding first_to
few_clean bs zero e = omega (arith, none_yet bs)
few_clean bs (suc i) e =
    let p = inverse (first_to bs i) (fault_at bs i) i e in
    omega (arith, letters_step bs i, few_more (kind_at bs i) (after_letter bs i) (leb (length bs) (i + 1)) (length (letters_to bs i)) (fault_zero bs i p.1) (few_clean bs i p.0))

-- ---- a front that goes on otherwise

letter_as : (xs ys : List ℕ) (j : ℕ) → get_or xs j 0 ≡ get_or ys j 0 → LetterAt ys j → LetterAt xs j
letter_as xs ys j e l = ap (λ (b : ℕ). is_letter (kind_of b)) e ∙ l

module _ (line rest : List ℕ) (i : ℕ) (h : i ≤ length line) where
  at_front : (j : ℕ) → j < i → get_or (take i line ++ rest) j 0 ≡ get_or line j 0
  at_front j l = get_or_append_left (take i line) rest 0 j (omega (arith, length-take-le i line h)) ∙ get_or-take i line j 0 l

  long : length (take i line ++ rest) ≡ i + length rest
  long = length-append (take i line) rest ∙ ap (λ (x : ℕ). x + length rest) (length-take-le i line h)

  front_letters : letters_to (take i line ++ rest) i ≡ letters_to line i
  front_letters = same_letters (take i line ++ rest) line i at_front

  -- after a front without fault: letters, of which there is one where the front ends in a mark or is empty
  module _ (e : first_to line i ≡ none) (tail : (k : ℕ) → k < length rest → LetterAt (take i line ++ rest) (i + k)) (meets : after_letter line i ≡ false → 0 < length rest) where
    next_letter : (j : ℕ) → j < i → MarkAt line j → LetterAt (take i line ++ rest) (j + 1)
    next_letter j p m =
        ⊎_elim
        (λ (q : j + 1 < i). letter_as (take i line ++ rest) line (j + 1) (at_front (j + 1) q)
        (⊎_elim (λ l. l) (λ n. absurd (both_ways (after_letter line (j + 1)) (after_mark line j m) n.1)) (fine_at line (j + 1) (clean_each line i (j + 1) q e))))
        (λ (q : i ≤ j + 1).
        let s : i ≡ j + 1 = omega arith in
        let t : i + 0 ≡ j + 1 = omega arith in
        subst (λ (x : ℕ). LetterAt (take i line ++ rest) x) t (tail 0 (meets (ap (after_letter line) s ∙ after_mark line j m))))
        (cases_lt (j + 1) i)

    each_front : (j : ℕ) → j < i → LetterAt (take i line ++ rest) j ⊎ (MarkAt (take i line ++ rest) j × BetweenLetters (take i line ++ rest) j)
    each_front j p =
        ⊎_elim
        (λ l. inl (letter_as (take i line ++ rest) line j (at_front j p) l))
        (λ n.
        let b = before_letter line j n.1 in
        inr ((n.0.0, ap kind_of (at_front j p) ∙ n.0.1), (b.0, letter_as (take i line ++ rest) line (j - 1) (at_front (j - 1) (omega arith)) b.1, next_letter j p n.0)))
        (fine_at line j (clean_each line i j p e))

    front_formed : 1 ≤ i + length rest → Formed (take i line ++ rest)
    front_formed s =
        record {
          some = omega (arith, long);
          each = λ j l. ⊎_elim (each_front j)
              (λ (p : i ≤ j).
              let t : i + (j - i) ≡ j = omega arith in
              inl (subst (λ (x : ℕ). LetterAt (take i line ++ rest) x) t (tail (j - i) (omega (arith, long)))))
              (cases_lt j i);
        }

-- ---- what comes before a fault could still become a word line, unless a mark follows the last letter allowed

ends_well : (line : List ℕ) (i : ℕ) → i ≤ length line → first_to line i ≡ none → after_letter line i ≡ true → WordLine (take i line ++ [])
ends_well line i h e a =
    let b = before_letter line i a in
    let n : length (take i line ++ []) ≡ i = long line [] i h ∙ add-zero i in
    record {
      formed = front_formed line [] i h e (λ k l. absurd (omega arith)) (λ f. absurd (both_ways (after_letter line i) f a)) (omega arith);
      few = omega (arith, ap length (ap (letters_to (take i line ++ [])) n ∙ front_letters line [] i h), few_clean line i e);
    }

goes_on : (line : List ℕ) (i : ℕ) → i ≤ length line → first_to line i ≡ none → length (letters_to line i) < longest → WordLine (take i line ++ 97 ∷ [])
goes_on line i h e l =
    let xs = take i line ++ 97 ∷ [] in
    let n : length xs ≡ suc i = long line (97 ∷ []) i h ∙ add-one i in
    let s : get_or xs i 0 ≡ 97 = get_or_at (take i line) 97 [] 0 i (length-take-le i line h) in
    let a : LetterAt xs i = ap (λ (b : ℕ). is_letter (kind_of b)) s in
    record {
      formed = front_formed line (97 ∷ []) i h e (λ k q. let t : i ≡ i + k = omega arith in subst (λ (x : ℕ). LetterAt xs x) t a) (λ _. omega arith) (omega arith);
      few = omega (arith, ap (λ (x : ℕ). length (letters_to xs x)) n, letters_step xs i, letter_one (kind_at xs i) a, ap length (front_letters line (97 ∷ []) i h));
    }

spent : (line : List ℕ) (i : ℕ) → first_to line i ≡ none → after_letter line i ≡ false → longest ≤ length (letters_to line i) → Spent line i
spent line zero e a l = absurd (omega (arith, none_yet line))
spent line (suc j) e a l =
    let q : j ≡ suc j - 1 = omega arith in
    let b : after_letter line (suc j) ≡ is_letter (kind_at line j) = ap (after_letter line) (sym (add-one j)) ∙ after_more line j in
    record {
      some = omega arith;
      mark = subst (λ (x : ℕ). MarkAt line x) q
          (⊎_elim (λ (p : LetterAt line j). absurd (false≢true (sym a ∙ b ∙ p))) (λ p. p.0) (fine_at line j (clean_each line (suc j) j (omega arith) e)));
      all = omega (arith, few_clean line (suc j) e);
    }

hopeful : (line : List ℕ) (i : ℕ) → i ≤ length line → first_to line i ≡ none → Hopeful (take i line) ⊎ Spent line i
hopeful line i h e =
    ⊎_elim (λ (a : after_letter line i ≡ true). inl ([], ends_well line i h e a))
    (λ (a : after_letter line i ≡ false). ⊎_elim
    (λ (l : length (letters_to line i) < longest). inl (97 ∷ [], goes_on line i h e l))
    (λ (l : longest ≤ length (letters_to line i)). inr (spent line i e a l))
    (cases_lt (length (letters_to line i)) longest))
    (cases_Bool (after_letter line i))

-- ---- with the offending byte it no longer can

module _ (line : List ℕ) (i : ℕ) (h : i < length line) where
  up : i + 1 ≤ length line
  up = omega arith

  same_byte : (rest : List ℕ) (j : ℕ) → j ≤ i → get_or (take (i + 1) line ++ rest) j 0 ≡ get_or line j 0
  same_byte rest j l = at_front line rest (i + 1) up j (omega arith)

  byte_there : (rest : List ℕ) → i < length (take (i + 1) line ++ rest)
  byte_there rest = omega (arith, long line rest (i + 1) up)

  no_other : kind_at line i ≡ None → Hopeful (take (i + 1) line) → ⊥
  no_other k q =
      let e : kind_at (take (i + 1) line ++ q.0) i ≡ None = ap kind_of (same_byte q.0 i (omega arith)) ∙ k in
      ⊎_elim
      (λ (l : LetterAt (take (i + 1) line ++ q.0) i). false≢true (sym (ap is_letter e) ∙ l))
      (λ m. let w = m.0.1 in let z : ◌≡◌ {A = ℕ} 0 1 = cc in omega arith)
      (q.1.formed.each i (byte_there q.0))

  no_mark : MarkAt line i → after_letter line i ≡ false → Hopeful (take (i + 1) line) → ⊥
  no_mark k a q =
      let xs = take (i + 1) line ++ q.0 in
      let e : kind_at xs i ≡ Some (Mark k.0) = ap kind_of (same_byte q.0 i (omega arith)) ∙ k.1 in
      ⊎_elim
      (λ (l : LetterAt xs i). false≢true (sym (ap is_letter e) ∙ l))
      (λ m. both_ways (after_letter line i) a (letter_before line i m.1.0 (letter_as line xs (i - 1) (sym (same_byte q.0 (i - 1) (omega arith))) m.1.1)))
      (q.1.formed.each i (byte_there q.0))

  no_letter_lem : LetterAt line i → longest ≤ length (letters_to line i) → Hopeful (take (i + 1) line) → ⊥
  no_letter_lem l n q =
      let xs = take (i + 1) line ++ q.0 in
      let e : length (letters_to xs (i + 1)) ≡ length (letters_to line i) + 1 =
      ap length (front_letters line q.0 (i + 1) up ∙ ap (letters_to line) (add-one i)) ∙ letters_step line i ∙ ap (λ (x : ℕ). length (letters_to line i) + x) (letter_one (kind_at line i) l) in
      omega (arith, e, letters_grow xs (i + 1) (length xs) (omega (arith, byte_there q.0)), q.1.few)

-- ---- why a byte offends

abbrev Explained : List ℕ → ℕ → ℕ → Type 0
Explained line i k = Cause line i k × ((Hopeful (take (i + 1) line) → ⊥) ⊎ (MarkAt line i × (i + 1 ≡ length line)))

excess : (b : Bool) (k : ℕ) → 1 ≤ k → cond b 0 8 ≡ k → (b ≡ false) × (k ≡ 8)
excess true k h e = absurd (omega (arith, e))
excess false k h e = (refl, sym e)

loose : (after last : Bool) (k : ℕ) → 1 ≤ k → cond after (cond last 7 0) 7 ≡ k → (k ≡ 7) × ((after ≡ false) ⊎ (last ≡ true))
loose true true k h e = (sym e, inr refl)
loose true false k h e = absurd (omega (arith, e))
loose false last k h e = (sym e, inl refl)

explained : (line : List ℕ) (i k : ℕ) → i < length line → length (letters_to line i) ≤ longest → 1 ≤ k → (K : Option Kind) → kind_at line i ≡ K →
    fault_of K (after_letter line i) (leb (length line) (i + 1)) (length (letters_to line i)) ≡ k → Explained line i k
explained line i k h few s (Some (Letter c)) e f =
    let p = excess (ltb (length (letters_to line i)) longest) k s f in
    let l : LetterAt line i = ap is_letter e in
    let n : longest ≤ length (letters_to line i) = ltb-false (length (letters_to line i)) longest p.0 in
    let w : length (letters_to line i) ≡ longest = omega arith in
    (subst (λ (x : ℕ). Cause line i x) (sym p.1) (too_long l w), inl (no_letter_lem line i h l n))
explained line i k h few s (Some (Mark b)) e f =
    let p = loose (after_letter line i) (leb (length line) (i + 1)) k s f in (
      subst (λ (x : ℕ). Cause line i x) (sym p.0) (loose_mark (b, e)),
      ⊎_elim (λ a. inl (no_mark line i h (b, e) a)) (λ t. let q = leb-true (length line) (i + 1) t in inr ((b, e), omega arith)) p.1,
    )
explained line i k h few s None e f = (subst (λ (x : ℕ). Cause line i x) f (no_letter e), inl (no_other line i h e))

explain : (line : List ℕ) (i k : ℕ) → i < length line → length (letters_to line i) ≤ longest → 1 ≤ k → fault_at line i ≡ k → Explained line i k
unfolding fault_at
explain line i k h few s f = explained line i k h few s (kind_at line i) refl f

-- a line with an offending byte is no word line
refuses : (line : List ℕ) (i : ℕ) → (Hopeful (take (i + 1) line) → ⊥) ⊎ (MarkAt line i × (i + 1 ≡ length line)) → WordLine line → ⊥
refuses line i (inl never) w = never (drop (i + 1) line, subst WordLine (sym (take-append-drop (i + 1) line)) w)
refuses line i (inr m) w =
    ⊎_elim
    (λ (l : LetterAt line i). false≢true (sym (ap is_letter m.0.1) ∙ l))
    (λ p. false≢true (sym (ap (λ (b : ℕ). is_letter (kind_of b)) (get_or_past line (i + 1) 0 (omega (arith, m.1)))) ∙ p.1.2))
    (w.formed.each i (omega (arith, m.1)))

-- ---- the first fault

pub record FirstAt (bs : List ℕ) (n k c : ℕ) : Type 0 where
  pub at : ℕ
  pub inside : at < n
  pub column : c ≡ at + 1
  pub clean : first_to bs at ≡ none
  pub here : fault_at bs at ≡ k
  pub some : 1 ≤ k

first_here : (bs : List ℕ) (n k c : ℕ) → first_to bs n ≡ none → (m : ℕ) → fault_at bs n ≡ m → first_of m n ≡ fault k c → FirstAt bs (suc n) k c
first_here bs n k c e zero f g = let z : ◌≡◌ {A = ℕ} 0 1 = cc in absurd (omega arith)
first_here bs n k c e (suc m) f g =
    let p : suc m ≡ k = cc in
    let q : suc n ≡ c = cc in
    record { at = n; inside = omega arith; column = omega arith; clean = e; here = f ∙ p; some = omega arith }

first_before : (bs : List ℕ) (n k c : ℕ) → FirstAt bs n k c → FirstAt bs (suc n) k c
first_before bs n k c p = record { at = p.at; inside = omega (arith, p.inside); column = p.column; clean = p.clean; here = p.here; some = p.some }

first_at : (bs : List ℕ) (n k c : ℕ) → first_to bs n ≡ fault k c → FirstAt bs n k c
unfolding first_to
first_at bs zero k c e = let z : ◌≡◌ {A = ℕ} 0 1 = cc in absurd (omega arith)
first_at bs (suc n) k c e = go (first_at bs n k c) (first_to bs n) refl e where
  go : (first_to bs n ≡ fault k c → FirstAt bs n k c) → (f : First) → first_to bs n ≡ f → or_else f (first_of (fault_at bs n) n) ≡ fault k c → FirstAt bs (suc n) k c
  go before none p q = first_here bs n k c p (fault_at bs n) refl q
  go before (fault k' c') p q = first_before bs n k c (before (p ∙ q))

fault_at_lem : (number : ℕ) (line : List ℕ) (k c : ℕ) → FirstAt line (length line) k c → (i : ℕ) × (n : ℕ) × FaultAt number line (at_byte k number c) i n
fault_at_lem number line k c p =
    let i = p.at in
    let x = explain line i k p.inside (few_clean line i p.clean) p.some p.here in
    let h : i ≤ length line = omega (arith, p.inside) in (
      i,
      k,
      record {
        says = ap (at_byte k number) p.column;
        inside = p.inside;
        cause = x.0;
        before = hopeful line i h p.clean;
        after = x.1;
        refuses = refuses line i x.1;
      },
    )

-- ---- the bits of the marks are the hyphens of the line

bit_none : (m n p : ℕ) → m < 2 ^ n → n ≤ p → bit m p ≡ 0
bit_none m n p h l = ap (λ (x : ℕ). x % 2) (div-eq_of_lt (lt_of_lt_of_le h (pow_mono l)))

bit_own : (m n : ℕ) → m < 2 ^ n → bit (m + 2 ^ n) n ≡ 1
bit_own m n h = ap (λ (x : ℕ). x % 2) (add-div_right m (pow_pos n) ∙ ap (λ (x : ℕ). x + 1) (div-eq_of_lt h))

pow_double : (n : ℕ) → 1 ≤ n → (q : ℕ) × (2 ^ n ≡ 2 * q)
pow_double zero h = absurd (omega arith)
pow_double (suc n) h = (2 ^ n, omega (arith, pow-suc 2 n))

bit_below : (m n p : ℕ) → p < n → bit (m + 2 ^ n) p ≡ bit m p
bit_below m n p h =
    let s : n - p + p ≡ n = omega arith in
    let e : 2 ^ n ≡ 2 ^ (n - p) * 2 ^ p = ap (λ (x : ℕ). 2 ^ x) (sym s) ∙ pow-add 2 (n - p) p in
    let q = pow_double (n - p) (omega arith) in
    ap (λ (x : ℕ). (m + x) / 2 ^ p % 2) e ∙ ap (λ (x : ℕ). x % 2) (add-mul-div_right m (2 ^ (n - p)) (pow_pos p)) ∙ omega (arith, q.1)

bit_above : (m n p : ℕ) → m < 2 ^ n → n < p → bit (m + 2 ^ n) p ≡ 0
bit_above m n p h l = bit_none (m + 2 ^ n) (n + 1) p (omega (arith, pow-add 2 n 1)) (omega arith)

-- one byte more of a line without fault: a hyphen after n letters adds bit n, where all marks were below
marks_low : (bs : List ℕ) (i : ℕ) → first_to bs i ≡ none → fault_at bs i ≡ 0 → (h : Bool) → kind_at bs i ≡ Some (Mark h) → marks_to bs i < 2 ^ length (letters_to bs i)
marks_low bs i e z h k =
    let a : after_letter bs i ≡ true =
    ⊎_elim (λ (l : LetterAt bs i). absurd (false≢true (sym (ap is_letter k) ∙ l))) (λ m. m.1) (fine_at bs i z) in
    subst (λ (x : ℕ). marks_to bs i < 2 ^ x) (ap (λ (b : Bool). length (letters_to bs i) + slack b) a ∙ add-zero (length (letters_to bs i))) (sound bs i e).low

abbrev Source : List ℕ → ℕ → ℕ → Type 0
Source bs i p = (j : ℕ) × (j < i) × HyphenAt bs j × (length (letters_to bs j) ≡ p)

later : (bs : List ℕ) (i p : ℕ) → Source bs i p → Source bs (suc i) p
later bs i p s = (s.0, omega (arith, s.1), s.2, s.3)

marks_step : (bs : List ℕ) (i p : ℕ) → (K : Option Kind) → kind_at bs i ≡ K → ((h : Bool) → K ≡ Some (Mark h) → marks_to bs i < 2 ^ length (letters_to bs i)) →
    bit (marks_to bs i + bit_of K (length (letters_to bs i))) p ≡ 1 → (bit (marks_to bs i) p ≡ 1) ⊎ Source bs (suc i) p
marks_step bs i p (Some (Letter s)) k low b = inl (subst (λ (x : ℕ). bit x p ≡ 1) (add-zero (marks_to bs i)) b)
marks_step bs i p None k low b = inl (subst (λ (x : ℕ). bit x p ≡ 1) (add-zero (marks_to bs i)) b)
marks_step bs i p (Some (Mark false)) k low b = inl (subst (λ (x : ℕ). bit x p ≡ 1) (add-zero (marks_to bs i)) b)
marks_step bs i p (Some (Mark true)) k low b =
    let n = length (letters_to bs i) in
    ⊎_elim
    (λ (e : p ≡ n). inr (i, omega arith, k, sym e))
    (⊎_elim
    (λ (l : p < n). inl (sym (bit_below (marks_to bs i) n p l) ∙ b))
    (λ (l : n < p). absurd (omega (arith, b, bit_above (marks_to bs i) n p (low true refl) l))))
    (cases_order p n)

marks_from : (bs : List ℕ) (i p : ℕ) → first_to bs i ≡ none → bit (marks_to bs i) p ≡ 1 → Source bs i p
unfolding first_to marks_to
marks_from bs zero p e b = absurd (omega (arith, b, zero-div (2 ^ p)))
marks_from bs (suc i) p e b =
    let q = inverse (first_to bs i) (fault_at bs i) i e in
    ⊎_elim (λ c. later bs i p (marks_from bs i p q.0 c)) (λ s. s)
    (marks_step bs i p (kind_at bs i) refl (λ h k. marks_low bs i q.0 q.1 h k) b)

marks_keep : (bs : List ℕ) (i p : ℕ) → (K : Option Kind) → ((h : Bool) → K ≡ Some (Mark h) → marks_to bs i < 2 ^ length (letters_to bs i)) →
    bit (marks_to bs i) p ≡ 1 → bit (marks_to bs i + bit_of K (length (letters_to bs i))) p ≡ 1
marks_keep bs i p (Some (Letter s)) low b = subst (λ (x : ℕ). bit x p ≡ 1) (sym (add-zero (marks_to bs i))) b
marks_keep bs i p None low b = subst (λ (x : ℕ). bit x p ≡ 1) (sym (add-zero (marks_to bs i))) b
marks_keep bs i p (Some (Mark false)) low b = subst (λ (x : ℕ). bit x p ≡ 1) (sym (add-zero (marks_to bs i))) b
marks_keep bs i p (Some (Mark true)) low b =
    let n = length (letters_to bs i) in
    ⊎_elim
    (λ (l : p < n). bit_below (marks_to bs i) n p l ∙ b)
    (λ (l : n ≤ p). absurd (omega (arith, b, bit_none (marks_to bs i) n p (low true refl) l)))
    (cases_lt p n)

marks_into : (bs : List ℕ) (i j : ℕ) → first_to bs i ≡ none → j < i → HyphenAt bs j → bit (marks_to bs i) (length (letters_to bs j)) ≡ 1
unfolding first_to marks_to
marks_into bs zero j e h y = absurd (omega arith)
marks_into bs (suc i) j e h y =
    let q = inverse (first_to bs i) (fault_at bs i) i e in
    ⊎_elim
    (λ (l : j < i). marks_keep bs i (length (letters_to bs j)) (kind_at bs i) (λ b k. marks_low bs i q.0 q.1 b k) (marks_into bs i j q.0 l y))
    (λ (l : i ≤ j).
    let s : j ≡ i = omega arith in
    let k : kind_at bs i ≡ Some (Mark true) = subst (λ (x : ℕ). HyphenAt bs x) s y in
    let n = length (letters_to bs i) in
    ap (λ (x : ℕ). bit (marks_to bs i + bit_of (kind_at bs i) n) (length (letters_to bs x))) s
    ∙ ap (λ (K : Option Kind). bit (marks_to bs i + bit_of K n) n) k
    ∙ bit_own (marks_to bs i) n (marks_low bs i q.0 q.1 true k))
    (cases_lt j i)

word_of : (line : List ℕ) → first_to line (length line) ≡ none → WordOf line (letters_to line (length line), marks_to line (length line))
unfolding hyphen
word_of line e =
    record {
      letters = refl;
      from = λ p b. marks_from line (length line) p e (eqb-true (bit (marks_to line (length line)) p) 1 b);
      into = λ i l y. eq-eqb (bit (marks_to line (length line)) (length (letters_to line i))) 1 (marks_into line (length line) i e l y);
    }

word_line : (line : List ℕ) → 0 < length line → first_to line (length line) ≡ none → WordLine line
word_line line s e =
    let h : length line ≤ length line = omega arith in
    subst WordLine (append-nil (take (length line) line) ∙ take_all (length line) line h) (ends_well line (length line) h e (ends line (length line) refl s e))

-- ---- the theorem

judged_by : (number : ℕ) (line : List ℕ) → 0 < length line → (f : First) → first_to line (length line) ≡ f → Judged number line (reading_by number f (letters_to line (length line), marks_to line (length line)))
judged_by number line s none e = (word_line line s e, word_of line e)
judged_by number line s (fault k c) e = fault_at_lem number line k c (first_at line (length line) k c e)

pub judged : (number : ℕ) (line : List ℕ) → Judged number line (reading number line)
unfolding reading
judged number [] = refl
judged number (b ∷ bs) = judged_by number (b ∷ bs) (omega arith) (first_to (b ∷ bs) (length (b ∷ bs))) refl
