-- Reading a text byte by byte: what a front without fault spells, and what the reader's loop holds.
use Rattle.std.proofs.Common.{◌≡◌, ℕ, zero, suc, ◌+◌, ◌-◌, ◌<◌, ◌≤◌, Bool, true, false, cond, ◌&&◌, ◌||◌, eqb, ltb, leb, ◌≢◌, List, [], ◌∷◌, ◌++◌, length, get_or, take, set, replicate, sym, refl, ap, ◌∙◌, subst, ap₂, subst₂, ⊎_elim, append-nil, add-one, arith, Some, None, Option}
use native.Mathlib.Decide.{le_ind}
use Rattle.std.proofs.lemmas.List.{get_or_append_left, get_or_past, length_push, length-set, get_or-set_same, get_or-set_other, take_at, nil_from_length}
use Rattle.std.proofs.lemmas.Bool.{cond_both, cases_lt, cases_eq, leb-true, leb-false, eqb-true, eqb-false, and_parts, or_parts, and_cases, lt-ltb, le-ltb, false≢true, true≢false, ltb-false}
use Rattle.std.specs.List.{list_any}
use Rattle.text.specs.Refusals.{at_byte}
use Rattle.text.proofs.Padding.{zeros, pad_set, pad_get}
use Rattle.words.specs.Words.{alphabet}
use Rattle.patterns.specs.Spellings.{longest, places, highest, any_above_zero}
use Rattle.patterns.specs.declared.reading.Piece.{Piece}
use Rattle.patterns.specs.declared.reading.Piece.TheVariants.{Symbol, Digit}
use Rattle.patterns.specs.Texts.{digit, byte_of, piece_of, piece_at, symbol_in, with_value, is_digit, symbols_to, values_to, after_digit, shut, offends, offends_at, or_else, first_to, spells, refused, reading_by, lacking, reading}

-- ---- some number above 0

pub any_zero : (x : ℕ) (xs : List ℕ) → x ≡ 0 → any_above_zero (x ∷ xs) ≡ any_above_zero xs
any_zero zero xs e = refl
any_zero (suc x) xs e = absurd (omega arith)

pub any_here : (x : ℕ) (xs : List ℕ) → 0 < x → any_above_zero (x ∷ xs) ≡ true
any_here zero xs h = absurd (omega arith)
any_here (suc x) xs h = refl

-- the same, as a chain over the numbers finds it
pub any_tests : (xs : List ℕ) → list_any (λ n. ltb 0 n) xs ≡ any_above_zero xs
any_tests [] = refl
any_tests (zero ∷ xs) = any_tests xs
any_tests (suc x ∷ xs) = ap (λ (b : Bool). b || list_any (λ n. ltb 0 n) xs) (lt-ltb 0 (suc x) (omega arith))

any_zeros : (n : ℕ) → any_above_zero (replicate n 0) ≡ false
any_zeros zero = refl
any_zeros (suc n) = any_zeros n

pub any_pad : (xs : List ℕ) (n : ℕ) → any_above_zero (xs ++ replicate n 0) ≡ any_above_zero xs
any_pad [] n = any_zeros n
any_pad (zero ∷ xs) n = any_pad xs n
any_pad (suc x ∷ xs) n = refl

-- zeros behind do not matter
pub above_front : (m : ℕ) (xs : List ℕ) → ((k : ℕ) → m ≤ k → get_or xs k 0 ≡ 0) → any_above_zero xs ≡ any_above_zero (take m xs)
above_front zero [] z = refl
above_front zero (zero ∷ xs) z = above_front zero xs (λ k _. z (suc k) (omega arith))
above_front zero (suc x ∷ xs) z = absurd (omega (arith, z 0 (omega arith)))
above_front (suc m) [] z = refl
above_front (suc m) (zero ∷ xs) z = above_front m xs (λ k h. z (suc k) (omega arith))
above_front (suc m) (suc x ∷ xs) z = refl

-- ---- one byte more

pub record Front (t : List ℕ) (i : ℕ) (ss vs : List ℕ) (a : Bool) : Type 0 where
  pub good : first_to t i ≡ 0
  pub symbols : symbols_to t i ≡ ss
  pub values : values_to t i ≡ vs
  pub after : after_digit t i ≡ a

pub front_none : (t : List ℕ) → Front t 0 [] (replicate places 0) false
unfolding first_to symbols_to values_to after_digit
front_none t = record { good = refl; symbols = refl; values = refl; after = refl }

offends_is : (t : List ℕ) (i : ℕ) (k : Option Piece) (ss vs : List ℕ) (a : Bool) → Front t i ss vs a → piece_at t i ≡ k → offends_at t i ≡ offends k a ss
unfolding offends_at
offends_is t i k ss vs a s e = ap₂ (λ (x : Option Piece) (y : Bool). offends x y (symbols_to t i)) e s.after ∙ ap (offends k a) s.symbols

pub front_more : (t : List ℕ) (i : ℕ) (k : Option Piece) (ss vs : List ℕ) (a : Bool) → Front t i ss vs a → piece_at t i ≡ k → offends k a ss ≡ false → Front t (i + 1) (ss ++ symbol_in k) (with_value k (length ss) vs) (is_digit k)
unfolding first_to symbols_to values_to after_digit
front_more t i k ss vs a s e z =
    record {
      good = ap (first_to t) (add-one i) ∙ ap₂ (λ (x : ℕ) (y : Bool). or_else x (cond y (suc i) 0)) s.good (offends_is t i k ss vs a s e ∙ z);
      symbols = ap (symbols_to t) (add-one i) ∙ ap₂ (λ (x : List ℕ) (y : Option Piece). x ++ symbol_in y) s.symbols e;
      values = ap (values_to t) (add-one i) ∙ ap₂ (λ (x : List ℕ) (y : Option Piece). with_value y (length x) (values_to t i)) s.symbols e ∙ ap (with_value k (length ss)) s.values;
      after = ap (after_digit t) (add-one i) ∙ ap is_digit e;
    }

-- ---- the first bad byte stays the first

keeps : (t : List ℕ) (i c : ℕ) → first_to t i ≡ suc c → first_to t (suc i) ≡ suc c
unfolding first_to
keeps t i c e = ap (λ (x : ℕ). or_else x (cond (offends_at t i) (suc i) 0)) e

stays : (t : List ℕ) (i c n : ℕ) → i ≤ n → first_to t i ≡ suc c → first_to t n ≡ suc c
stays t i c n h e = le_ind (λ (m : ℕ). first_to t m ≡ suc c) e (λ m _ q. keeps t m c q) n h

reading_at : (t : List ℕ) (c : ℕ) → first_to t (length t) ≡ suc c → reading t ≡ refused (at_byte 14 1 (suc c))
unfolding reading
reading_at t c e = ap (λ (x : ℕ). reading_by (or_else x (lacking (symbols_to t (length t)) (values_to t (length t)) (length t))) ((symbols_to t (length t), values_to t (length t)))) e

pub refused_at : (t : List ℕ) (i : ℕ) (k : Option Piece) (ss vs : List ℕ) (a : Bool) → Front t i ss vs a → piece_at t i ≡ k → offends k a ss ≡ true → i < length t → refused (at_byte 14 1 (i + 1)) ≡ reading t
unfolding first_to
refused_at t i k ss vs a s e z h =
    let f : first_to t (suc i) ≡ suc i = ap₂ (λ (x : ℕ) (y : Bool). or_else x (cond y (suc i) 0)) s.good (offends_is t i k ss vs a s e ∙ z) in
    ap (λ (c : ℕ). refused (at_byte 14 1 c)) (add-one i) ∙ sym (reading_at t i (stays t (suc i) i (length t) h f))

-- ---- what stands behind a byte

abbrev pub Bytes : Option Piece → ℕ → Type 0
Bytes (Some (Symbol s)) b = (byte_of s ≡ b) × (s ≤ alphabet)
Bytes (Some (Digit d)) b = (digit d ≡ b ∷ []) × (d ≤ highest)
Bytes None b = Unit {0}

small : (b : ℕ) → 97 ≤ b → b ≤ 122 → byte_of (b - 96) ≡ b
small b l h = let e : b - 96 ≡ suc (b - 97) = omega arith in ap byte_of e ∙ omega arith

figure : (b : ℕ) → 49 ≤ b → b ≤ 57 → digit (b - 48) ≡ b ∷ []
figure b l h = let e : b - 48 ≡ suc (b - 49) = omega arith in let f : 48 + suc (b - 49) ≡ b = omega arith in ap digit e ∙ ap (λ (x : ℕ). x ∷ []) f

pub bytes : (b : ℕ) → Bytes (piece_of b) b
bytes b =
    cond_both (leb 97 b && leb b 122) _ _ (λ k. Bytes k b) (λ e. let p = and_parts (leb 97 b) (leb b 122) e in let l = leb-true 97 b p.0 in let h = leb-true b 122 p.1 in (small b l h, omega arith))
    (λ _. cond_both (eqb b 46) _ _ (λ k. Bytes k b) (λ e. (sym (eqb-true b 46 e), omega arith))
    (λ _. cond_both (leb 49 b && leb b 57) _ _ (λ k. Bytes k b) (λ e. let p = and_parts (leb 49 b) (leb b 57) e in let l = leb-true 49 b p.0 in let h = leb-true b 57 p.1 in (figure b l h, omega arith)) (λ _. tt)))

digit_above : (b d : ℕ) → piece_of b ≡ Some (Digit d) → 0 < d
digit_above b zero e = let y = subst (λ (k : Option Piece). Bytes k b) e (bytes b) in absurd (omega (arith, ap length y.0))
digit_above b (suc d) e = omega arith

-- ---- what a front without fault spells is sound

pub record Sound (ss vs : List ℕ) (a : Bool) : Type 0 where
  pub few : length ss ≤ longest
  pub symbolic : (k : ℕ) → get_or ss k 0 ≤ alphabet
  pub edged : (k : ℕ) → 0 < k → suc k < length ss → 0 < get_or ss k 0
  pub width : length vs ≡ places
  pub digits : (k : ℕ) → get_or vs k 0 ≤ highest
  pub within : (k : ℕ) → length ss < k → get_or vs k 0 ≡ 0
  pub here : a ≡ false → get_or vs (length ss) 0 ≡ 0

sound_none : Sound [] (replicate places 0) false
sound_none = record { few = omega arith; symbolic = λ k. omega arith; edged = λ k p q. omega arith; width = refl; digits = λ k. omega (arith, zeros places k); within = λ k h. zeros places k; here = λ _. refl }

push_symbolic : (ss : List ℕ) (s k : ℕ) → s ≤ alphabet → ((j : ℕ) → get_or ss j 0 ≤ alphabet) → get_or (ss ++ s ∷ []) k 0 ≤ alphabet
push_symbolic [] s zero h f = h
push_symbolic [] s (suc k) h f = omega arith
push_symbolic (x ∷ ss) s zero h f = f 0
push_symbolic (x ∷ ss) s (suc k) h f = push_symbolic ss s k h (λ j. f (suc j))

sound_more : (k : Option Piece) (b : ℕ) (ss vs : List ℕ) (a : Bool) → Bytes k b → offends k a ss ≡ false → Sound ss vs a → Sound (ss ++ symbol_in k) (with_value k (length ss) vs) (is_digit k)
sound_more (Some (Symbol s)) b ss vs a y z h =
    let p = or_parts (leb longest (length ss)) (ltb 1 (length ss) && eqb (get_or ss (length ss - 1) 0) 0) z in
    let l : length ss < longest = leb-false longest (length ss) p.0 in
    let n : length (ss ++ s ∷ []) ≡ length ss + 1 = length_push ss s in
    record {
      few = omega arith;
      symbolic = λ k. push_symbolic ss s k y.1 h.symbolic;
      edged = λ k q r.
          let m : k < length ss = omega arith in
          rw (get_or_append_left ss (s ∷ []) 0 k m)
          (⊎_elim (λ (u : suc k < length ss). h.edged k q u)
          (λ (u : length ss ≤ suc k).
          let e : k ≡ length ss - 1 = omega arith in
          ⊎_elim
          (λ (v : ltb 1 (length ss) ≡ false). absurd (omega (arith, ltb-false 1 (length ss) v)))
          (λ (v : eqb (get_or ss (length ss - 1) 0) 0 ≡ false). let g : get_or ss (length ss - 1) 0 ≡ 0 → ⊥ = eqb-false (get_or ss (length ss - 1) 0) 0 v in let f : get_or ss k 0 ≡ get_or ss (length ss - 1) 0 = ap (λ (x : ℕ). get_or ss x 0) e in omega arith)
          (and_cases (ltb 1 (length ss)) (eqb (get_or ss (length ss - 1) 0) 0) p.1))
          (cases_lt (suc k) (length ss)));
      width = h.width;
      digits = h.digits;
      within = λ k q. h.within k (omega arith);
      here = λ _. h.within (length (ss ++ s ∷ [])) (omega arith);
    }
sound_more (Some (Digit d)) b ss vs a y z h =
    let w : length ss < length vs = omega (arith, h.width, h.few) in
    subst (λ (x : List ℕ). Sound x (set vs (length ss) d) true) (sym (append-nil ss))
    (record {
      few = h.few;
      symbolic = h.symbolic;
      edged = h.edged;
      width = length-set vs (length ss) d ∙ h.width;
      digits = λ k. ⊎_elim
          (λ (e : k ≡ length ss). rw (e, get_or-set_same vs (length ss) d 0 w) y.1)
          (λ (e : k ≡ length ss → ⊥). rw (get_or-set_other vs (length ss) k d 0 e) (h.digits k))
          (cases_eq k (length ss));
      within = λ k q. let ne : k ≢ length ss = omega arith in get_or-set_other vs (length ss) k d 0 ne ∙ h.within k q;
      here = λ e. absurd (true≢false e);
    })
sound_more None b ss vs a y z h = absurd (true≢false z)

pub inverse : (f c : ℕ) (b : Bool) → or_else f (cond b (suc c) 0) ≡ 0 → (f ≡ 0) × (b ≡ false)
inverse zero c true e = absurd (omega (arith, e))
inverse zero c false e = (refl, refl)
inverse (suc f) c b e = absurd (omega (arith, e))

pub no_offence : (t : List ℕ) (i : ℕ) → offends_at t i ≡ false → offends (piece_at t i) (after_digit t i) (symbols_to t i) ≡ false
unfolding offends_at
no_offence t i e = e

pub sound : (t : List ℕ) (i : ℕ) → first_to t i ≡ 0 → Sound (symbols_to t i) (values_to t i) (after_digit t i)
unfolding first_to symbols_to values_to after_digit
sound t zero e = sound_none
sound t (suc i) e =
    let p = inverse (first_to t i) i (offends_at t i) e in
    sound_more (piece_at t i) (get_or t i 0) (symbols_to t i) (values_to t i) (after_digit t i) (bytes (get_or t i 0)) (no_offence t i p.1) (sound t i p.0)

-- ---- the loop

-- a digit stands last just where the place that it is for has its value
pub record At (t : List ℕ) (i : ℕ) (S V : List ℕ) (n : ℕ) : Type 0 where
  pub front : Front t i (symbols_to t i) V (ltb 0 (get_or V n 0))
  pub count : n ≡ length (symbols_to t i)
  pub few : n ≤ longest
  pub padded : S ≡ symbols_to t i ++ replicate (longest - n) 0
  pub full : length S ≡ longest
  pub wide : length V ≡ places

pub at_none : (t : List ℕ) → At t 0 (replicate longest 0) (replicate places 0) 0
unfolding symbols_to
at_none t = record { front = front_none t; count = refl; few = omega arith; padded = refl; full = refl; wide = refl }

module _ {t : List ℕ} {i : ℕ} {S V : List ℕ} {n : ℕ} (at : At t i S V n) where
  abbrev after : Bool
  after = ltb 0 (get_or V n 0)

  pub at_sound : Sound (symbols_to t i) V after
  at_sound = subst₂ (λ (x : List ℕ) (b : Bool). Sound (symbols_to t i) x b) at.front.values at.front.after (sound t i at.front.good)

  pub at_symbol : (k : ℕ) → get_or S k 0 ≡ get_or (symbols_to t i) k 0
  at_symbol k = ap (λ (x : List ℕ). get_or x k 0) at.padded ∙ pad_get (symbols_to t i) (longest - n) k

  at_taken : take n S ≡ symbols_to t i
  at_taken = ap (take n) at.padded ∙ take_at (symbols_to t i) (replicate (longest - n) 0) n (sym at.count)

  pub shut_is : (s : ℕ) → shut (take n S) (length (take n S)) ≡ offends (Some (Symbol s)) after (symbols_to t i)
  shut_is s = ap (λ (x : List ℕ). shut x (length x)) at_taken

  pub turn_symbol : (s : ℕ) → piece_at t i ≡ Some (Symbol s) → shut (take n S) (length (take n S)) ≡ false → At t (i + 1) (set S n s) V (n + 1)
  turn_symbol s k z =
      let y = sym (shut_is s) ∙ z in
      let st = front_more t i (Some (Symbol s)) (symbols_to t i) V after at.front k y in
      let l : n < longest = omega (arith, at.count, leb-false longest (length (symbols_to t i)) (or_parts (leb longest (length (symbols_to t i))) _ y).0) in
      record {
        front = record { good = st.good; symbols = refl; values = st.values; after = st.after ∙ sym (le-ltb 0 (get_or V (n + 1) 0) (omega (arith, at_sound.within (n + 1) (omega (arith, at.count))))) };
        count = ap (λ (x : ℕ). x + 1) at.count ∙ sym (length_push (symbols_to t i) s) ∙ ap length (sym st.symbols);
        few = omega arith;
        padded = ap (λ (x : List ℕ). set x n s) at.padded ∙ pad_set longest (symbols_to t i) n s at.count l ∙ ap (λ (x : List ℕ). x ++ replicate (longest - (n + 1)) 0) (sym st.symbols);
        full = length-set S n s ∙ at.full;
        wide = at.wide;
      }

  pub turn_digit : (d : ℕ) → piece_at t i ≡ Some (Digit d) → get_or V n 0 ≤ 0 → At t (i + 1) S (set V n d) n
  turn_digit d k z =
      let st = front_more t i (Some (Digit d)) (symbols_to t i) V after at.front k (le-ltb 0 (get_or V n 0) z) in
      let w : n < length V = omega (arith, at.few, at.wide) in
      let e : symbols_to t (i + 1) ≡ symbols_to t i = st.symbols ∙ append-nil (symbols_to t i) in
      record {
        front = record { good = st.good; symbols = refl; values = st.values ∙ ap (λ (x : ℕ). set V x d) (sym at.count); after = st.after ∙ sym (ap (ltb 0) (get_or-set_same V n d 0 w) ∙ lt-ltb 0 d (digit_above (get_or t i 0) d k)) };
        count = at.count ∙ ap length (sym e);
        few = at.few;
        padded = at.padded ∙ ap (λ (x : List ℕ). x ++ replicate (longest - n) 0) (sym e);
        full = at.full;
        wide = length-set V n d ∙ at.wide;
      }

  pub refused_here : (k : Option Piece) → k ≡ piece_at t i → offends k after (symbols_to t i) ≡ true → i < length t → refused (at_byte 14 1 (i + 1)) ≡ reading t
  refused_here k e z h = refused_at t i k (symbols_to t i) V after at.front (sym e) z h

  pub any_is : any_above_zero S ≡ any_above_zero (symbols_to t i)
  any_is = ap any_above_zero at.padded ∙ any_pad (symbols_to t i) (longest - n)

  -- at the end
  pub end_lacks : i ≡ length t → (any_above_zero S && any_above_zero V) ≡ false → refused (at_byte 14 1 (length t + 1)) ≡ reading t
  unfolding reading
  end_lacks e z =
      let n = length t in
      let f : or_else (first_to t n) (lacking (symbols_to t n) (values_to t n) n) ≡ suc n =
      ap₂ (λ (x : ℕ) (y : Bool). or_else x (cond y 0 (n + 1))) (ap (first_to t) (sym e) ∙ at.front.good) (ap₂ (λ (x y : Bool). x && y) (ap (λ (j : ℕ). any_above_zero (symbols_to t j)) (sym e) ∙ sym any_is) (ap (λ (j : ℕ). any_above_zero (values_to t j)) (sym e) ∙ ap any_above_zero at.front.values) ∙ z) ∙ add-one n in
      ap (λ (c : ℕ). refused (at_byte 14 1 c)) (add-one n) ∙ sym (ap (λ (x : ℕ). reading_by x ((symbols_to t n, values_to t n))) f)

  pub end_spelt : i ≡ length t → (any_above_zero S && any_above_zero V) ≡ true → spells ((take n S, V)) ≡ reading t
  unfolding reading
  end_spelt e z =
      let m = length t in
      let f : or_else (first_to t m) (lacking (symbols_to t m) (values_to t m) m) ≡ 0 =
      ap₂ (λ (x : ℕ) (y : Bool). or_else x (cond y 0 (m + 1))) (ap (first_to t) (sym e) ∙ at.front.good) (ap₂ (λ (x y : Bool). x && y) (ap (λ (j : ℕ). any_above_zero (symbols_to t j)) (sym e) ∙ sym any_is) (ap (λ (j : ℕ). any_above_zero (values_to t j)) (sym e) ∙ ap any_above_zero at.front.values) ∙ z) in
      let g : take n S ≡ symbols_to t m = at_taken ∙ ap (symbols_to t) e in
      let h : V ≡ values_to t m = sym at.front.values ∙ ap (values_to t) e in
      ap₂ (λ (x y : List ℕ). spells ((x, y))) g h
      ∙ sym (ap (λ (x : ℕ). reading_by x ((symbols_to t m, values_to t m))) f)

  pub end_edged : (k : ℕ) → 0 < k → suc k < n → 0 < get_or S k 0
  end_edged k p q = rw (at_symbol k) (at_sound.edged k p (omega (arith, at.count)))

  pub end_symbolic : (k : ℕ) → get_or S k 0 ≤ alphabet
  end_symbolic k = rw (at_symbol k) (at_sound.symbolic k)

  pub end_padded : (k : ℕ) → n ≤ k → get_or S k 0 ≡ 0
  end_padded k h = at_symbol k ∙ get_or_past (symbols_to t i) k 0 (omega (arith, at.count))

  pub end_within : (k : ℕ) → n < k → get_or V k 0 ≡ 0
  end_within k h = at_sound.within k (omega (arith, at.count))

  pub end_len : any_above_zero S ≡ true → 1 ≤ n
  end_len e = ⊎_elim (λ (h : 0 < n). h) (λ (h : n ≤ 0). let z : length (symbols_to t i) ≡ 0 = omega (arith, at.count) in absurd (false≢true (ap any_above_zero (sym (nil_from_length (symbols_to t i) z)) ∙ sym any_is ∙ e))) (cases_lt 0 n)
