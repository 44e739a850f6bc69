-- The two round trips: a text that was read is written back, and a pattern that was written is read back.
use Rattle.std.proofs.Common.{◌≡◌, ℕ, zero, suc, ◌+◌, ◌-◌, ◌<◌, ◌≤◌, Bool, true, false, cond, ◌&&◌, eqb, ltb, leb, ◌≢◌, List, [], ◌∷◌, ◌++◌, length, get_or, take, set, replicate, sym, refl, ap, ◌∙◌, subst, ap₂, subst₂, ⊎_elim, append_assoc, append-nil, add-zero, zero-add, add-one, arith, lit<, Some, None, Option}
use mathlib.Core.Path.{subst₃}
use Rattle.std.proofs.lemmas.List.{get_or_append_left, get_or_at, length_push, length-append, get_or_push, length-set, get_or-set_same, get_or-set_other, set-get_or, take_more, take_all, length-take-le, get_or-take, get_or_past, ext_get_or}
use Rattle.std.proofs.lemmas.Bool.{cases_lt, cases_eq, le-leb, lt-leb, le-ltb, ne_eqb, and_from, and_left, and_right, or_from, true≢false, cond-true, cond-false}
use Rattle.text.proofs.Padding.{zeros}
use Rattle.words.specs.Words.{alphabet}
use Rattle.patterns.specs.Spellings.{longest, places, highest, any_above_zero, Spelled, Valid}
use Rattle.patterns.specs.Views.{spelled}
use Rattle.patterns.specs.declared.reading.Piece.{Piece}
use Rattle.patterns.specs.declared.reading.Piece.TheVariants.{Symbol, Digit}
use Rattle.patterns.specs.Texts.{digit, byte_of, text_to, text_of, piece_of, piece_at, symbol_in, with_value, symbols_to, values_to, after_digit, shut, offends, offends_at, or_else, first_to, spells, reading_by, lacking, reading}
use Rattle.patterns.specs.declared.pattern.Pattern.{Pattern}
use Rattle.patterns.proofs.Bytes.{digit_le}
use Rattle.patterns.proofs.Spells.{above_front, Front, front_none, front_more, Sound, sound, bytes, Bytes, inverse, no_offence}

-- ---- a text depends on the symbols before its place, and on the values up to it

text_same : (ss ss' vs vs' : List ℕ) (k : ℕ) → ((j : ℕ) → j < k → get_or ss j 0 ≡ get_or ss' j 0) → ((j : ℕ) → j ≤ k → get_or vs j 0 ≡ get_or vs' j 0) → text_to ss vs k ≡ text_to ss' vs' k
unfolding text_to
text_same ss ss' vs vs' zero f g = ap digit (g 0 (omega arith))
text_same ss ss' vs vs' (suc k) f g =
    ap₂ (λ (x : List ℕ) (b : ℕ). x ++ byte_of b ∷ digit (get_or vs (suc k) 0)) (text_same ss ss' vs vs' k (λ j h. f j (omega arith)) (λ j h. g j (omega arith))) (f k (omega arith))
    ∙ ap (λ (v : ℕ). text_to ss' vs' k ++ byte_of (get_or ss' k 0) ∷ digit v) (g (suc k) (omega arith))

-- a value where there was none adds its digit
text_digit : (ss vs : List ℕ) (n d : ℕ) → n < length vs → get_or vs n 0 ≡ 0 → text_to ss (set vs n d) n ≡ text_to ss vs n ++ digit d
unfolding text_to
text_digit ss vs zero d h z = ap digit (get_or-set_same vs 0 d 0 h) ∙ ap (λ (v : ℕ). digit v ++ digit d) (sym z)
text_digit ss vs (suc n) d h z =
    ap₂ (λ (x : List ℕ) (v : ℕ). x ++ byte_of (get_or ss n 0) ∷ digit v)
    (text_same ss ss (set vs (suc n) d) vs n (λ j _. refl) (λ j l. let ne : j ≢ suc n = omega arith in get_or-set_other vs (suc n) j d 0 ne))
    (get_or-set_same vs (suc n) d 0 h)
    ∙ sym (append_assoc (text_to ss vs n) (byte_of (get_or ss n 0) ∷ []) (digit d))
    ∙ ap (λ (v : ℕ). (text_to ss vs n ++ byte_of (get_or ss n 0) ∷ digit v) ++ digit d) (sym z)

full : List ℕ → List ℕ → List ℕ
full ss vs = text_to ss vs (length ss)

text_byte : (k : Option Piece) (b : ℕ) (ss vs : List ℕ) (a : Bool) → Bytes k b → offends k a ss ≡ false → Sound ss vs a → full (ss ++ symbol_in k) (with_value k (length ss) vs) ≡ full ss vs ++ b ∷ []
unfolding full text_to
text_byte (Some (Symbol s)) b ss vs a y z h =
    ap (text_to (ss ++ s ∷ []) vs) (length_push ss s ∙ add-one (length ss))
    ∙ ap₂ (λ (x : List ℕ) (v : ℕ). x ++ byte_of (get_or (ss ++ s ∷ []) (length ss) 0) ∷ digit v)
    (text_same (ss ++ s ∷ []) ss vs vs (length ss) (λ j l. get_or_append_left ss (s ∷ []) 0 j l) (λ j _. refl))
    (h.within (suc (length ss)) (omega arith))
    ∙ ap (λ (x : ℕ). text_to ss vs (length ss) ++ x ∷ []) (ap byte_of (get_or_push ss s 0 (length ss) refl) ∙ y.0)
text_byte (Some (Digit d)) b ss vs a y z h =
    ap (λ (x : List ℕ). text_to x (set vs (length ss) d) (length x)) (append-nil ss)
    ∙ text_digit ss vs (length ss) d (omega (arith, h.few, h.width)) (h.here z)
    ∙ ap (λ (x : List ℕ). text_to ss vs (length ss) ++ x) y.0
text_byte None b ss vs a y z h = absurd (true≢false z)

text_front : (t : List ℕ) (i : ℕ) → i ≤ length t → first_to t i ≡ 0 → full (symbols_to t i) (values_to t i) ≡ take i t
unfolding first_to symbols_to values_to full text_to
text_front t zero h e = refl
text_front t (suc i) h e =
    let p = inverse (first_to t i) i (offends_at t i) e in
    text_byte (piece_at t i) (get_or t i 0) (symbols_to t i) (values_to t i) (after_digit t i) (bytes (get_or t i 0)) (no_offence t i p.1) (sound t i p.0)
    ∙ ap (λ (x : List ℕ). x ++ get_or t i 0 ∷ []) (text_front t i (omega arith) p.0)
    ∙ sym (take_more t i 0 h)
    ∙ ap (λ (j : ℕ). take j t) (add-one i)

pub front_text : (t : List ℕ) → first_to t (length t) ≡ 0 → text_of (symbols_to t (length t), values_to t (length t)) ≡ t
unfolding full
front_text t e = text_front t (length t) (omega arith) e ∙ take_all (length t) t (omega arith)

-- ---- the text of a pattern is read as that pattern

abbrev above : ℕ → Bool
above zero = false
above (suc v) = true

piece_digit : (d : ℕ) → suc d ≤ highest → piece_of (48 + suc d) ≡ Some (Digit (suc d))
piece_digit d h =
    let b = 48 + suc d in
    let z : b - 48 ≡ suc d = omega arith in
    cond-false (leb 97 b && leb b 122) _ _ (and_left (leb 97 b) (leb b 122) (lt-leb 97 b (omega arith)))
    ∙ cond-false (eqb b 46) _ _ (ne_eqb b 46 (λ e. omega arith))
    ∙ cond-true (leb 49 b && leb b 57) _ _ (and_from (leb 49 b) (leb b 57) (le-leb 49 b (omega arith)) (le-leb b 57 (omega arith)))
    ∙ ap (λ (d : ℕ). Some (Digit d)) z

piece_symbol : (s : ℕ) → s ≤ alphabet → piece_of (byte_of s) ≡ Some (Symbol s)
piece_symbol zero h = refl
piece_symbol (suc s) h =
    let b = 96 + suc s in
    let z : b - 96 ≡ suc s = omega arith in
    cond-true (leb 97 b && leb b 122) _ _ (and_from (leb 97 b) (leb b 122) (le-leb 97 b (omega arith)) (le-leb b 122 (omega arith)))
    ∙ ap (λ (s : ℕ). Some (Symbol s)) z

-- the values up to place k
up_to : List ℕ → ℕ → List ℕ
up_to vs zero = set (replicate places 0) 0 (get_or vs 0 0)
up_to vs (suc k) = set (up_to vs k) (suc k) (get_or vs (suc k) 0)

up_length : (vs : List ℕ) (k : ℕ) → length (up_to vs k) ≡ places
unfolding up_to
up_length vs zero = length-set (replicate places 0) 0 (get_or vs 0 0)
up_length vs (suc k) = length-set (up_to vs k) (suc k) (get_or vs (suc k) 0) ∙ up_length vs k

up_past : (vs : List ℕ) (k j : ℕ) → k < j → get_or (up_to vs k) j 0 ≡ 0
unfolding up_to
up_past vs zero j h = let ne : j ≢ 0 = omega arith in get_or-set_other (replicate places 0) 0 j (get_or vs 0 0) 0 ne ∙ zeros places j
up_past vs (suc k) j h = let ne : j ≢ suc k = omega arith in get_or-set_other (up_to vs k) (suc k) j (get_or vs (suc k) 0) 0 ne ∙ up_past vs k j (omega arith)

up_at : (vs : List ℕ) (k j : ℕ) → k < places → j ≤ k → get_or (up_to vs k) j 0 ≡ get_or vs j 0
unfolding up_to
up_at vs zero j l h = let e : j ≡ 0 = omega arith in rw (e, get_or-set_same (replicate places 0) 0 (get_or vs 0 0) 0 (lit< tt))
up_at vs (suc k) j l h =
    ⊎_elim
    (λ (e : j ≡ suc k). let q : suc k < length (up_to vs k) = omega (arith, up_length vs k) in rw (e, get_or-set_same (up_to vs k) (suc k) (get_or vs (suc k) 0) 0 q))
    (λ (e : j ≡ suc k → ⊥). get_or-set_other (up_to vs k) (suc k) j (get_or vs (suc k) 0) 0 e ∙ up_at vs k j (omega arith) (omega arith))
    (cases_eq j (suc k))

front_at : (t : List ℕ) (i i' : ℕ) (ss ss' vs vs' : List ℕ) (a : Bool) → i ≡ i' → ss ≡ ss' → vs ≡ vs' → Front t i ss vs a → Front t i' ss' vs' a
front_at t i i' ss ss' vs vs' a e f g h = subst₃ (λ (x : ℕ) (y z : List ℕ). Front t x y z a) e f g h

-- a digit, or none
front_digit : (xs rest ss vs : List ℕ) (v : ℕ) → v ≤ highest → get_or vs (length ss) 0 ≡ 0 → Front (xs ++ (digit v ++ rest)) (length xs) ss vs false → Front (xs ++ (digit v ++ rest)) (length xs + length (digit v)) ss (set vs (length ss) v) (above v)
front_digit xs rest ss vs zero h z s =
    front_at _ _ _ _ _ _ _ _ (sym (add-zero (length xs))) refl (sym (set-get_or vs (length ss) 0) ∙ ap (set vs (length ss)) z) s
front_digit xs rest ss vs (suc d) h z s =
    let t = xs ++ ((48 + suc d) ∷ rest) in
    let m : piece_at t (length xs) ≡ Some (Digit (suc d)) = ap piece_of (get_or_at xs (48 + suc d) rest 0 (length xs) refl) ∙ piece_digit d h in
    front_at _ _ _ _ _ _ _ _ refl (append-nil ss) refl (front_more t (length xs) (Some (Digit (suc d))) ss vs false s m refl)

front_symbol : (xs rest ss vs : List ℕ) (a : Bool) (s : ℕ) → s ≤ alphabet → shut ss (length ss) ≡ false → Front (xs ++ byte_of s ∷ rest) (length xs) ss vs a → Front (xs ++ byte_of s ∷ rest) (length xs + 1) (ss ++ s ∷ []) vs false
front_symbol xs rest ss vs a s h z q =
    let m : piece_at (xs ++ byte_of s ∷ rest) (length xs) ≡ Some (Symbol s) = ap piece_of (get_or_at xs (byte_of s) rest 0 (length xs) refl) ∙ piece_symbol s h in
    front_more (xs ++ byte_of s ∷ rest) (length xs) (Some (Symbol s)) ss vs a q m z

module _ (w : Spelled) (v : Valid w) where
  open_at : (k : ℕ) → k < length w.0 → shut (take k w.0) (length (take k w.0)) ≡ false
  open_at k h =
      let l : length (take k w.0) ≡ k = length-take-le k w.0 (omega arith) in
      ap (shut (take k w.0)) l
      ∙ or_from (leb longest k) (ltb 1 k && eqb (get_or (take k w.0) (k - 1) 0) 0) (lt-leb longest k (omega (arith, v.few)))
      (⊎_elim
      (λ (g : 1 < k).
      let e : get_or (take k w.0) (k - 1) 0 ≡ get_or w.0 (k - 1) 0 = get_or-take k w.0 (k - 1) 0 (omega arith) in
      and_right (ltb 1 k) (eqb (get_or (take k w.0) (k - 1) 0) 0) (ne_eqb _ 0 (λ z. omega (arith, v.edged (k - 1) (omega arith) (omega arith)))))
      (λ (g : k ≤ 1). and_left (ltb 1 k) (eqb (get_or (take k w.0) (k - 1) 0) 0) (le-ltb 1 k g))
      (cases_lt 1 k))

  go : (k : ℕ) → k ≤ length w.0 → (rest : List ℕ) → Front (text_to w.0 w.1 k ++ rest) (length (text_to w.0 w.1 k)) (take k w.0) (up_to w.1 k) (above (get_or w.1 k 0))
  unfolding text_to up_to
  go zero h rest =
      let x = get_or w.1 0 0 in
      front_at (digit x ++ rest) _ _ [] [] _ _ (above x) (zero-add (length (digit x))) refl refl
      (front_digit [] rest [] (replicate places 0) x (v.digits 0) refl (front_none (digit x ++ rest)))
  go (suc k) h rest =
      let T = text_to w.0 w.1 k in
      let s = get_or w.0 k 0 in
      let x = get_or w.1 (suc k) 0 in
      let ss = take k w.0 in
      let l : length ss ≡ k = length-take-le k w.0 (omega arith) in
      let more : ss ++ s ∷ [] ≡ take (suc k) w.0 = sym (take_more w.0 k 0 h) ∙ ap (λ (j : ℕ). take j w.0) (add-one k) in
      let n : length (ss ++ s ∷ []) ≡ suc k = length_push ss s ∙ ap (λ (j : ℕ). j + 1) l ∙ add-one k in
      let a = go k (omega arith) (byte_of s ∷ (digit x ++ rest)) in
      let b = front_symbol T (digit x ++ rest) ss (up_to w.1 k) _ s (v.symbolic k) (open_at k h) a in
      let t : T ++ byte_of s ∷ (digit x ++ rest) ≡ (T ++ byte_of s ∷ []) ++ (digit x ++ rest) = sym (append_assoc T (byte_of s ∷ []) (digit x ++ rest)) in
      let b' : Front ((T ++ byte_of s ∷ []) ++ (digit x ++ rest)) (length (T ++ byte_of s ∷ [])) (ss ++ s ∷ []) (up_to w.1 k) false =
      subst₂ (λ (y : List ℕ) (i : ℕ). Front y i (ss ++ s ∷ []) (up_to w.1 k) false) t (sym (length_push T (byte_of s))) b in
      let c = front_digit (T ++ byte_of s ∷ []) rest (ss ++ s ∷ []) (up_to w.1 k) x (v.digits (suc k)) (ap (λ (j : ℕ). get_or (up_to w.1 k) j 0) n ∙ up_past w.1 k (suc k) (omega arith)) b' in
      let u : (T ++ byte_of s ∷ []) ++ (digit x ++ rest) ≡ (T ++ byte_of s ∷ digit x) ++ rest = sym (append_assoc (T ++ byte_of s ∷ []) (digit x) rest) ∙ ap (λ (y : List ℕ). y ++ rest) (append_assoc T (byte_of s ∷ []) (digit x)) in
      let i : length (T ++ byte_of s ∷ []) + length (digit x) ≡ length (T ++ byte_of s ∷ digit x) = sym (length-append (T ++ byte_of s ∷ []) (digit x)) ∙ ap length (append_assoc T (byte_of s ∷ []) (digit x)) in
      front_at _ _ _ _ _ _ _ (above x) i more (ap (λ (j : ℕ). set (up_to w.1 k) j x) n)
      (subst (λ (y : List ℕ). Front y (length (T ++ byte_of s ∷ []) + length (digit x)) (ss ++ s ∷ []) (set (up_to w.1 k) (length (ss ++ s ∷ [])) x) (above x)) u c)

  ups : up_to w.1 (length w.0) ≡ w.1
  ups = ext_get_or 0 _ _ (up_length w.1 (length w.0) ∙ sym v.wide)
      (λ j h. ⊎_elim
      (λ (g : j < suc (length w.0)). up_at w.1 (length w.0) j (omega (arith, v.few)) (omega arith))
      (λ (g : suc (length w.0) ≤ j). up_past w.1 (length w.0) j g ∙ sym (v.within j g))
      (cases_lt j (suc (length w.0))))

  done : Front (text_of w) (length (text_of w)) w.0 w.1 (above (get_or w.1 (length w.0) 0))
  done =
      front_at (text_of w) _ _ _ _ _ _ _ refl (take_all (length w.0) w.0 (omega arith)) ups
      (subst (λ (y : List ℕ). Front y (length (text_of w)) (take (length w.0) w.0) (up_to w.1 (length w.0)) (above (get_or w.1 (length w.0) 0))) (append-nil (text_of w)) (go (length w.0) (omega arith) []))

pub written_then_read : (w : Spelled) → Valid w → reading (text_of w) ≡ spells w
unfolding reading
written_then_read w v =
    let t = text_of w in
    let n = length t in
    let s = done w v in
    let f : or_else (first_to t n) (lacking (symbols_to t n) (values_to t n) n) ≡ 0 =
    ap₂ (λ (x : ℕ) (y : Bool). or_else x (cond y 0 (n + 1))) s.good (and_from (any_above_zero (symbols_to t n)) (any_above_zero (values_to t n)) (ap any_above_zero s.symbols ∙ v.lettered) (ap any_above_zero s.values ∙ v.valued)) in
    ap (λ (x : ℕ). reading_by x ((symbols_to t n, values_to t n))) f
    ∙ ap₂ (λ (x y : List ℕ). spells ((x, y))) s.symbols s.values

-- ---- a pattern of the program keeps the rules

-- a text has a byte at most for each value, and one for each symbol
pub text_short : (ss vs : List ℕ) (k : ℕ) → length (text_to ss vs k) ≤ 1 + k + k
unfolding text_to
text_short ss vs zero = digit_le (get_or vs 0 0)
text_short ss vs (suc k) = omega (arith, text_short ss vs k, length-append (text_to ss vs k) (byte_of (get_or ss k 0) ∷ digit (get_or vs (suc k) 0)), digit_le (get_or vs (suc k) 0))

pub valid_of : (p : Pattern) → length p.spelling.symbols ≡ longest → length p.row.values ≡ places → Valid (spelled p)
valid_of p e f =
    let n = p.spelling.len in
    let S = p.spelling.symbols in
    let l : length (take n S) ≡ n = length-take-le n S (omega (arith, p.spelling.sized.1)) in
    let get : (k : ℕ) → get_or (take n S) k 0 ≡ get_or S k 0 =
    λ k. ⊎_elim (λ (h : k < n). get_or-take n S k 0 h) (λ (h : n ≤ k). get_or_past (take n S) k 0 (omega arith) ∙ sym (p.spelling.unused k h)) (cases_lt k n) in
    record {
      few = omega (arith, p.spelling.sized.1);
      symbolic = λ k. rw (get k) (p.spelling.symbolic k);
      edged = λ k h q. rw (get k) (p.spelling.edged k h (omega arith));
      lettered = sym (above_front n S p.spelling.unused) ∙ p.spelling.lettered;
      wide = f;
      digits = p.row.digits;
      within = λ k h. p.within k (omega arith);
      valued = p.valued;
    }
