-- Why the reading of a text says in the subject's words what the text is: the theorem behind `Pattern::read`.
use Rattle.std.proofs.Common.{◌≡◌, ℕ, zero, suc, ◌+◌, ◌-◌, ◌<◌, ◌≤◌, Bool, true, false, cond, ◌&&◌, eqb, ltb, leb, List, length, get_or, sym, refl, ap, ◌∙◌, subst, ⊎_elim, add-one, arith, Some, None, Option}
use Rattle.std.proofs.lemmas.Bool.{cases_lt, leb-true, ltb-true, eqb-true, le-leb, lt-ltb, eq-eqb, and_parts, and_cases, and_from, or_cases, or_left, or_right, false≢true, both_ways}
use Rattle.text.specs.Refusals.{at_byte}
use Rattle.patterns.specs.declared.reading.Piece.{Piece}
use Rattle.patterns.specs.declared.reading.Piece.TheVariants.{Symbol, Digit}
use Rattle.patterns.specs.Spellings.{longest, any_above_zero, Valid}
use Rattle.patterns.specs.Texts.{piece_at, is_digit, symbols_to, values_to, after_digit, shut, offends, offends_at, or_else, first_to, lacking, Reading, spells, reading_by, reading}
use Rattle.patterns.specs.Promises.{RoundTrips, Cause, neither, digit_after_digit, sixteenth, after_edge, FaultAt, offending, lacks, Judged}
use Rattle.patterns.proofs.Spells.{inverse, sound}
use Rattle.patterns.proofs.Round.{front_text, written_then_read}

-- ---- a byte offends just where it has a cause

after_digit_lem : (text : List ℕ) (i : ℕ) → after_digit text i ≡ true → (j : ℕ) × (i ≡ suc j) × (is_digit (piece_at text j) ≡ true)
unfolding after_digit
after_digit_lem text zero e = absurd (false≢true e)
after_digit_lem text (suc j) e = (j, refl, e)

digit_after : (text : List ℕ) (i j d : ℕ) → i ≡ suc j → piece_at text j ≡ Some (Digit d) → after_digit text i ≡ true
unfolding after_digit
digit_after text i j d e k = ap (after_digit text) e ∙ ap is_digit k

the_digit : (k : Option Piece) → is_digit k ≡ true → (d : ℕ) × (k ≡ Some (Digit d))
the_digit (Some (Symbol s)) e = absurd (false≢true e)
the_digit (Some (Digit d)) e = (d, refl)
the_digit None e = absurd (false≢true e)

shut_cause : (text : List ℕ) (i s : ℕ) → piece_at text i ≡ Some (Symbol s) → length (symbols_to text i) ≤ longest → shut (symbols_to text i) (length (symbols_to text i)) ≡ true → Cause text i
shut_cause text i s k few e =
    let ss = symbols_to text i in
    let n = length ss in
    ⊎_elim
    (λ (p : leb longest n ≡ true). let h = leb-true longest n p in let w : n ≡ longest = omega arith in sixteenth s k w)
    (λ (p : (ltb 1 n && eqb (get_or ss (n - 1) 0) 0) ≡ true).
    let q = and_parts (ltb 1 n) (eqb (get_or ss (n - 1) 0) 0) p in
    let h = ltb-true 1 n q.0 in
    let w : n ≡ suc (suc (n - 2)) = omega arith in
    let v : suc (n - 2) ≡ n - 1 = omega arith in
    after_edge s (n - 2) k w (ap (λ (x : ℕ). get_or ss x 0) v ∙ eqb-true (get_or ss (n - 1) 0) 0 q.1))
    (or_cases (leb longest n) (ltb 1 n && eqb (get_or ss (n - 1) 0) 0) e)

cause_by : (text : List ℕ) (i : ℕ) (k : Option Piece) → piece_at text i ≡ k → length (symbols_to text i) ≤ longest → offends k (after_digit text i) (symbols_to text i) ≡ true → Cause text i
cause_by text i (Some (Symbol s)) k few e = shut_cause text i s k few e
cause_by text i (Some (Digit d)) k few e =
    let p = after_digit_lem text i e in
    let q = the_digit (piece_at text p.0) p.2 in
    digit_after_digit q.0 d p.0 p.1 q.1 k
cause_by text i None k few e = neither k

offends_cause : (text : List ℕ) (i : ℕ) → length (symbols_to text i) ≤ longest → offends_at text i ≡ true → Cause text i
unfolding offends_at
offends_cause text i few e = cause_by text i (piece_at text i) refl few e

offends_at_lem : (text : List ℕ) (i : ℕ) (k : Option Piece) → piece_at text i ≡ k → offends k (after_digit text i) (symbols_to text i) ≡ true → offends_at text i ≡ true
unfolding offends_at
offends_at_lem text i k e h = ap (λ (x : Option Piece). offends x (after_digit text i) (symbols_to text i)) e ∙ h

cause_offends : (text : List ℕ) (i : ℕ) → Cause text i → offends_at text i ≡ true
cause_offends text i (neither k) = offends_at_lem text i None k refl
cause_offends text i (digit_after_digit d e j s k l) = offends_at_lem text i (Some (Digit e)) l (digit_after text i j d s k)
cause_offends text i (sixteenth s k w) =
    let n = length (symbols_to text i) in
    offends_at_lem text i (Some (Symbol s)) k (or_left (leb longest n) _ (le-leb longest n (omega arith)))
cause_offends text i (after_edge s m k w z) =
    let ss = symbols_to text i in
    let n = length ss in
    let v : n - 1 ≡ suc m = omega arith in
    offends_at_lem text i (Some (Symbol s)) k
    (or_right (leb longest n) _ (and_from (ltb 1 n) (eqb (get_or ss (n - 1) 0) 0) (lt-ltb 1 n (omega arith)) (eq-eqb (get_or ss (n - 1) 0) 0 (ap (λ (x : ℕ). get_or ss x 0) v ∙ z))))

-- ---- the first offending byte

clean_each : (text : List ℕ) (i j : ℕ) → j < i → first_to text i ≡ 0 → offends_at text j ≡ false
unfolding first_to
clean_each text zero j h e = absurd (omega arith)
clean_each text (suc i) j h e =
    let p = inverse (first_to text i) i (offends_at text i) e in
    ⊎_elim (λ (l : j < i). clean_each text i j l p.0)
    (λ (l : i ≤ j). let q : i ≡ j = omega arith in subst (λ (x : ℕ). offends_at text x ≡ false) q p.1)
    (cases_lt j i)

no_cause : (text : List ℕ) (i : ℕ) → first_to text i ≡ 0 → (j : ℕ) → j < i → Cause text j → ⊥
no_cause text i e j h c = both_ways (offends_at text j) (clean_each text i j h e) (cause_offends text j c)

pub record FirstAt (text : List ℕ) (n c : ℕ) : Type 0 where
  pub at : ℕ
  pub inside : at < n
  pub column : c ≡ at + 1
  pub clean : first_to text at ≡ 0
  pub here : offends_at text at ≡ true

first_here : (text : List ℕ) (n c : ℕ) → first_to text n ≡ 0 → (b : Bool) → offends_at text n ≡ b → cond b (suc n) 0 ≡ suc c → FirstAt text (suc n) (suc c)
first_here text n c e true f g = record { at = n; inside = omega arith; column = omega (arith, g); clean = e; here = f }
first_here text n c e false f g = absurd (omega (arith, g))

first_at : (text : List ℕ) (n c : ℕ) → first_to text n ≡ suc c → FirstAt text n (suc c)
unfolding first_to
first_at text zero c e = absurd (omega (arith, e))
first_at text (suc n) c e = go (first_at text n c) (first_to text n) refl e where
  go : (first_to text n ≡ suc c → FirstAt text n (suc c)) → (f : ℕ) → first_to text n ≡ f → or_else f (cond (offends_at text n) (suc n) 0) ≡ suc c → FirstAt text (suc n) (suc c)
  go before zero p q = first_here text n c p (offends_at text n) refl q
  go before (suc f) p q = let r = before (p ∙ q) in record { at = r.at; inside = omega (arith, r.inside); column = r.column; clean = r.clean; here = r.here }

-- ---- a text without fault is the text of a pattern

valid_at : (text : List ℕ) → first_to text (length text) ≡ 0 → any_above_zero (symbols_to text (length text)) ≡ true → any_above_zero (values_to text (length text)) ≡ true → Valid (symbols_to text (length text), values_to text (length text))
valid_at text e p q =
    let s = sound text (length text) e in
    record { few = s.few; symbolic = s.symbolic; edged = s.edged; lettered = p; wide = s.width; digits = s.digits; within = s.within; valued = q }

-- ---- the theorem

judged_first : (text : List ℕ) (c : ℕ) → FirstAt text (length text) c → FaultAt text (at_byte 14 1 c)
judged_first text c p =
    subst (λ (x : ℕ). FaultAt text (at_byte 14 1 x)) (sym p.column)
    (offending p.at p.inside (offends_cause text p.at (sound text p.at p.clean).few p.here) (no_cause text p.at p.clean))

judged_end : (text : List ℕ) → first_to text (length text) ≡ 0 → (b : Bool) → (any_above_zero (symbols_to text (length text)) && any_above_zero (values_to text (length text))) ≡ b →
    Judged text (reading_by (cond b 0 (length text + 1)) (symbols_to text (length text), values_to text (length text)))
judged_end text e true f =
    let p = and_parts (any_above_zero (symbols_to text (length text))) (any_above_zero (values_to text (length text))) f in
    (valid_at text e p.0 p.1, front_text text e)
judged_end text e false f =
    let n = length text in
    subst (λ (c : ℕ). Judged text (reading_by c (symbols_to text n, values_to text n))) (sym (add-one n))
    (subst (λ (c : ℕ). FaultAt text (at_byte 14 1 c)) (add-one n)
    (lacks (no_cause text n e) (and_cases (any_above_zero (symbols_to text n)) (any_above_zero (values_to text n)) f)))

judged_by : (text : List ℕ) (f : ℕ) → first_to text (length text) ≡ f →
    Judged text (reading_by (or_else f (lacking (symbols_to text (length text)) (values_to text (length text)) (length text))) (symbols_to text (length text), values_to text (length text)))
judged_by text zero e = judged_end text e (any_above_zero (symbols_to text (length text)) && any_above_zero (values_to text (length text))) refl
judged_by text (suc c) e = judged_first text (suc c) (first_at text (length text) c e)

pub judged : (text : List ℕ) → Judged text (reading text)
unfolding reading
judged text = judged_by text (first_to text (length text)) refl

pub judged_as : (text : List ℕ) (r : Reading) → r ≡ reading text → Judged text r
judged_as text r e = subst (λ (x : Reading). Judged text x) (sym e) (judged text)

pub round_trips : RoundTrips
round_trips = record { written = written_then_read; read = λ text p e. judged_as text (spells p) (sym e) }
