-- Writing a text: one symbol and one value more, and the memory behind.
use Rattle.std.proofs.Common.{◌≡◌, ℕ, zero, suc, ◌+◌, ◌<◌, ◌≤◌, ltb, List, [], ◌∷◌, ◌++◌, length, get_or, take, drop, set, sym, refl, ap, ◌∙◌, ap₂, append_assoc, append-nil, add-zero, add-one, arith}
use native.Mathlib.Decide.{le_ind}
use Rattle.std.proofs.lemmas.List.{set_at, length-append, drop_more, drop-set-lt, length-take-le}
use Rattle.std.specs.List.{count_by}
use Rattle.std.proofs.lemmas.List.Sums.{count_by_more_no, count_by_more_yes}
use Rattle.std.proofs.lemmas.Bool.{le-ltb, lt-ltb}
use Rattle.patterns.specs.Spellings.{longest}
use Rattle.patterns.specs.Texts.{digit, byte_of, text_to, with_digit}

pub text_more : (ss vs : List ℕ) (k : ℕ) → text_to ss vs (k + 1) ≡ text_to ss vs k ++ byte_of (get_or ss k 0) ∷ digit (get_or vs (k + 1) 0)
unfolding text_to
text_more ss vs k = ap (text_to ss vs) (add-one k) ∙ ap (λ (x : ℕ). text_to ss vs k ++ byte_of (get_or ss k 0) ∷ digit (get_or vs x 0)) (sym (add-one k))

-- a value has a digit, or none
pub digit_le : (v : ℕ) → length (digit v) ≤ 1
digit_le zero = omega arith
digit_le (suc v) = omega arith

pub len_more : (ss vs : List ℕ) (k : ℕ) → length (text_to ss vs (k + 1)) ≡ length (text_to ss vs k) + (1 + length (digit (get_or vs (k + 1) 0)))
len_more ss vs k =
    ap length (text_more ss vs k) ∙ length-append (text_to ss vs k) (byte_of (get_or ss k 0) ∷ digit (get_or vs (k + 1) 0))
    ∙ ap (λ (x : ℕ). length (text_to ss vs k) + x) (omega arith)

rises : (ss vs : List ℕ) (k : ℕ) → length (text_to ss vs k) ≤ length (text_to ss vs (suc k))
rises ss vs k = omega (arith, len_more ss vs k, ap (λ (x : ℕ). length (text_to ss vs x)) (add-one k))

pub len_mono : (ss vs : List ℕ) (k m : ℕ) → k ≤ m → length (text_to ss vs k) ≤ length (text_to ss vs m)
len_mono ss vs k m h = le_ind (λ (j : ℕ). length (text_to ss vs k) ≤ length (text_to ss vs j)) (omega arith) (λ j _ q. omega (arith, q, rises ss vs j)) m h

-- ---- the length: a byte for each symbol, and one for each value above 0

value_counted : (vs : List ℕ) (k v : ℕ) → k < length vs → get_or vs k 0 ≡ v → count_by (λ x. ltb 0 x) (take (k + 1) vs) ≡ count_by (λ x. ltb 0 x) (take k vs) + length (digit v)
value_counted vs k zero h e = count_by_more_no (λ x. ltb 0 x) vs k 0 h (le-ltb 0 (get_or vs k 0) (omega arith)) ∙ omega arith
value_counted vs k (suc v) h e = count_by_more_yes (λ x. ltb 0 x) vs k 0 h (lt-ltb 0 (get_or vs k 0) (omega arith))

values_counted : (ss vs : List ℕ) (k : ℕ) → k < length vs → length (text_to ss vs k) ≡ k + count_by (λ x. ltb 0 x) (take (k + 1) vs)
unfolding text_to
values_counted ss vs zero h = let a = value_counted vs 0 (get_or vs 0 0) h refl in omega arith
values_counted ss vs (suc k) h =
    let a = values_counted ss vs k (omega arith) in
    let b = value_counted vs (suc k) (get_or vs (suc k) 0) h refl in
    let c = length-append (text_to ss vs k) (byte_of (get_or ss k 0) ∷ digit (get_or vs (suc k) 0)) in
    let d = ap (λ (j : ℕ). count_by (λ x. ltb 0 x) (take j vs)) (add-one k) in
    omega arith

pub text_counted : (ss vs : List ℕ) (n : ℕ) → length ss ≡ n → n < length vs → n + count_by (λ x. ltb 0 x) (take (n + 1) vs) ≡ length (text_to ss vs (length ss))
text_counted ss vs n e h = sym (values_counted ss vs n h) ∙ ap (λ (k : ℕ). length (text_to ss vs k)) (sym e)

-- ---- the bytes

pub put_front : (T E out : List ℕ) (i b : ℕ) → i ≡ length T → i < length E → out ≡ T ++ drop i E → set out i b ≡ (T ++ b ∷ []) ++ drop (i + 1) E
put_front T E out i b e h o =
    ap (λ (x : List ℕ). set x i b) (o ∙ ap (λ (x : List ℕ). T ++ x) (drop_more E i 0 h))
    ∙ set_at T (get_or E i 0) (drop (i + 1) E) b i (sym e)
    ∙ sym (append_assoc T (b ∷ []) (drop (i + 1) E))

pub put_digit_front : (T E out : List ℕ) (i v : ℕ) → i ≡ length T → i + length (digit v) ≤ length E → out ≡ T ++ drop i E → with_digit out i v ≡ (T ++ digit v) ++ drop (i + length (digit v)) E
put_digit_front T E out i zero e h o = o ∙ ap₂ (λ (x : List ℕ) (j : ℕ). x ++ drop j E) (sym (append-nil T)) (sym (add-zero i))
put_digit_front T E out i (suc v) e h o = put_front T E out i (48 + suc v) e (omega arith) o

-- the first digit, and what it leaves behind
pub digit_first : (out : List ℕ) (v : ℕ) → length (digit v) ≤ length out → with_digit out 0 v ≡ digit v ++ drop (length (digit v)) (with_digit out 0 v)
digit_first out zero h = refl
digit_first [] (suc v) h = absurd (omega arith)
digit_first (x ∷ out) (suc v) h = refl

pub digit_behind : (out : List ℕ) (v n : ℕ) → length (digit v) ≤ n → drop n (with_digit out 0 v) ≡ drop n out
digit_behind out zero n h = refl
digit_behind out (suc v) n h = drop-set-lt n out 0 (48 + suc v) (omega arith)

pub symbols_length : (n : ℕ) (S : List ℕ) → n ≤ longest → length S ≡ longest → length (take n S) ≡ n
symbols_length n S h e = length-take-le n S (omega arith)
