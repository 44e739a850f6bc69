-- The passes of a level, by their index, and the order of them in other words.
use Rattle.std.proofs.Common.{◌≡◌, ℕ, zero, suc, ◌+◌, ◌-◌, ◌*◌, ◌<◌, ◌≤◌, Bool, cond, ◌&&◌, eqb, leb, List, [], ◌∷◌, ◌++◌, map, length, get_or, Some, None, refl, ap, ◌∙◌, ⊎_elim, arith}
use Rattle.std.specs.List.{flat_map, AllByRecursion, slice_get}
use Rattle.std.proofs.lemmas.List.{length-append, length-map, get_or_append_left, get_or-append_right, get_or-map}
use Rattle.std.proofs.ByRecursion.{All-get_or, All-append, All-weaker}
use Rattle.std.proofs.lemmas.Option.{slice_get-get_or}
use Rattle.std.proofs.lemmas.Bool.{cases_lt}
use Rattle.std.proofs.lemmas.Bool.Decides.{nat_tests}
use Rattle.words.specs.Counting.{count, one, numbers}
use Rattle.levels.specs.Order.{places, Pass, passes_of, passes, is_pass, OrderOfPasses}
use Rattle.levels.proofs.Placing.{even_places, place_up, place_down, places_length, places_count}

passes_of_length : (m : ℕ) → 1 ≤ m → length (passes_of m) ≡ m + 1
passes_of_length m l = length-map {B = Pass} (places m) (λ k. (m, k)) ∙ places_length m l

-- the passes from a length on: those of it, and those of the next and on
passes_more : (m hi : ℕ) → m ≤ hi → passes m hi ≡ passes_of m ++ passes (m + 1) hi
unfolding passes
passes_more m hi h =
    let e : suc hi - m ≡ suc (suc hi - (m + 1)) = omega arith in
    let f : suc m ≡ m + 1 = omega arith in
    ap (λ (n : ℕ). flat_map passes_of (numbers m n)) e ∙ ap (λ (n : ℕ). passes_of m ++ flat_map passes_of (numbers n (suc hi - (m + 1)))) f

-- ---- the pass at an index

pub pass_here : (m hi i : ℕ) → 1 ≤ m → m ≤ hi → i ≤ m → slice_get (passes m hi) i ≡ Some (m, get_or (places m) i 0)
pass_here m hi i l h u =
    let n = passes_of_length m l in
    let k = places_length m l in
    let e = length-append (passes_of m) (passes (m + 1) hi) in
    ap (λ (ps : List Pass). slice_get ps i) (passes_more m hi h)
    ∙ slice_get-get_or (passes_of m ++ passes (m + 1) hi) i (0, 0) (omega arith)
    ∙ ap (λ (p : Pass). Some p) (get_or_append_left (passes_of m) (passes (m + 1) hi) (0, 0) i (omega arith) ∙ get_or-map (λ (k : ℕ). (m, k)) (places m) i 0 (0, 0) (omega arith))

nth_append_right : {A : Type 0} (xs ys : List A) (i : ℕ) → length xs ≤ i → slice_get (xs ++ ys) i ≡ slice_get ys (i - length xs)
nth_append_right [] ys i h = ap (slice_get ys) (omega arith)
nth_append_right (x ∷ xs) ys zero h = absurd (omega arith)
nth_append_right (x ∷ xs) ys (suc i) h = nth_append_right xs ys i (omega arith) ∙ ap (slice_get ys) (omega arith)

pub pass_on : (m hi i : ℕ) → 1 ≤ m → m ≤ hi → m < i → slice_get (passes m hi) i ≡ slice_get (passes (m + 1) hi) (i - (m + 1))
pass_on m hi i l h u =
    let n = passes_of_length m l in
    ap (λ (ps : List Pass). slice_get ps i) (passes_more m hi h)
    ∙ nth_append_right (passes_of m) (passes (m + 1) hi) i (omega arith)
    ∙ ap (λ (x : ℕ). slice_get (passes (m + 1) hi) (i - x)) n

pub pass_past : (m hi i : ℕ) → hi < m → slice_get (passes m hi) i ≡ None
unfolding passes
pass_past m hi i h = let e : suc hi - m ≡ 0 = omega arith in ap (λ (n : ℕ). slice_get (flat_map passes_of (numbers m n)) i) e

-- ---- each pass comes once

count_append : {A : Type 0} (p : A → Bool) (xs ys : List A) → count p (xs ++ ys) ≡ count p xs + count p ys
count_append p [] ys = omega arith
count_append p (x ∷ xs) ys = let i = count_append p xs ys in omega arith

count_of : (m k n : ℕ) (ks : List ℕ) → count (is_pass m k) (map (λ j. (n, j)) ks) ≡ cond (eqb m n) (count (eqb k) ks) 0
count_of m k n [] = grind (arith, nat_tests)
count_of m k n (j ∷ ks) = let i = count_of m k n ks in grind (arith, nat_tests)

count_from : (m k a n : ℕ) → 1 ≤ a → count (is_pass m k) (flat_map passes_of (numbers a n)) ≡ one ((leb a m && leb (suc m) (a + n)) && leb k m)
count_from m k a zero l = grind (arith, nat_tests)
count_from m k a (suc n) l =
    let i = count_from m k (suc a) n (omega arith) in
    let e = count_append (is_pass m k) (passes_of a) (flat_map passes_of (numbers (suc a) n)) in
    let f = count_of m k a (places a) in
    let g = places_count k a l in
    grind (arith, nat_tests)

once : (lo hi m k : ℕ) → 1 ≤ lo → count (is_pass m k) (passes lo hi) ≡ one ((leb lo m && leb m hi) && leb k m)
unfolding passes
once lo hi m k l = let i = count_from m k lo (suc hi - lo) l in grind (arith, nat_tests)

-- ---- lengths rise

of_length : (m : ℕ) (ks : List ℕ) → AllByRecursion (λ (p : Pass). p.0 ≡ m) (map (λ k. (m, k)) ks)
of_length m [] = tt
of_length m (k ∷ ks) = (refl, of_length m ks)

from_length : (a n : ℕ) → AllByRecursion (λ (p : Pass). a ≤ p.0) (flat_map passes_of (numbers a n))
from_length a zero = tt
from_length a (suc n) =
    All-append (λ (p : Pass). a ≤ p.0) (passes_of a) (flat_map passes_of (numbers (suc a) n))
    (All-weaker (λ (p : Pass). p.0 ≡ a) (λ (p : Pass). a ≤ p.0) (λ p e. omega arith) (passes_of a) (of_length a (places a)))
    (All-weaker (λ (p : Pass). suc a ≤ p.0) (λ (p : Pass). a ≤ p.0) (λ p e. omega arith) (flat_map passes_of (numbers (suc a) n)) (from_length (suc a) n))

abbrev Rising : List Pass → Type 0
Rising ps = (i j : ℕ) → i ≤ j → j < length ps → (get_or ps i (0, 0)).0 ≤ (get_or ps j (0, 0)).0

rising_append : (a : ℕ) (xs ys : List Pass) → AllByRecursion (λ (p : Pass). p.0 ≡ a) xs → AllByRecursion (λ (p : Pass). a ≤ p.0) (xs ++ ys) → Rising ys → Rising (xs ++ ys)
rising_append a xs ys here all rise i j h u =
    ⊎_elim
    (λ (l : i < length xs).
    let e = ap (λ (p : Pass). p.0) (get_or_append_left xs ys (0, 0) i l) in
    let f = All-get_or (λ (p : Pass). p.0 ≡ a) xs i (0, 0) l here in
    let g = All-get_or (λ (p : Pass). a ≤ p.0) (xs ++ ys) j (0, 0) u all in
    omega arith)
    (λ (l : length xs ≤ i).
    let e = ap (λ (p : Pass). p.0) (get_or-append_right xs ys (length xs) i (0, 0) refl l) in
    let f = ap (λ (p : Pass). p.0) (get_or-append_right xs ys (length xs) j (0, 0) refl (omega arith)) in
    let g = length-append xs ys in
    let r = rise (i - length xs) (j - length xs) (omega arith) (omega arith) in
    omega arith)
    (cases_lt i (length xs))

rising_from : (a n : ℕ) → Rising (flat_map passes_of (numbers a n))
rising_from a zero = λ i j h u. absurd (omega arith)
rising_from a (suc n) = rising_append a (passes_of a) (flat_map passes_of (numbers (suc a) n)) (of_length a (places a)) (from_length a (suc n)) (rising_from (suc a) n)

pub order_of_passes : OrderOfPasses
unfolding passes
order_of_passes =
    record {
      once = once;
      rising = λ lo hi. rising_from lo (suc hi - lo);
      even_first = λ h. ap (λ (ks : List ℕ). get_or ks 0 0) (even_places (2 * h) (omega arith)) ∙ omega arith;
      even_below = λ h j l. let i = place_down (2 * h) (2 * j + 1) (omega arith) (omega arith) (omega arith) in omega arith;
      even_above = λ h j l. let i = place_up (2 * h) (2 * j + 2) (omega arith) (omega arith) (omega arith) in omega arith;
      odd_below = λ h j l. let i = place_down (2 * h + 1) (2 * j) (omega arith) (omega arith) (omega arith) in omega arith;
      odd_above = λ h j l. let i = place_up (2 * h + 1) (2 * j + 1) (omega arith) (omega arith) (omega arith) in omega arith;
    }
