-- Figures with commas between them, as a loop makes them: the first, and then each of the others behind a comma.
use Rattle.std.proofs.Common.{◌≡◌, ℕ, zero, suc, ◌+◌, ◌-◌, ◌<◌, ◌≤◌, List, [], ◌∷◌, ◌++◌, length, get_or, take, drop, decimal, sym, refl, ap, ◌∙◌, append_assoc, append-nil, arith}
use Rattle.std.specs.List.{between, flat_map}
use Rattle.std.proofs.lemmas.List.{length-append, length_push, length-take, flat_map_more, take_more}
use Rattle.std.proofs.lemmas.Slice.{first_rest}
use Rattle.text.specs.Written.{commaed, overlaid}
use Rattle.text.proofs.Overlays.{overlaid_more}

-- a number behind its comma
abbrev pub behind : ℕ → List ℕ
behind n = 44 ∷ decimal n

pub commaed_first : (n : ℕ) (ns : List ℕ) → commaed (n ∷ ns) ≡ decimal n ++ flat_map behind ns
commaed_first n [] = sym (append-nil (decimal n))
commaed_first n (m ∷ ns) = ap (λ (x : List ℕ). decimal n ++ 44 ∷ x) (commaed_first m ns)

-- the same of a list that has a first
pub commaed_split : (ns : List ℕ) → 0 < length ns → commaed ns ≡ decimal (get_or ns 0 0) ++ flat_map behind (between 1 (length ns) ns)
commaed_split ns h = ap commaed (first_rest ns 0 h) ∙ commaed_first (get_or ns 0 0) (between 1 (length ns) ns)

-- one comma fewer than there are figures
pub length_commaed : (ns : List ℕ) → length (commaed ns) ≡ (length ns - 1) + length (flat_map decimal ns)
length_commaed [] = refl
length_commaed (n ∷ []) = simp append-nil (omega arith)
length_commaed (n ∷ m ∷ ns) =
    simp length-append (omega (arith, length_commaed (m ∷ ns), length-append (decimal m) (flat_map decimal ns)))

-- one more of the list
pub joined_step : (f : ℕ → List ℕ) (ns : List ℕ) (i : ℕ) → i < length ns → flat_map f (take (i + 1) ns) ≡ flat_map f (take i ns) ++ f (get_or ns i 0)
joined_step f ns i h = ap (flat_map f) (take_more ns i 0 h) ∙ sym (flat_map_more f [] (take i ns) (get_or ns i 0))

-- with one more it is no longer than with all
pub joined_room : (f : ℕ → List ℕ) (ns : List ℕ) (i : ℕ) → i < length ns → length (flat_map f (take i ns)) + length (f (get_or ns i 0)) ≤ length (flat_map f ns)
joined_room f [] i h = absurd (omega arith)
joined_room f (n ∷ ns) zero h = simp length-append (omega arith)
joined_room f (n ∷ ns) (suc i) h = simp length-append (omega (arith, joined_room f ns i (omega arith)))

-- in the room for all the figures there is room for the next one behind its comma
pub room_next : (ns : List ℕ) (at end size i : ℕ) → at + length (commaed ns) ≤ size → end ≡ at + length (decimal (get_or ns 0 0)) → i < length (between 1 (length ns) ns) → end + length (flat_map behind (take i (between 1 (length ns) ns))) + length (behind (get_or (between 1 (length ns) ns) i 0)) ≤ size
room_next ns at end size i room e h =
    let rest = between 1 (length ns) ns in
    let some : 0 < length ns = omega (arith, length-take (length ns - 1) (drop 1 ns)) in
    omega (arith, ap length (commaed_split ns some) ∙ length-append (decimal (get_or ns 0 0)) (flat_map behind rest), joined_room behind rest i h)

-- after a text a comma and a number are written
pub overlaid_behind : (m : List ℕ) (at : ℕ) (text : List ℕ) (end n : ℕ) → at + length text < length m → end ≡ at + length text → overlaid (overlaid (overlaid m at text) end (44 ∷ [])) (end + 1) (decimal n) ≡ overlaid m at (text ++ behind n)
overlaid_behind m at text end n room e =
    let long = length_push text 44 in
    ap (λ (x : List ℕ). overlaid x (end + 1) (decimal n)) (overlaid_more m at text end (44 ∷ []) (omega arith) e)
    ∙ overlaid_more m at (text ++ 44 ∷ []) (end + 1) (decimal n) (omega arith) (omega arith)
    ∙ ap (overlaid m at) (append_assoc text (44 ∷ []) (decimal n))
