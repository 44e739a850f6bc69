-- Padded words, their symbols and their parts.
use Rattle.std.proofs.Common.{◌≡◌, ℕ, zero, suc, ◌+◌, ◌-◌, ◌<◌, ◌≤◌, Bool, ◌&&◌, leb, ◌⊎◌, List, [], ◌∷◌, length, get_or, take, drop, sym, refl, ap, ◌∙◌, inl, inr, ⊎_elim, arith}
use Rattle.std.proofs.lemmas.List.{get_or_append_left, get_or-append_right, get_or-take, get_or-drop, length-take-le, length-drop, length-append, ext_get_or}
use Rattle.std.proofs.lemmas.Bool.{cases_lt, le-leb}
use Rattle.words.specs.Words.{Headword, alphabet}
use Rattle.words.specs.declared.word.Word.{Word}
use Rattle.words.specs.Views.{headword}
use Rattle.patterns.specs.Spellings.{longest, any_above_zero}
use Rattle.patterns.specs.Parts.{padded, part, is_spelling}
-- zeros behind do not matter
pub use Rattle.patterns.proofs.Spells.{above_front}

pub letters_length : (w : Word) → length (take w.len w.letters) ≡ w.len
letters_length w = length-take-le w.len w.letters (omega (arith, w.full, w.sized.1))

pub padded_length : (w : Headword) → length (padded w) ≡ length w.0 + 2
padded_length w = let e = length-append w.0 (0 ∷ []) in omega arith

-- a letter
pub padded_letter : (w : Word) (p : ℕ) → p < w.len → get_or (padded (headword w)) (suc p) 0 ≡ get_or w.letters p 0
padded_letter w p h =
    let e = letters_length w in
    get_or_append_left (take w.len w.letters) (0 ∷ []) 0 p (omega arith) ∙ get_or-take w.len w.letters p 0 h

-- an edge, or what lies beyond it
lone : (k : ℕ) → get_or {A = ℕ} (0 ∷ []) k 0 ≡ 0
lone zero = refl
lone (suc k) = refl

pub padded_edge : (w : Word) (p : ℕ) → (p < 1) ⊎ (w.len < p) → get_or (padded (headword w)) p 0 ≡ 0
padded_edge w zero h = refl
padded_edge w (suc p) (inl h) = absurd (omega arith)
padded_edge w (suc p) (inr h) =
    get_or-append_right (take w.len w.letters) (0 ∷ []) w.len p 0 (letters_length w) (omega arith) ∙ lone (p - w.len)

pub padded_at : (w : Word) (p : ℕ) → 1 ≤ p → p ≤ w.len → get_or w.letters (p - 1) 0 ≡ get_or (padded (headword w)) p 0
padded_at w zero l h = absurd (omega arith)
padded_at w (suc p) l h = let e : suc p - 1 ≡ p = omega arith in ap (λ (q : ℕ). get_or w.letters q 0) e ∙ sym (padded_letter w p (omega arith))

-- every symbol of a padded word is one, and those between the edges are letters
pub padded_symbol : (w : Word) (p : ℕ) → get_or (padded (headword w)) p 0 ≤ alphabet
padded_symbol w zero = omega arith
padded_symbol w (suc p) =
    ⊎_elim
    (λ (h : p < w.len). let e = padded_letter w p h in omega (arith, (w.lettered p h).1))
    (λ (h : w.len ≤ p). let e = padded_edge w (suc p) (inr (omega arith)) in omega arith)
    (cases_lt p w.len)

pub padded_inner : (w : Word) (p : ℕ) → 0 < p → p ≤ w.len → 0 < get_or (padded (headword w)) p 0
padded_inner w zero l h = absurd (omega arith)
padded_inner w (suc p) l h = let h' : p < w.len = omega arith in let e = padded_letter w p h' in omega (arith, (w.lettered p h').0)

-- ---- the symbols of a part in an array, and then only 0

pub record Cut (w : Word) (s m : ℕ) (symbols : List ℕ) : Type 0 where
  pub full : length symbols ≡ longest
  pub here : (k : ℕ) → k < m → get_or symbols k 0 ≡ get_or (padded (headword w)) (s + k) 0
  pub unused : (k : ℕ) → m ≤ k → get_or symbols k 0 ≡ 0

pub cut_part : (w : Word) (s m : ℕ) (symbols : List ℕ) → m ≤ longest → s + m ≤ w.len + 2 → Cut w s m symbols → take m symbols ≡ part (padded (headword w)) s m
cut_part w s m symbols h l c =
    let n : length (take m symbols) ≡ m = length-take-le m symbols (omega (arith, c.full)) in
    let a = padded_length (headword w) in
    let b = letters_length w in
    let d = length-drop s (padded (headword w)) in
    let o : length (part (padded (headword w)) s m) ≡ m = length-take-le m (drop s (padded (headword w))) (omega arith) in
    ext_get_or 0 (take m symbols) (part (padded (headword w)) s m) (n ∙ sym o) (λ k g. let g' : k < m = omega arith in
    get_or-take m symbols k 0 g' ∙ c.here k g' ∙ sym (get_or-take m (drop s (padded (headword w))) k 0 g' ∙ get_or-drop s (padded (headword w)) k 0))

-- ---- whether a part is a spelling

-- a part that lies within the word is a spelling just where it has a letter
pub spelling_is : (w : Word) (s m : ℕ) (symbols : List ℕ) (t : Bool) → 1 ≤ m → m ≤ longest → s + m ≤ w.len + 2 → Cut w s m symbols → t ≡ any_above_zero symbols → is_spelling (headword w) s m ≡ t
spelling_is w s m symbols t a b h c e =
    let n = letters_length w in
    ap (λ (x : Bool). x && (leb m longest && (leb (s + m) (length (take w.len w.letters) + 2) && any_above_zero (part (padded (headword w)) s m)))) (le-leb 1 m a)
    ∙ ap (λ (x : Bool). x && (leb (s + m) (length (take w.len w.letters) + 2) && any_above_zero (part (padded (headword w)) s m))) (le-leb m longest b)
    ∙ ap (λ (x : Bool). x && any_above_zero (part (padded (headword w)) s m)) (le-leb (s + m) (length (take w.len w.letters) + 2) (omega arith))
    ∙ ap any_above_zero (sym (cut_part w s m symbols b h c))
    ∙ sym (above_front m symbols c.unused)
    ∙ sym e
