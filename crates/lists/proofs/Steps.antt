-- One line of a text more: what it adds to the list.
use Rattle.std.proofs.Common.{◌≡◌, ℕ, suc, ◌+◌, ◌<◌, ◌≤◌, Bool, true, false, eqb, leb, ◌⊎◌, List, [], ◌∷◌, length, get_or, drop, is_some as option_is_some, Some, None, Ok, Option, Result, sym, refl, ap, ◌∙◌, subst, ap₂, ⊎_elim, add-one, arith, Bor}
use Rattle.std.proofs.lemmas.List.{nil_from_length, length-drop, drop_more}
use Rattle.std.proofs.lemmas.Bool.{cond-true, cond-false, le-leb, lt-leb, eqb-true, eqb-false, false≢true}
use Rattle.words.specs.declared.word.Word.{Word}
use Rattle.words.specs.declared.line.LineFault.{LineFault}
use Rattle.text.specs.Refusals.{Refused, at_byte}
use Rattle.words.specs.Faults.{line_refused}
use Rattle.words.specs.Words.{Headword}
use Rattle.words.specs.Line.{First, none, fault, Reading, blank, spells, refused, reading_by, reading}
use Rattle.words.specs.Views.{headword, answer}
use Rattle.text.specs.declared.cursor.Lines.{Lines}
use Rattle.text.specs.Lines.{lines_of}
use Rattle.text.specs.Cursor.{unread, NextLine}
use Rattle.lists.specs.declared.fault.ListFault.{ListFault}
use Rattle.lists.specs.Listing.{fullest, Ending, clean, stops, Content, overfull}
use Rattle.lists.specs.Texts.{content_by, content_from}
use Rattle.lists.specs.Calls.{Gives}

-- ---- just the empty line is blank

pub blank_empty : (n : ℕ) (l : List ℕ) → l ≡ [] → reading n l ≡ blank
unfolding reading
blank_empty n l e = ap (reading n) e

not_blank : (n : ℕ) (f : First) (w : Headword) → reading_by n f w ≡ blank → ⊥
not_blank n none w e = let z : ◌≡◌ {A = ℕ} 0 1 = cc in omega arith
not_blank n (fault k c) w e = let z : ◌≡◌ {A = ℕ} 0 1 = cc in omega arith

pub some_bytes : (n : ℕ) (l : List ℕ) → (reading n l ≡ blank → ⊥) → 0 < length l
unfolding reading
some_bytes n [] f = absurd (f refl)
some_bytes n (b ∷ bs) f = omega arith

bytes_some : (n : ℕ) (l : List ℕ) → 0 < length l → reading n l ≡ blank → ⊥
unfolding reading
bytes_some n [] h = absurd (omega arith)
bytes_some n (b ∷ bs) h = not_blank n _ _

pub spells_not : (n : ℕ) (l : List ℕ) (w : Headword) → reading n l ≡ spells w → reading n l ≡ blank → ⊥
spells_not n l w e f = let z : ◌≡◌ {A = ℕ} 0 1 = cc in omega arith

pub refused_not : (n : ℕ) (l : List ℕ) (r : Refused) → reading n l ≡ refused r → reading n l ≡ blank → ⊥
refused_not n l r e f = let z : ◌≡◌ {A = ℕ} 0 1 = cc in omega arith

-- a line that was tested to be empty, or not
pub is_empty : (l : List ℕ) (b : Bool) → b ≡ eqb (length l) 0 → b ≡ true → l ≡ []
is_empty l b e t = nil_from_length l (eqb-true (length l) 0 (sym e ∙ t))

pub is_some : (l : List ℕ) (b : Bool) → b ≡ eqb (length l) 0 → b ≡ false → 0 < length l
is_some l b e f = let ne : length l ≡ 0 → ⊥ = eqb-false (length l) 0 (sym e ∙ f) in omega arith

-- ---- the next line of a reader, where c words came before it

full_by : (r : Reading) (n c : ℕ) (without more : Content) → (r ≡ blank → ⊥) → fullest ≤ c → content_by r n c without more ≡ overfull n
full_by blank n c without more f h = absurd (f refl)
full_by (spells w) n c without more f h = cond-true (leb fullest c) _ _ (le-leb fullest c h)
full_by (refused r) n c without more f h = cond-true (leb fullest c) _ _ (le-leb fullest c h)

module _ (before after : Lines) (line : Bor (List ℕ)) (c : ℕ) (next : NextLine before (Some line) after) where
  -- what was left, and what is left behind the line
  abbrev all : Content
  all = content_from (before.number + 1) c (lines_of (unread before))

  abbrev behind : ℕ → Content
  behind d = content_from (after.number + 1) d (lines_of (unread after))

  by_reading : (r : Reading) → r ≡ reading after.number line.now → all ≡ content_by r after.number c (behind c) (behind (c + 1))
  unfolding content_from
  by_reading r q =
      let n = after.number in
      let ls = lines_of (unread after) in
      ap₂ (λ (x : ℕ) (y : List (List ℕ)). content_from x c y) (sym next.2) next.1
      ∙ ap (λ (x : Reading). content_by x n c (content_from (suc n) c ls) (content_from (suc n) (suc c) ls)) (sym q)
      ∙ ap₂ (λ (x y : ℕ). content_by r n c (content_from x c ls) (content_from x y ls)) (sym (add-one n)) (sym (add-one c))

  pub full_line : 0 < length line.now → fullest ≤ c → all ≡ ([], stops (at_byte 9 after.number 1))
  full_line h f = by_reading (reading after.number line.now) refl ∙ full_by (reading after.number line.now) after.number c _ _ (bytes_some after.number line.now h) f

  -- no word too many has been read, or the line is empty
  room : (r : Reading) → r ≡ reading after.number line.now → (r ≡ blank → ⊥) → (c < fullest) ⊎ (line.now ≡ []) → c < fullest
  room r q f = ⊎_elim (λ h. h) (λ z. absurd (f (q ∙ blank_empty after.number line.now z)))

  pub bad_line : (f : LineFault) → refused (line_refused f) ≡ reading after.number line.now → (c < fullest) ⊎ (line.now ≡ []) → all ≡ ([], stops (line_refused f))
  bad_line f q h =
      let k = room (refused (line_refused f)) q (λ b. refused_not after.number line.now (line_refused f) (sym q) (sym q ∙ b)) h in
      by_reading (refused (line_refused f)) q ∙ cond-false (leb fullest c) _ _ (lt-leb fullest c k)

  pub good_line : (word : Option Word) → option_is_some word ≡ true → answer (Ok word) ≡ reading after.number line.now → (c < fullest) ⊎ (line.now ≡ []) → Gives all (Ok word) (behind (c + 1))
  good_line None t q h = absurd (false≢true t)
  good_line (Some w) t q h =
      let k = room (spells (headword w)) q (λ b. spells_not after.number line.now (headword w) (sym q) (sym q ∙ b)) h in
      by_reading (spells (headword w)) q ∙ cond-false (leb fullest c) _ _ (lt-leb fullest c k)

  pub empty_line : (word : Option Word) → option_is_some word ≡ false → answer (Ok word) ≡ reading after.number line.now → all ≡ behind c
  empty_line None t q = by_reading blank q
  empty_line (Some w) t q = absurd (false≢true (sym t))

pub no_line : (n c : ℕ) (text : List ℕ) → text ≡ [] → content_from n c (lines_of text) ≡ ([], clean)
unfolding content_from lines_of
no_line n c text e = ap (λ (x : List ℕ). content_from n c (lines_of x)) e

-- the same list, said in other words
pub gives_from : (a b rest : Content) (r : Result (Option Word) ListFault) → a ≡ b → Gives b r rest → Gives a r rest
gives_from a b rest r e h = subst (λ (x : Content). Gives x r rest) (sym e) h

-- ---- a word that was taken from a list

pub word_taken : (words : List Headword) (ending : Ending) (n : ℕ) (all rest : Content) (word : Option Word) → option_is_some word ≡ true → Gives all (Ok word) rest →
    drop n words ≡ all.0 → ending ≡ all.1 → (n + 1 ≤ length words) × (drop (n + 1) words ≡ rest.0) × (ending ≡ rest.1)
word_taken words ending n all rest None t g p q = absurd (false≢true t)
word_taken words ending n all rest (Some w) t g p q =
    let e : drop n words ≡ headword w ∷ rest.0 = p ∙ ap (λ (x : Content). x.0) g in
    let l : n < length words = omega (arith, length-drop n words, ap length e) in
    let f : get_or words n (headword w) ∷ drop (n + 1) words ≡ headword w ∷ rest.0 = sym (drop_more words n (headword w) l) ∙ e in
    (omega arith, ap (drop 1) f, q ∙ ap (λ (x : Content). x.1) g)
