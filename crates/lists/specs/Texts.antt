-- The word list of a text: a word line a word.
use Rattle.std.specs.Prelude.{◌≡◌, ℕ, suc, ◌+◌, ◌<◌, ◌≤◌, cond, ◌⊎◌, List, [], ◌∷◌, ◌++◌, length, take, nat_le, slice_index_or}
use Rattle.std.proofs.Common.{inl, inr}
use Rattle.text.specs.Lines.{lines_of}
use Rattle.text.specs.Refusals.{at_byte}
use Rattle.words.specs.Words.{Headword}
use Rattle.words.specs.Line.{Reading, blank, spells, refused, reading}
use Rattle.lists.specs.Listing.{fullest, Ending, clean, stops, Content, overfull}

-- what line n adds, where c words came before it: an empty line nothing, and any other a word or the ending
abbrev pub content_by : Reading → ℕ → ℕ → Content → Content → Content
content_by blank n c without more = without
content_by (spells w) n c without more = cond (nat_le fullest c) (overfull n) (w ∷ more.0, more.1)
content_by (refused r) n c without more = cond (nat_le fullest c) (overfull n) ([], stops r)

-- what lines come to, the first of which has the number n, where c words came before them
unfoldable pub content_from : ℕ → ℕ → List (List ℕ) → Content
content_from n c [] = ([], clean)
content_from n c (l ∷ ls) = content_by (reading n l) n c (content_from (suc n) c ls) (content_from (suc n) (suc c) ls)

abbrev pub text_content : List ℕ → Content
text_content text = content_from 1 0 (lines_of text)

abbrev pub text_words : List ℕ → List Headword
text_words text = (text_content text).0

abbrev pub text_ending : List ℕ → Ending
text_ending text = (text_content text).1

-- ---- the same in other words

-- the words that lines spell, the first of which has the number n
abbrev pub word_in : Reading → List Headword
word_in blank = []
word_in (spells w) = w ∷ []
word_in (refused r) = []

abbrev pub spelled_by : ℕ → List (List ℕ) → List Headword
spelled_by n [] = []
spelled_by n (l ∷ ls) = word_in (reading n l) ++ spelled_by (suc n) ls

-- a line is empty or spells a word
abbrev pub Passes : Reading → Type 0
Passes blank = Unit {0}
Passes (spells w) = Unit {0}
Passes (refused r) = ⊥

-- lines that have been passed, k of them with c words, and how the list ends there: cleanly with the last line, or
-- at a line that is not empty, which is one word too many or is refused itself
abbrev pub EndsThere : ℕ → List (List ℕ) → ℕ → ℕ → Ending → Type 0
EndsThere n ls k c (inl u) = k ≡ length ls
EndsThere n ls k c (inr r) =
    (k < length ls) × (0 < length (slice_index_or ls k []))
    × (((c ≡ fullest) × (r ≡ at_byte 9 (n + k) 1)) ⊎ ((c < fullest) × (reading (n + k) (slice_index_or ls k []) ≡ refused r)))

-- the words are those of the lines before the ending, in their order, one for each line that is not empty
pub record Listed (n before : ℕ) (ls : List (List ℕ)) (content : Content) : Type 0 where
  pub passed : ℕ
  pub all : passed ≤ length ls
  pub words : content.0 ≡ spelled_by n (take passed ls)
  pub pass : (i : ℕ) → i < passed → Passes (reading (n + i) (slice_index_or ls i []))
  pub ends : EndsThere n ls passed (before + length content.0) content.1
