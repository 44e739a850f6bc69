-- What a word line is, in the words of the subject, and where the fault of another line stands.
use Rattle.std.specs.Prelude.{◌≡◌, ℕ, ◌+◌, ◌-◌, ◌<◌, ◌≤◌, Bool, true, ◌⊎◌, List, [], ◌++◌, length, take, Some, None}
use Rattle.words.specs.declared.line.Kind.TheVariants.{Mark}
use Rattle.text.specs.Refusals.{Refused, at_byte}
use Rattle.words.specs.Words.{Headword, hyphen, longest}
use Rattle.words.specs.Line.{kind_at, is_letter, letters_to, Reading, blank, spells, refused}

-- byte i of a line is a letter; a mark, be it a hyphen or none; a hyphen
abbrev pub LetterAt : List ℕ → ℕ → Type 0
LetterAt line i = is_letter (kind_at line i) ≡ true

abbrev pub MarkAt : List ℕ → ℕ → Type 0
MarkAt line i = (h : Bool) × (kind_at line i ≡ Some (Mark h))

abbrev pub HyphenAt : List ℕ → ℕ → Type 0
HyphenAt line i = kind_at line i ≡ Some (Mark true)

-- a letter stands right before byte i, and one right after it
abbrev pub BetweenLetters : List ℕ → ℕ → Type 0
BetweenLetters line i = (1 ≤ i) × LetterAt line (i - 1) × LetterAt line (i + 1)

-- letters with at most one mark between neighbours, and none at the ends
pub record Formed (line : List ℕ) : Type 0 where
  pub some : 1 ≤ length line
  pub each : (i : ℕ) → i < length line → LetterAt line i ⊎ (MarkAt line i × BetweenLetters line i)

-- such a line of at most 48 letters
pub record WordLine (line : List ℕ) : Type 0 where
  pub formed : Formed line
  pub few : length (letters_to line (length line)) ≤ longest

-- its word: the letters of the line in their order, and a hyphen after p letters just where the line has one
pub record WordOf (line : List ℕ) (w : Headword) : Type 0 where
  pub letters : w.0 ≡ letters_to line (length line)
  pub from : (p : ℕ) → hyphen w p ≡ true → (i : ℕ) × (i < length line) × HyphenAt line i × (length (letters_to line i) ≡ p)
  pub into : (i : ℕ) → i < length line → HyphenAt line i → hyphen w (length (letters_to line i)) ≡ true

-- what stands there could be the beginning of a word line
abbrev pub Hopeful : List ℕ → Type 0
Hopeful front = (rest : List ℕ) × WordLine (front ++ rest)

-- 48 letters are there and a mark after the last of them: nothing wrong so far, and no byte can follow
pub record Spent (line : List ℕ) (i : ℕ) : Type 0 where
  pub some : 1 ≤ i
  pub mark : MarkAt line (i - 1)
  pub all : length (letters_to line i) ≡ longest

-- why byte i offends: it is no letter and no mark; it is a mark; it is a letter after 48 letters
pub data Cause (line : List ℕ) (i : ℕ) : ℕ → Type 0 where
  no_letter : kind_at line i ≡ None → Cause line i 6
  loose_mark : MarkAt line i → Cause line i 7
  too_long : LetterAt line i → length (letters_to line i) ≡ longest → Cause line i 8

-- the fault of a line that is not empty and is no word line, at its byte i, which is column i + 1
pub record FaultAt (number : ℕ) (line : List ℕ) (r : Refused) (i k : ℕ) : Type 0 where
  pub says : r ≡ at_byte k number (i + 1)
  pub inside : i < length line
  pub cause : Cause line i k
  -- what comes before it could still become a word line, or a mark follows the 48th letter
  pub before : Hopeful (take i line) ⊎ Spent line i
  -- with the offending byte it no longer can, or that byte is a mark that ends the line
  pub after : (Hopeful (take (i + 1) line) → ⊥) ⊎ (MarkAt line i × (i + 1 ≡ length line))
  pub refuses : WordLine line → ⊥

-- what the reading of line `number` says of the line
abbrev pub Judged : ℕ → List ℕ → Reading → Type 0
Judged number line blank = line ≡ []
Judged number line (spells w) = WordLine line × WordOf line w
Judged number line (refused r) = (i : ℕ) × (k : ℕ) × FaultAt number line r i k
