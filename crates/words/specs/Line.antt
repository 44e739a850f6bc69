-- How a word line is read, byte by byte.
use Rattle.std.specs.Prelude.{ℕ, zero, suc, ◌+◌, ◌-◌, ◌^◌, Bool, true, false, cond, ◌&&◌, ◌||◌, List, [], ◌∷◌, ◌++◌, length, Some, None, Option, ◌==◌, nat_le, nat_lt, slice_index}
use Rattle.words.specs.declared.line.Kind.{Kind}
use Rattle.words.specs.declared.line.Kind.TheVariants.{Letter, Mark}
use Rattle.text.specs.Refusals.{Refused, at_byte}
use Rattle.words.specs.Words.{Headword, longest}

-- a letter, small or capital, with its symbol; a mark, which is a hyphen (- and *) or none (.); or neither
abbrev pub kind_of : ℕ → Option Kind
kind_of b =
    cond (nat_le 97 b && nat_le b 122) (Some (Letter (b - 96)))
    (cond (nat_le 65 b && nat_le b 90) (Some (Letter (b - 64)))
    (cond (b == 45 || b == 42) (Some (Mark true)) (cond (b == 46) (Some (Mark false)) None)))

-- the kind of byte i, from 0
abbrev pub kind_at : List ℕ → ℕ → Option Kind
kind_at line i = kind_of (slice_index line i)

abbrev pub is_letter : Option Kind → Bool
is_letter (Some (Letter s)) = true
is_letter (Some (Mark h)) = false
is_letter None = false

-- the symbols that a byte adds to the word
abbrev pub symbols_of : Option Kind → List ℕ
symbols_of (Some (Letter s)) = s ∷ []
symbols_of (Some (Mark h)) = []
symbols_of None = []

-- the bit of a byte that comes after n letters: a hyphen there is at position n
abbrev pub bit_of : Option Kind → ℕ → ℕ
bit_of (Some (Letter s)) n = 0
bit_of (Some (Mark h)) n = cond h (2 ^ n) 0
bit_of None n = 0

-- the letters among the first i bytes
unfoldable pub letters_to : List ℕ → ℕ → List ℕ
letters_to line zero = []
letters_to line (suc i) = letters_to line i ++ symbols_of (kind_at line i)

-- the marks of the hyphens among the first i bytes
unfoldable pub marks_to : List ℕ → ℕ → ℕ
marks_to line zero = 0
marks_to line (suc i) = marks_to line i + bit_of (kind_at line i) (length (letters_to line i))

-- whether a letter stands right before byte i
unfoldable pub after_letter : List ℕ → ℕ → Bool
after_letter line zero = false
after_letter line (suc i) = is_letter (kind_at line i)

-- the number of the refusal that a byte deserves, or 0: a byte that is no letter and no mark, a mark that is not after
-- a letter or is last in its line, and a letter too many
abbrev pub fault_of : Option Kind → Bool → Bool → ℕ → ℕ
fault_of (Some (Letter s)) after last n = cond (nat_lt n longest) 0 8
fault_of (Some (Mark h)) after last n = cond after (cond last 7 0) 7
fault_of None after last n = 6

unfoldable pub fault_at : List ℕ → ℕ → ℕ
fault_at line i = fault_of (kind_at line i) (after_letter line i) (nat_le (length line) (i + 1)) (length (letters_to line i))

-- the first offending byte among the first i: its refusal and its column
pub data First : Type 0 where
  none : First
  fault : ℕ → ℕ → First

abbrev pub first_of : ℕ → ℕ → First
first_of zero i = none
first_of (suc k) i = fault (suc k) (suc i)

abbrev pub or_else : First → First → First
or_else none g = g
or_else (fault k c) g = fault k c

unfoldable pub first_to : List ℕ → ℕ → First
first_to line zero = none
first_to line (suc i) = or_else (first_to line i) (first_of (fault_at line i) i)

-- what a line of a list comes to: an empty line holds no word; any other spells one or is refused
pub data Reading : Type 0 where
  blank : Reading
  spells : Headword → Reading
  refused : Refused → Reading

abbrev pub reading_by : ℕ → First → Headword → Reading
reading_by number none w = spells w
reading_by number (fault k c) w = refused (at_byte k number c)

-- line `number` of a text
unfoldable pub reading : ℕ → List ℕ → Reading
reading number [] = blank
reading number (b ∷ bs) =
    let line = b ∷ bs in
    reading_by number (first_to line (length line)) (letters_to line (length line), marks_to line (length line))
