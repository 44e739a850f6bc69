-- What a refusal says.
use Rattle.std.specs.Prelude.{◌≡◌, ℕ, ◌<◌, ◌⊎◌, List, [], ◌∷◌, Ok, Err, Result}
use Rattle.text.specs.declared.refusal.NoReason.{NoReason}
use Rattle.text.specs.declared.refusal.Reason.{Reason}
use Rattle.text.specs.declared.refusal.Reason.TheVariants.{OutOfRange, LevelOpen, NoLevelLeft, NoLevelOpen, NoPassLeft, NoLetter, LooseMark, LongWord, TooManyWords, BadRow, FullTally, FullSettledBook, FullBook, BadPattern, ShortMemory, BadSheet}
use Rattle.text.specs.declared.refusal.Refusal.{Refusal}

-- Six numbers: its own number, the line and the column (both count from 1, columns in bytes), and the level, length
-- and place of the pass that met it. A number that a refusal has not is 0.
abbrev pub Refused : Type 0
Refused = List ℕ

-- a refusal with its number alone
abbrev pub bare : ℕ → Refused
bare number = number ∷ 0 ∷ 0 ∷ 0 ∷ 0 ∷ 0 ∷ []

-- one of a line of text
abbrev pub at_line : ℕ → ℕ → Refused
at_line number line = number ∷ line ∷ 0 ∷ 0 ∷ 0 ∷ 0 ∷ []

-- one of a byte of a line
abbrev pub at_byte : ℕ → ℕ → ℕ → Refused
at_byte number line column = number ∷ line ∷ column ∷ 0 ∷ 0 ∷ 0 ∷ []

-- the number of a reason
abbrev pub number_of : Reason → ℕ
number_of OutOfRange = 1
number_of LevelOpen = 2
number_of NoLevelLeft = 3
number_of NoLevelOpen = 4
number_of NoPassLeft = 5
number_of NoLetter = 6
number_of LooseMark = 7
number_of LongWord = 8
number_of TooManyWords = 9
number_of BadRow = 10
number_of FullTally = 11
number_of FullSettledBook = 12
number_of FullBook = 13
number_of BadPattern = 14
number_of ShortMemory = 15
number_of BadSheet = 16

-- what a number answers: the reason that has it; no reason has 0, or a number above 16
abbrev pub Numbered : ℕ → Result Reason NoReason → Type 0
Numbered number (Ok reason) = number_of reason ≡ number
Numbered number (Err none) = (number ≡ 0) ⊎ (16 < number)

-- the six numbers of a refusal
abbrev pub six_of : Refusal → Refused
six_of r = r.number ∷ r.line ∷ r.column ∷ r.level ∷ r.length ∷ r.place ∷ []

-- text memory that is shorter than the text
abbrev pub short_refused : Refused
short_refused = bare 15
