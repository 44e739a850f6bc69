-- Pattern text, written and read.
use Rattle.std.specs.Prelude.{ℕ, zero, suc, ◌+◌, ◌-◌, Bool, true, false, cond, ◌&&◌, ◌||◌, List, [], ◌∷◌, ◌++◌, length, replicate, ◌==◌, nat_le, nat_lt, slice_index, slice_set, Some, None, Option}
use Rattle.text.specs.Refusals.{Refused, at_byte}
use Rattle.patterns.specs.declared.reading.Piece.{Piece}
use Rattle.patterns.specs.declared.reading.Piece.TheVariants.{Symbol, Digit}
use Rattle.patterns.specs.Spellings.{longest, places, any_above_zero, Spelled}

-- ---- writing: the value of place 0, the first symbol, the value of place 1, and so on, with values of 0 left out

abbrev pub digit : ℕ → List ℕ
digit zero = []
digit (suc d) = (48 + suc d) ∷ []

-- a letter, or a full stop for the edge
abbrev pub byte_of : ℕ → ℕ
byte_of zero = 46
byte_of (suc s) = 96 + suc s

-- up to place k
unfoldable pub text_to : List ℕ → List ℕ → ℕ → List ℕ
text_to symbols values zero = digit (slice_index values 0)
text_to symbols values (suc k) = text_to symbols values k ++ byte_of (slice_index symbols k) ∷ digit (slice_index values (suc k))

abbrev pub text_of : Spelled → List ℕ
text_of p = text_to p.0 p.1 (length p.0)

-- ---- reading

-- a small letter or a full stop with its symbol, a digit 1 to 9 with its value, or neither
abbrev pub piece_of : ℕ → Option Piece
piece_of b =
    cond (nat_le 97 b && nat_le b 122) (Some (Symbol (b - 96)))
    (cond (b == 46) (Some (Symbol 0)) (cond (nat_le 49 b && nat_le b 57) (Some (Digit (b - 48))) None))

-- what byte i is, from 0
abbrev pub piece_at : List ℕ → ℕ → Option Piece
piece_at text i = piece_of (slice_index text i)

abbrev pub symbol_in : Option Piece → List ℕ
symbol_in (Some (Symbol s)) = s ∷ []
symbol_in (Some (Digit d)) = []
symbol_in None = []

-- a digit behind n symbols is the value of place n
abbrev pub with_value : Option Piece → ℕ → List ℕ → List ℕ
with_value (Some (Symbol s)) n values = values
with_value (Some (Digit d)) n values = slice_set values n d
with_value None n values = values

abbrev pub is_digit : Option Piece → Bool
is_digit (Some (Symbol s)) = false
is_digit (Some (Digit d)) = true
is_digit None = false

-- the symbols among the first i bytes, the values that these give, and whether the last of them is a digit
unfoldable pub symbols_to : List ℕ → ℕ → List ℕ
symbols_to text zero = []
symbols_to text (suc i) = symbols_to text i ++ symbol_in (piece_at text i)

unfoldable pub values_to : List ℕ → ℕ → List ℕ
values_to text zero = replicate places 0
values_to text (suc i) = with_value (piece_at text i) (length (symbols_to text i)) (values_to text i)

unfoldable pub after_digit : List ℕ → ℕ → Bool
after_digit text zero = false
after_digit text (suc i) = is_digit (piece_at text i)

-- no symbol may follow n symbols: fifteen came, or an edge that is not first
abbrev pub shut : List ℕ → ℕ → Bool
shut symbols n = nat_le longest n || (nat_lt 1 n && slice_index symbols (n - 1) == 0)

-- whether a piece offends: a symbol that may not follow, a digit after a digit, or neither symbol nor digit
abbrev pub offends : Option Piece → Bool → List ℕ → Bool
offends (Some (Symbol s)) after symbols = shut symbols (length symbols)
offends (Some (Digit d)) after symbols = after
offends None after symbols = true

unfoldable pub offends_at : List ℕ → ℕ → Bool
offends_at text i = offends (piece_at text i) (after_digit text i) (symbols_to text i)

-- the column of the first offending byte among the first i, or 0
abbrev pub or_else : ℕ → ℕ → ℕ
or_else zero c = c
or_else (suc b) c = suc b

unfoldable pub first_to : List ℕ → ℕ → ℕ
first_to text zero = 0
first_to text (suc i) = or_else (first_to text i) (cond (offends_at text i) (suc i) 0)

-- one past the end where no letter or no digit came, else 0
abbrev pub lacking : List ℕ → List ℕ → ℕ → ℕ
lacking symbols values n = cond (any_above_zero symbols && any_above_zero values) 0 (n + 1)

pub data Reading : Type 0 where
  spells : Spelled → Reading
  refused : Refused → Reading

abbrev pub reading_by : ℕ → Spelled → Reading
reading_by zero p = spells p
reading_by (suc c) p = refused (at_byte 14 1 (suc c))

unfoldable pub reading : List ℕ → Reading
reading text =
    let n = length text in
    reading_by (or_else (first_to text n) (lacking (symbols_to text n) (values_to text n) n)) (symbols_to text n, values_to text n)

-- ---- writing into memory

-- a value above 0 at place i of the memory
abbrev pub with_digit : List ℕ → ℕ → ℕ → List ℕ
with_digit memory i zero = memory
with_digit memory i (suc d) = slice_set memory i (48 + suc d)
