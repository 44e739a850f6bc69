-- What the calls of a book answer.
use Rattle.std.specs.Prelude.{◌≡◌, ℕ, true, false, ◌||◌, List, length, Ok, Err, Option, Result, nat_lt}
use Rattle.std.specs.Option.{option_map}
use Rattle.patterns.specs.declared.pattern.Spelling.{Spelling}
use Rattle.patterns.specs.Spellings.{Spelled}
use Rattle.patterns.specs.Views.{symbols_of}
use Rattle.books.specs.declared.book.Full.{Full}
use Rattle.books.specs.Maps.{holds}
use Rattle.books.specs.Books.{Book, Raised}

-- a spelling that is answered, as a list
abbrev pub spelling : Option Spelling → Option (List ℕ)
spelling s = option_map symbols_of s

-- `raise`, where the book holds at most `limit` spellings: it is refused just where the spelling is not held and the limit is
-- reached, and then changes nothing
abbrev pub Raising : Book → ℕ → Spelled → Result (Unit {0}) Full → Book → Type 0
Raising old limit p (Ok done) new = ((holds old p.0 || nat_lt (length old) limit) ≡ true) × Raised old p new
Raising old limit p (Err full) new = ((holds old p.0 || nat_lt (length old) limit) ≡ false) × (new ≡ old)
