-- The refusal of a book.
use Rattle.text.specs.Refusals.{Refused, bare}

-- a raise that would take the book past its limit
abbrev pub full_refused : Refused
full_refused = bare 13
