-- The refusals of words and bounds: each case of a fault, with its number and values.
use Rattle.text.specs.Refusals.{Refused, bare, at_byte}
use Rattle.words.specs.declared.line.LineFault.{LineFault}
use Rattle.words.specs.declared.line.LineFault.TheVariants.{NoLetter, LooseMark, TooLong}

-- a word line
abbrev pub line_refused : LineFault → Refused
line_refused (NoLetter line column) = at_byte 6 line column
line_refused (LooseMark line column) = at_byte 7 line column
line_refused (TooLong line column) = at_byte 8 line column

-- a setting or bound out of range
abbrev pub range_refused : Refused
range_refused = bare 1
