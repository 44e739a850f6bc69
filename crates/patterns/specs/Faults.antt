-- The refusal of a pattern text.
use Rattle.text.specs.Refusals.{Refused, at_byte}
use Rattle.patterns.specs.declared.reading.BadPattern.{BadPattern}

abbrev pub pattern_refused : BadPattern → Refused
pattern_refused f = at_byte 14 1 f.column
