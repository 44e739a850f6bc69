-- The refusals of a word list.
use Rattle.text.specs.Refusals.{Refused, at_line, at_byte}
use Rattle.words.specs.Faults.{line_refused}
use Rattle.lists.specs.declared.fault.ListFault.{ListFault}
use Rattle.lists.specs.declared.fault.ListFault.TheVariants.{Line, TooMany, BadRow}

-- each case of the fault, with its number and values
abbrev pub list_refused : ListFault → Refused
list_refused (Line f) = line_refused f
list_refused (TooMany line) = at_byte 9 line 1
list_refused (BadRow row) = at_line 10 row
