-- The refusals of a sheet and of a run: each case of a fault, with its number and values.
use Rattle.text.specs.Refusals.{Refused, bare, at_line}
use Rattle.lists.specs.Faults.{list_refused}
use Rattle.sheet.specs.declared.fault.SheetFault.{SheetFault}
use Rattle.sheet.specs.declared.fault.SheetFault.TheVariants.{TooLong, BadLine, OutOfRange}
use Rattle.sheet.specs.declared.fault.RunFault.{RunFault}
use Rattle.sheet.specs.declared.fault.RunFault.TheVariants.{Sheet, List}

abbrev pub sheet_refused : SheetFault → Refused
sheet_refused TooLong = bare 16
sheet_refused (BadLine line) = at_line 16 line
sheet_refused (OutOfRange line) = at_line 1 line

abbrev pub run_refused : RunFault → Refused
run_refused (Sheet f) = sheet_refused f
run_refused (List f) = list_refused f
