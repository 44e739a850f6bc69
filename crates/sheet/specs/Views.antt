-- What the values of the code mean.
use Rattle.std.specs.Prelude.{ℕ, List, [], drop, Some, None, Option, Ok, Err, Result}
use Rattle.std.specs.Borrow.{Bor}
use Rattle.lists.specs.declared.counting.ListCounts.{ListCounts}
use Rattle.sheet.specs.declared.fault.SheetFault.{SheetFault}
use Rattle.sheet.specs.declared.fault.RunFault.{RunFault}
use Rattle.sheet.specs.declared.reading.Sheet.{Sheet}
use Rattle.sheet.specs.Faults.{sheet_refused, run_refused}
use Rattle.sheet.specs.Sheets.{Sheeted, sheet, wrong}
use Rattle.sheet.specs.Outcomes.{Outcome, counts, refuses}

-- the bytes that came, where they were kept
abbrev pub kept : Option (Bor (List ℕ)) → Option (List ℕ)
kept None = None
kept (Some input) = Some input.now

-- these bytes, and none where they were not kept
abbrev pub bytes_in : Option (List ℕ) → List ℕ
bytes_in None = []
bytes_in (Some input) = input

-- what the reader of a sheet answers of an input
abbrev pub sheeted : Option (List ℕ) → Result Sheet SheetFault → Sheeted
sheeted input (Ok s) = sheet s.bounds.left s.bounds.right (drop s.words_at (bytes_in input))
sheeted input (Err f) = wrong (sheet_refused f)

-- what a run answers
abbrev pub outcome : Result ListCounts RunFault → Outcome
outcome (Ok c) = counts c.words c.hyphens
outcome (Err f) = refuses (run_refused f)
