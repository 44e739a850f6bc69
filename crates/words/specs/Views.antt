-- What the values of the code mean.
use Rattle.std.specs.Prelude.{take, Some, None, Ok, Err, Option, Result}
use Rattle.words.specs.declared.word.Word.{Word}
use Rattle.words.specs.declared.line.LineFault.{LineFault}
use Rattle.words.specs.Words.{Headword}
use Rattle.words.specs.Faults.{line_refused}
use Rattle.words.specs.Line.{Reading, blank, spells, refused}

abbrev pub headword : Word → Headword
headword w = (take w.len w.letters, w.marks)

-- what the reader of a line answers
abbrev pub answer : Result (Option Word) LineFault → Reading
answer (Ok (Some w)) = spells (headword w)
answer (Ok None) = blank
answer (Err f) = refused (line_refused f)
