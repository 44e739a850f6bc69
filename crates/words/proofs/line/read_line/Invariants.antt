use Rattle.words.proofs.Reading.{At}
use Rattle.words.proofs.line.read_line.Given as goal

abbrev pub invariant-loop-i : goal.invariant-loop-i
invariant-loop-i l = At l.bytes l.i l.letters l.len l.marks l.after_letter
