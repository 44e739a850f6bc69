use Rattle.std.proofs.Common.{sym, ◌∙◌}
use Rattle.words.proofs.Rowing.{makes_word, makes_none, unused_all}
use Rattle.words.proofs.row.WordTryFromWordRow.try_from.Goals as goal

pub returns-then-not-makes_word : goal.returns-then-not-makes_word
returns-then-not-makes_word c =
    let fails = sym c.makes_word.ensures.value ∙ c.if-not-makes_word.true in
    record { tested = sym fails; meaning = makes_none c.args.row fails }

pub invariant_of-result : goal.invariant_of-result
invariant_of-result c =
    let row = c.args.row in
    let full = c.makes_word.ensures.full in
    let m = makes_word row (sym c.makes_word.ensures.value ∙ c.if-not-makes_word.false) in
    record { full = full; sized = (m.some, m.few); lettered = m.letters; unused = unused_all row m full; marked = (m.below, m.even) }
