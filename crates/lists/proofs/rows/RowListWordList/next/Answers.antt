use Rattle.std.proofs.Common.{◌+◌, drop, sym, ◌∙◌, arith}
use Rattle.lists.specs.Rows.{rows_from, row_words, row_ending}
use Rattle.lists.specs.Few.{row_few}
use Rattle.lists.proofs.Steps.{word_taken}
use Rattle.lists.proofs.rows.RowListWordList.next.Goals as goal

pub overflow_add-self : goal.overflow_add-self
overflow_add-self c = omega (arith, row_few c.args.self.now.rows.now, c.args.self.now.some)

pub invariant_of-self : goal.invariant_of-self
invariant_of-self c =
    let l = c.args.self.now in
    let rows = l.rows.now in
    let n = l.read in
    let all = rows_from n (drop n rows) in
    let rest = rows_from (n + 1) (drop (n + 1) rows) in
    let p = word_taken (row_words rows) (row_ending rows) n all rest c.in_ok-word.word (sym c.is_some.ensures ∙ c.if-is_some.true) c.in_ok-word.ensures l.left l.ends in
    record { some = p.0; left = p.1; ends = p.2 }
