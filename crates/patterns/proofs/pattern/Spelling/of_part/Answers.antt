use Rattle.std.proofs.Common.{true, false, arith}
use Rattle.patterns.proofs.Cutting.{Cut, cut_part, spelling_is}
use Rattle.patterns.proofs.pattern.Spelling.of_part.Goals as goal

pub returns-then-not-any_above : goal.returns-then-not-any_above
returns-then-not-any_above c =
    spelling_is c.args.word.now c.args.start c.args.len c.symbols_from-symbols.result false (omega arith) (omega arith) (omega arith)
    (record { full = c.symbols_from-symbols.ensures.full; here = c.symbols_from-symbols.ensures.symbols; unused = c.symbols_from-symbols.ensures.unused })
    c.if-not-any_above.ensures

pub returns : goal.returns
returns c =
    let w = c.args.word.now in
    let s = c.args.start in
    let m = c.args.len in
    let xs = c.symbols_from-symbols.result in
    let cut : Cut w s m xs = record { full = c.symbols_from-symbols.ensures.full; here = c.symbols_from-symbols.ensures.symbols; unused = c.symbols_from-symbols.ensures.unused } in
    (spelling_is w s m xs true (omega arith) (omega arith) (omega arith) cut c.if-not-any_above.ensures, cut_part w s m xs (omega arith) (omega arith) cut)
