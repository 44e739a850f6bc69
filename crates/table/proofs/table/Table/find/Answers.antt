use Rattle.std.proofs.Common.{rules, take, length, List, Ordering, subst}
use Rattle.std.specs.List.Sorted.{IsBinarySearchResult, IsSearchInRange}
use Rattle.std.proofs.lemmas.Fn.{always_returns_same}
use Rattle.patterns.specs.declared.pattern.Pattern.{Pattern}
use Rattle.patterns.specs.Order.{ordering}
use Rattle.patterns.specs.Views.{symbols_of}
use Rattle.table.specs.Soundness.{ascends_of}
use Rattle.table.specs.Views.{rows_of}
use Rattle.table.proofs.Finding.{found}
use Rattle.table.proofs.table.Table.find.Goals as goal

pub returns-clause-place : goal.returns-clause-place
returns-clause-place c =
    let t = c.args.self.now in
    let u = symbols_of c.args.spelling.now in
    let r = c.binary_search_by.result in
    let by : Pattern → Ordering = λ p. ordering (symbols_of p.spelling) u in
    found (take t.used (rows_of t)) u (ascends_of (rows_of t) t.used t.ordered) r
    (subst (λ (rows : List Pattern). IsSearchInRange r (length rows)) c.in_use.ensures c.binary_search_by.ensures.bound)
    (subst (λ (rows : List Pattern). IsBinarySearchResult by rows r) c.in_use.ensures (c.binary_search_by.ensures.position by (always_returns_same _ _ _ (λ a r f h. search rules))))
