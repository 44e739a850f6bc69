use Rattle.std.proofs.Common.{rules, ◌∙◌, nat_lt}
use borrow.Author.Tests.{tests}
use Rattle.std.proofs.lemmas.Iterator.{YieldsList-from_slice}
use Rattle.std.proofs.lemmas.Iterator.Search.{any_from_yields_List}
use Rattle.patterns.proofs.Spells.{any_tests}
use Rattle.patterns.proofs.reading.any_above.Goals as goal

pub returns : goal.returns
returns c =
    any_from_yields_List (λ n. nat_lt 0 n) _ _ _ c.any.ensures.ran (YieldsList-from_slice c.args.numbers.now (cc)) (λ x b q k. search (rules, tests))
    ∙ any_tests c.args.numbers.now
