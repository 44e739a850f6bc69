use Rattle.std.proofs.Common.{◌∙◌}
use Rattle.patterns.proofs.Ordered.{total_order, spelling_ordering, spelling_partial_ordering, spelling_equality}
use Rattle.patterns.proofs.pattern.Spelling.compare.Goals as goal

pub returns : goal.returns
returns c =
    record {
      value = c.cmp.ensures ∙ spelling_ordering c.args.self.now c.args.other.now;
      total = total_order;
      ordered = spelling_ordering;
      partly = spelling_partial_ordering;
      alike = spelling_equality;
    }
