use Rattle.std.proofs.Common.{◌<◌, length, sym, arith}
use Rattle.std.proofs.lemmas.Bool.{eqb-true, eqb-false}
use Rattle.tree.specs.Cells.{links, values, ups}
use Rattle.tree.proofs.Means.{meant_none}
use Rattle.tree.proofs.Cleared.{cleared_none, cleared_root, cleared_means}
use Rattle.tree.proofs.clear.clear.Goals as goal

pub returns-then-is_empty : goal.returns-then-is_empty
returns-then-is_empty g c =
    let cs = c.args.cells.now in
    record {
      stands = cleared_none g.V.Joining.kind cs (eqb-true (length cs) 0 (sym c.if-is_empty.ensures));
      none = meant_none g.V.Joining.kind (links cs) (ups cs 0) (values cs);
    }

pub returns : goal.returns
returns g c =
    let cs = c.args.cells.now in
    let some : 0 < length cs = omega (arith, eqb-false (length cs) 0 (sym c.if-is_empty.ensures)) in
    record {
      stands = cleared_root g.V.Joining.kind cs c.nothing.result c.nothing.ensures some;
      none = cleared_means g.V.Joining.kind cs c.nothing.result c.nothing.ensures some;
    }
