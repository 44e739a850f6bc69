use Rattle.std.proofs.Common.{ap, ◌∙◌}
use Rattle.std.proofs.lemmas.List.{get_or_default}
use Rattle.tree.specs.declared.cell.Cell.{Cell}
use Rattle.tree.proofs.Works.{joined_at}
use Rattle.tree.proofs.hold.join_at.Goals as goal

pub returns : goal.returns
returns g c =
    let cs = c.args.cells.now in
    let K = g.V.Joining.kind in
    let k = c.args.cell in
    joined_at K cs k c.index-cells-cell-2.result c.requires c.join-new.result c.args.v (c.join-new.ensures ∙ ap (λ (x : Cell g.row.V.Denot). K.join x.value c.args.v) (get_or_default cs k c.index-cells-cell.result c.index-cells-cell-2.result c.requires))
