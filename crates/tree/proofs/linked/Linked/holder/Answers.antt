use Rattle.std.proofs.Common.{◌<◌, length, sym, ap, ◌∙◌, arith}
use Rattle.tree.proofs.Props.{tree_of}
use Rattle.tree.proofs.Leasts.{read_value}
use Rattle.tree.proofs.Works.{sought_none, sought_some}
use Rattle.tree.proofs.linked.Linked.holder.Goals as goal

pub returns-in_err-cell : goal.returns-in_err-cell
returns-in_err-cell g c =
    let t = c.args.self.now in
    let K = g.V.Joining.kind in
    rw c.from_residual.ensures (ap K.bare (sought_none K t.cells.now t.used (tree_of t) c.args.spelling.now c.in_err-cell.ensures) ∙ K.told)

pub returns-then-is_nothing : goal.returns-then-is_nothing
returns-then-is_nothing g c =
    let t = c.args.self.now in
    let K = g.V.Joining.kind in
    let r = c.in_ok-cell.cell in
    let f = c.in_ok-cell.ensures in
    let h : r < length t.cells.now = omega (arith, f.0, t.room) in
    ap K.bare (sought_some K t.cells.now t.used (tree_of t) c.args.spelling.now r f ∙ sym (read_value K t.cells.now r c.index-self-cell.result h)) ∙ sym c.if-is_nothing.ensures
