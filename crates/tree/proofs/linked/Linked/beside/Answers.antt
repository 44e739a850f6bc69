use Rattle.std.proofs.Common.{◌≡◌, ◌<◌, length, sym, ap, ◌∙◌, subst, arith}
use Rattle.tree.specs.declared.cell.Link.{Link}
use Rattle.tree.specs.Numbers.{cell_of}
use Rattle.tree.specs.Cells.{links, ups, at, Above}
use Rattle.tree.proofs.Props.{tree_of}
use Rattle.tree.proofs.Walks.{read, at_here, here_within, placed_met, placed_missed}
use Rattle.tree.proofs.linked.Linked.beside.Goals as goal

pub returns-in-Some : goal.returns-in-Some
returns-in-Some g c =
    let t = c.args.self.now in
    let ls = links t.cells.now in
    let up = ups t.cells.now t.used in
    let place = c.gap-place.result in
    let j = c.in-Some.cell in
    let a = at_here ls up t.used (tree_of t) c.args.at c.args.symbol c.requires place.before place.here c.gap-place.ensures j c.in-Some.ensures.0 in
    let h : j < length t.cells.now = omega (arith, a.2, t.room) in
    let e : c.sibling.result ≡ cell_of (at ls j).next = c.sibling.ensures ∙ ap (λ (l : Link). cell_of l.next) (read t.cells.now j c.index-self-cell.result h) in
    let m = placed_met ls up t.used (tree_of t) c.args.at c.args.symbol c.requires place.before place.here c.gap-place.ensures j c.in-Some.ensures in
    record { same = m.0; above = subst (Above ls up t.used c.args.at c.args.symbol) (sym e) m.1 }

pub returns-in-None : goal.returns-in-None
returns-in-None g c =
    let t = c.args.self.now in
    let m = placed_missed (links t.cells.now) (ups t.cells.now t.used) t.used (tree_of t) c.args.at c.args.symbol c.requires c.gap-place.result.before c.gap-place.result.here c.gap-place.ensures c.in-None.ensures in
    record { same = m.0; above = m.1 }
