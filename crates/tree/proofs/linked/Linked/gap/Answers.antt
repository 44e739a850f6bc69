use Rattle.std.proofs.Common.{◌<◌, length, ap, ◌∙◌, arith}
use Rattle.tree.specs.declared.cell.Link.{Link}
use Rattle.tree.specs.Numbers.{cell_of}
use Rattle.tree.specs.Cells.{links, ups, at}
use Rattle.tree.proofs.Props.{tree_of}
use Rattle.tree.proofs.Walks.{read, walking_start, walking_here, walking_step, walking_less}
use Rattle.tree.proofs.linked.Linked.gap.Goals as goal

pub loop-here-init : goal.loop-here-init
loop-here-init g c =
    let t = c.args.self.now in
    let h : c.args.at < length t.cells.now = omega (arith, t.room) in
    walking_start (links t.cells.now) (ups t.cells.now t.used) t.used (tree_of t) c.args.at c.args.symbol c.requires c.child-here.result
    (c.child-here.ensures ∙ ap (λ (l : Link). cell_of l.first) (read t.cells.now c.args.at c.index-self-at.result h))

pub loop-here-smaller : goal.loop-here-smaller
loop-here-smaller g c =
    let t = c.args.self.now in
    let ls = links t.cells.now in
    let up = ups t.cells.now t.used in
    let j = c.in-Some.cell in
    let w = walking_here ls up t.used (tree_of t) c.args.at c.args.symbol c.requires c.loop-here.before c.loop-here.here c.loop-here.invariant j c.in-Some.is in
    let l = read t.cells.now j c.index-self-cell.result (omega (arith, w.2, t.room)) in
    let lt : (at ls j).symbol < c.args.symbol = omega (arith, c.if-link-symbol.false, ap (λ (x : Link). x.symbol) l) in
    walking_less ls up t.used (tree_of t) c.args.at c.args.symbol c.requires c.loop-here.before c.loop-here.here c.loop-here.invariant j c.in-Some.is lt c.sibling-here.result
    (c.sibling-here.ensures ∙ ap (λ (x : Link). cell_of x.next) l) (omega arith)

pub loop-here-preserved : goal.loop-here-preserved
loop-here-preserved g c =
    let t = c.args.self.now in
    let ls = links t.cells.now in
    let up = ups t.cells.now t.used in
    let j = c.in-Some.cell in
    let w = walking_here ls up t.used (tree_of t) c.args.at c.args.symbol c.requires c.loop-here.before c.loop-here.here c.loop-here.invariant j c.in-Some.is in
    let l = read t.cells.now j c.index-self-cell.result (omega (arith, w.2, t.room)) in
    let lt : (at ls j).symbol < c.args.symbol = omega (arith, c.if-link-symbol.false, ap (λ (x : Link). x.symbol) l) in
    walking_step ls up t.used (tree_of t) c.args.at c.args.symbol c.requires c.loop-here.before c.loop-here.here c.loop-here.invariant j c.in-Some.is lt c.sibling-here.result
    (c.sibling-here.ensures ∙ ap (λ (x : Link). cell_of x.next) l)
