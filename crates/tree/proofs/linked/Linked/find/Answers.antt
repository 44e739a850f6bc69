use Rattle.std.proofs.Common.{◌+◌, Some, None, take, get_or, ap, subst, arith}
use Rattle.tree.specs.Cells.{links, ups, Child}
use Rattle.tree.proofs.Props.{tree_of}
use Rattle.tree.proofs.Paths.{path_root, lost, further}
use Rattle.tree.proofs.linked.Linked.find.Goals as goal

pub loop-s-init : goal.loop-s-init
loop-s-init g c = let t = c.args.self.now in (omega arith, path_root (links t.cells.now) (ups t.cells.now t.used) t.used (tree_of t))

pub returns-in_err-at : goal.returns-in_err-at
returns-in_err-at g c =
    let t = c.args.self.now in
    let ls = links t.cells.now in
    let up = ups t.cells.now t.used in
    let w = c.args.spelling.now in
    let n = c.loop-s.s-index in
    let none : Child ls up t.used c.loop-s.at (get_or w n 0) None = subst (Child ls up t.used c.loop-s.at (get_or w n 0)) c.in_err-at.was c.beside.ensures.same in
    rw c.from_residual.ensures (λ i lt ew. lost ls up t.used (tree_of t) w c.loop-s.at n c.loop-s.invariant.0 c.loop-s-test.true c.loop-s.invariant.1 none i lt (ap (take (n + 1)) ew))

pub loop-s-preserved : goal.loop-s-preserved
loop-s-preserved g c =
    let t = c.args.self.now in
    let ls = links t.cells.now in
    let up = ups t.cells.now t.used in
    let w = c.args.spelling.now in
    let n = c.loop-s.s-index in
    let child : Child ls up t.used c.loop-s.at (get_or w n 0) (Some c.in_ok-at.at) = subst (Child ls up t.used c.loop-s.at (get_or w n 0)) c.in_ok-at.was c.beside.ensures.same in
    (child.1, further ls up t.used (tree_of t) w c.loop-s.at n c.in_ok-at.at c.loop-s-test.true c.loop-s.invariant.1 child)
