use Rattle.std.proofs.Common.{◌≡◌, ℕ, ◌+◌, ◌<◌, Some, None, Option, length, get_or, take_all, sym, ap, ◌∙◌, subst, arith}
use Rattle.std.specs.Option.{option_or}
use Rattle.tree.specs.declared.cell.Link.{Link}
use Rattle.tree.specs.declared.order.Turn.{Turn}
use Rattle.tree.specs.Numbers.{cell_of}
use Rattle.tree.specs.Cells.{links, ups, at, Child}
use Rattle.tree.specs.Leasts.{turning, Passed, Next}
use Rattle.tree.proofs.Props.{tree_of}
use Rattle.tree.proofs.Walks.{read}
use Rattle.tree.proofs.Paths.{path_root, further}
use Rattle.tree.proofs.Leasts.{passed_none, passed_more, next_lost, next_ended}
use Rattle.tree.proofs.linked.Linked.next_cell.Goals as goal

pub loop-depth-init : goal.loop-depth-init
loop-depth-init g c =
    let t = c.args.self.now in
    let ls = links t.cells.now in
    let up = ups t.cells.now t.used in
    let tree = tree_of t in
    (omega (arith, c.if-self-eq0.false), path_root ls up t.used tree, passed_none ls up t.used tree c.args.other.now)

pub returns-in_default : goal.returns-in_default
returns-in_default g c =
    let t = c.args.self.now in
    let ls = links t.cells.now in
    let up = ups t.cells.now t.used in
    let tree = tree_of t in
    let u = c.args.other.now in
    let n = c.loop-depth.depth in
    let p = c.loop-depth.at in
    let inv = c.loop-depth.invariant in
    let s = c.beside-sides.result in
    let e : c.or-best.result ≡ option_or (turning s.above n) c.loop-depth.best = c.or-best.ensures ∙ ap (λ (o : Option Turn). option_or o c.loop-depth.best) c.turn_to.ensures in
    let passed = passed_more ls up t.used tree u n p c.loop-depth-test.true inv.0 inv.1 c.loop-depth.best s.above inv.2 c.beside-sides.ensures.above in
    let none : Child ls up t.used p (get_or u n 0) None = subst (Child ls up t.used p (get_or u n 0)) c.in_default.is c.beside-sides.ensures.same in
    next_lost ls up t.used tree u n p c.loop-depth-test.true inv.0 inv.1 c.or-best.result (subst (Passed ls up t.used u (n + 1)) (sym e) passed) none

pub loop-depth-preserved : goal.loop-depth-preserved
loop-depth-preserved g c =
    let t = c.args.self.now in
    let ls = links t.cells.now in
    let up = ups t.cells.now t.used in
    let tree = tree_of t in
    let u = c.args.other.now in
    let n = c.loop-depth.depth in
    let p = c.loop-depth.at in
    let inv = c.loop-depth.invariant in
    let s = c.beside-sides.result in
    let e : c.or-best.result ≡ option_or (turning s.above n) c.loop-depth.best = c.or-best.ensures ∙ ap (λ (o : Option Turn). option_or o c.loop-depth.best) c.turn_to.ensures in
    let passed = passed_more ls up t.used tree u n p c.loop-depth-test.true inv.0 inv.1 c.loop-depth.best s.above inv.2 c.beside-sides.ensures.above in
    let child : Child ls up t.used p (get_or u n 0) (Some c.in-Some.same) = subst (Child ls up t.used p (get_or u n 0)) c.in-Some.is c.beside-sides.ensures.same in
    (child.1, further ls up t.used tree u p n c.in-Some.same c.loop-depth-test.true inv.1 child, subst (Passed ls up t.used u (n + 1)) (sym e) passed)

pub returns : goal.returns
returns g c =
    let t = c.args.self.now in
    let ls = links t.cells.now in
    let up = ups t.cells.now t.used in
    let tree = tree_of t in
    let u = c.args.other.now in
    let n : c.loop-depth.depth ≡ length u = omega (arith, c.loop-depth.auto.depth-end) in
    let p = c.loop-depth.at in
    let inv = c.loop-depth.invariant in
    let h : p < length t.cells.now = omega (arith, inv.0, t.room) in
    let k : c.child.result ≡ cell_of (at ls p).first = c.child.ensures ∙ ap (λ (l : Link). cell_of l.first) (read t.cells.now p c.index-self-at.result h) in
    let m : c.turn_to-2.result ≡ turning (cell_of (at ls p).first) (length u) = c.turn_to-2.ensures ∙ ap (λ (o : Option ℕ). turning o (length u)) k in
    let e : c.or.result ≡ option_or (turning (cell_of (at ls p).first) (length u)) c.loop-depth.best = c.or.ensures ∙ ap (λ (o : Option Turn). option_or o c.loop-depth.best) m in
    subst (Next ls up t.used u) (sym e)
    (next_ended ls up t.used tree u p inv.0 (inv.1 ∙ take_all c.loop-depth.depth u (omega arith)) c.loop-depth.best (subst (λ (d : ℕ). Passed ls up t.used u d c.loop-depth.best) n inv.2))
