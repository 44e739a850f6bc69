use Rattle.std.proofs.Common.{ℕ, ◌+◌, [], ◌∷◌, ◌++◌, take, drop, replicate, set, sym, ap, subst, arith}
use Rattle.patterns.specs.Spellings.{longest}
use Rattle.tree.specs.declared.cell.Link.{Link}
use Rattle.tree.specs.Cells.{links, at}
use Rattle.tree.specs.Leasts.{Written}
use Rattle.tree.proofs.Walks.{read}
use Rattle.tree.proofs.Leasts.{written_front, written_more}
use Rattle.tree.proofs.linked.Linked.way_to.Goals as goal

pub returns-clause-written : goal.returns-clause-written
returns-clause-written g c =
    let t = c.args.self.now in
    let u = c.args.other.now in
    let d = c.args.turn.depth in
    let front = c.copy_from_slice.new.self in
    let x = (at (links t.cells.now) c.args.turn.cell).symbol in
    let e = ap (λ (l : Link). l.symbol) (read t.cells.now c.args.turn.cell c.index-self-cell.result (omega (arith, c.requires.within, t.room))) in
    subst (λ (y : ℕ). Written (take d u ++ (x ∷ [])) (d + 1) (set (front ++ drop d (replicate longest 0)) d y)) (sym e)
    (written_more (take d u) d (front ++ drop d (replicate longest 0)) x c.requires.short (written_front u d front c.requires.inside (omega arith) c.copy_from_slice.ensures.after))
