use Rattle.std.proofs.Common.{◌≡◌, ◌+◌, ◌<◌, false, length, get_or, set, sym, ap, ◌∙◌, subst, arith}
use Rattle.tree.specs.declared.cell.Link.{Link}
use Rattle.tree.specs.Paths.{spelling_at}
use Rattle.tree.specs.Descents.{value_at}
use Rattle.tree.specs.Leasts.{Written}
use Rattle.tree.proofs.Walks.{read}
use Rattle.tree.proofs.Spelt.{some_symbols, all_symbolic, inner_letters, some_letter}
use Rattle.tree.proofs.Leasts.{onward_none, down_read, read_value, cell_ruled}
use Rattle.tree.proofs.tree.Tree.first_from.Goals as goal

pub loop-cells-init : goal.loop-cells-init
loop-cells-init g c =
    let t = c.args.self.now in
    let st = c.requires.stands in
    (c.requires.inner, c.requires.within, c.requires.written, onward_none g.V.Joining.kind t.cells.now t.used t.count c.args.way.cell st)

pub offset_bounds-cells-at-in-loop-cells-2 : goal.offset_bounds-cells-at-in-loop-cells-2
offset_bounds-cells-at-in-loop-cells-2 g c =
    let t = c.args.self.now in
    let st = c.requires.stands in
    let cs = t.cells.now in
    let d = down_read g.V.Joining.kind cs t.used t.count c.args.way.cell st c.loop-cells.at c.loop-cells.len c.loop-cells.symbols c.index-cells-at.result c.index-cells-at-in-loop-cells.result c.loop-cells.invariant c.loop-cells-test.ensures in
    omega (arith, d.within, st.room)

pub bounds-cells-at-in-loop-cells-4 : goal.bounds-cells-at-in-loop-cells-4
bounds-cells-at-in-loop-cells-4 g c =
    let t = c.args.self.now in
    let st = c.requires.stands in
    let cs = t.cells.now in
    let d = down_read g.V.Joining.kind cs t.used t.count c.args.way.cell st c.loop-cells.at c.loop-cells.len c.loop-cells.symbols c.index-cells-at.result c.index-cells-at-in-loop-cells.result c.loop-cells.invariant c.loop-cells-test.ensures in
    omega (arith, d.within, st.room)

pub bounds-cells-at-in-loop-cells-5 : goal.bounds-cells-at-in-loop-cells-5
bounds-cells-at-in-loop-cells-5 g c =
    let t = c.args.self.now in
    let st = c.requires.stands in
    let cs = t.cells.now in
    let d = down_read g.V.Joining.kind cs t.used t.count c.args.way.cell st c.loop-cells.at c.loop-cells.len c.loop-cells.symbols c.index-cells-at.result c.index-cells-at-in-loop-cells.result c.loop-cells.invariant c.loop-cells-test.ensures in
    omega (arith, d.within, st.room)

pub bounds-symbols-len : goal.bounds-symbols-len
bounds-symbols-len g c =
    let t = c.args.self.now in
    let st = c.requires.stands in
    let cs = t.cells.now in
    let d = down_read g.V.Joining.kind cs t.used t.count c.args.way.cell st c.loop-cells.at c.loop-cells.len c.loop-cells.symbols c.index-cells-at.result c.index-cells-at-in-loop-cells.result c.loop-cells.invariant c.loop-cells-test.ensures in
    d.room

pub loop-cells-smaller : goal.loop-cells-smaller
loop-cells-smaller g c =
    let t = c.args.self.now in
    let st = c.requires.stands in
    let cs = t.cells.now in
    let d = down_read g.V.Joining.kind cs t.used t.count c.args.way.cell st c.loop-cells.at c.loop-cells.len c.loop-cells.symbols c.index-cells-at.result c.index-cells-at-in-loop-cells.result c.loop-cells.invariant c.loop-cells-test.ensures in
    omega (arith, d.rises, d.within)

pub loop-cells-preserved : goal.loop-cells-preserved
loop-cells-preserved g c =
    let t = c.args.self.now in
    let st = c.requires.stands in
    let cs = t.cells.now in
    let d = down_read g.V.Joining.kind cs t.used t.count c.args.way.cell st c.loop-cells.at c.loop-cells.len c.loop-cells.symbols c.index-cells-at.result c.index-cells-at-in-loop-cells.result c.loop-cells.invariant c.loop-cells-test.ensures in
    let j = (get_or cs c.loop-cells.at c.index-cells-at-in-loop-cells.result).link.first in
    let h : j < length cs = omega (arith, d.within, st.room) in
    (omega (arith, d.rises), d.within, subst (λ (l : Link). Written (spelling_at cs t.used j) (c.loop-cells.len + 1) (set c.loop-cells.symbols c.loop-cells.len l.symbol)) (sym (read cs j c.index-cells-at-in-loop-cells-2.result h)) d.written, d.onward)

pub invariant_of-result : goal.invariant_of-result
invariant_of-result g c =
    let t = c.args.self.now in
    let st = c.requires.stands in
    let K = g.V.Joining.kind in
    let cs = t.cells.now in
    let p = c.loop-cells.at in
    let inv = c.loop-cells.invariant in
    let h : p < length cs = omega (arith, inv.1, st.room) in
    let held : K.bare (value_at K cs p) ≡ false = ap K.bare (sym (read_value K cs p c.index-cells-at.result h)) ∙ sym c.loop-cells-test.ensures in
    let r = cell_ruled K cs t.used t.count p st p inv.1 held in
    let w = spelling_at cs t.used p in
    let a = inv.2 in
    record { full = a.full; sized = (some_symbols w c.loop-cells.len c.loop-cells.symbols a r, a.sized); symbolic = all_symbolic w c.loop-cells.len c.loop-cells.symbols a r; unused = a.unused; edged = inner_letters w c.loop-cells.len c.loop-cells.symbols a r; lettered = some_letter w c.loop-cells.len c.loop-cells.symbols a r }
