use Rattle.std.proofs.Common.{◌<◌, Some, None, length, sym, ap, ◌∙◌, arith}
use Rattle.books.specs.Maps.{lookup}
use Rattle.tree.specs.Cells.{links, ups}
use Rattle.tree.specs.Paths.{Found}
use Rattle.tree.specs.Meanings.{meaning}
use Rattle.tree.proofs.Props.{over}
use Rattle.tree.proofs.Leasts.{read_value}
use Rattle.tree.proofs.Works.{sought_none, sought_some}
use Rattle.tree.proofs.tree.Tree.value.Goals as goal

pub returns-in-Some : goal.returns-in-Some
returns-in-Some g c =
    let t = c.args.self.now in
    let K = g.V.Joining.kind in
    let w = c.symbols.result.now in
    let r = c.in-Some.cell in
    let f = over (λ cs n. Found (links cs) (ups cs n) n w (Some r)) c.linked.ensures.cells c.linked.ensures.used c.in-Some.ensures in
    let h : r < length t.cells.now = omega (arith, f.0, c.requires.room) in
    read_value K t.cells.now r c.index-self-cell.result h
    ∙ sym (sought_some K t.cells.now t.used c.requires.tree w r f)
    ∙ ap (lookup K.nothing (meaning K t.cells.now t.used)) c.symbols.ensures

pub returns-in-None : goal.returns-in-None
returns-in-None g c =
    let t = c.args.self.now in
    let K = g.V.Joining.kind in
    let w = c.symbols.result.now in
    let f = over (λ cs n. Found (links cs) (ups cs n) n w None) c.linked.ensures.cells c.linked.ensures.used c.in-None.ensures in
    c.nothing.ensures
    ∙ sym (sought_none K t.cells.now t.used c.requires.tree w f)
    ∙ ap (lookup K.nothing (meaning K t.cells.now t.used)) c.symbols.ensures
