use Rattle.std.proofs.Common.{[], ap, ◌∙◌}
use Rattle.books.specs.Maps.{least_of}
use Rattle.tree.proofs.Leasts.{after_none}
use Rattle.tree.proofs.tree.Tree.least.Goals as goal

pub returns : goal.returns
returns g c =
    let t = c.args.self.now in
    let K = g.V.Joining.kind in
    c.first_after.ensures ∙ ap least_of (after_none K t.cells.now t.used t.count c.requires [])
