use Rattle.tree.proofs.Works.{means_sound}
use Rattle.tree.proofs.tree.Tree.count.Goals as goal

pub returns-clause-sound : goal.returns-clause-sound
returns-clause-sound g c =
    let t = c.args.self.now in
    means_sound g.V.Joining.kind t.cells.now t.used c.requires.tree
