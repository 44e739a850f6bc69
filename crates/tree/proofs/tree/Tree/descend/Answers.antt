use Rattle.std.proofs.Common.{refl}
use Rattle.tree.proofs.Steps.{descent_none}
use Rattle.tree.proofs.tree.Tree.descend.Goals as goal

pub loop-s-init : goal.loop-s-init
loop-s-init g c =
    let t = c.args.self.now in
    (refl, descent_none g.V.Joining.kind t.cells.now t.used c.requires.tree c.requires.begun c.requires.leaves c.requires.shallow)
