use Rattle.tree.proofs.Props.{standing}
use Rattle.tree.proofs.standing.Standing.least.Goals as goal

pub least-requires : goal.least-requires
least-requires g c = let t = c.args.self.now in standing g.V.Joining.kind t.tree t.tree.count t.stands
