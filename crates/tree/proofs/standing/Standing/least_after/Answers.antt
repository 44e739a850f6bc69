use Rattle.tree.proofs.Props.{standing}
use Rattle.tree.proofs.standing.Standing.least_after.Goals as goal

pub least_after-requires : goal.least_after-requires
least_after-requires g c = let t = c.args.self.now in standing g.V.Joining.kind t.tree t.tree.count t.stands
