use Rattle.tree.proofs.Props.{standing}
use Rattle.tree.proofs.standing.Standing.count.Goals as goal

pub count-requires : goal.count-requires
count-requires g c = let t = c.args.self.now in standing g.V.Joining.kind t.tree t.tree.count t.stands
