use Rattle.tree.proofs.Props.{standing}
use Rattle.tree.proofs.standing.Standing.join.Goals as goal

pub join-requires : goal.join-requires
join-requires g c = let t = c.args.self.now in standing g.V.Joining.kind t.tree t.tree.count t.stands
