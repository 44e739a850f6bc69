use Rattle.tree.proofs.Props.{standing}
use Rattle.tree.proofs.standing.Standing.value.Goals as goal

pub value-requires : goal.value-requires
value-requires g c = let t = c.args.self.now in standing g.V.Joining.kind t.tree t.tree.count t.stands
