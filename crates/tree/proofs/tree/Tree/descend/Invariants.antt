use Rattle.std.proofs.Common.{◌≡◌, take}
use Rattle.tree.specs.Descents.{Descent}
use Rattle.tree.proofs.tree.Tree.descend.Given as goal

abbrev pub invariant-loop-s : goal.invariant-loop-s
invariant-loop-s g l = (l.self.count ≡ l.initial.self.count) × Descent g.V.Joining.kind l.initial.self.cells.now l.self.cells.now l.initial.self.used l.self.used (take l.s-index l.spelling) l.at
