use Rattle.std.proofs.Common.{◌≡◌, ◌<◌, take}
use Rattle.tree.specs.Paths.{spelling_at}
use Rattle.tree.proofs.linked.Linked.find.Given as goal

abbrev pub invariant-loop-s : goal.invariant-loop-s
invariant-loop-s g l = (l.at < l.self.used) × (spelling_at l.self.cells.now l.self.used l.at ≡ take l.s-index l.spelling)
