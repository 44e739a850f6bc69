use Rattle.std.proofs.Common.{◌-◌, ◌<◌}
use Rattle.tree.specs.Paths.{spelling_at}
use Rattle.tree.specs.Leasts.{Written, Onward}
use Rattle.tree.proofs.tree.Tree.first_from.Given as goal

abbrev pub invariant-loop-cells : goal.invariant-loop-cells
invariant-loop-cells g l = (0 < l.at) × (l.at < l.self.used) × Written (spelling_at l.self.cells.now l.self.used l.at) l.len l.symbols × Onward g.V.Joining.kind l.self.cells.now l.self.used l.initial.at (spelling_at l.self.cells.now l.self.used l.at)

abbrev pub decreases-loop-cells : goal.decreases-loop-cells
decreases-loop-cells g l = l.self.used - l.at
