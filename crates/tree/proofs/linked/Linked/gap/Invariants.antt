use Rattle.tree.specs.Numbers.{number_of, Linkable}
use Rattle.tree.specs.Cells.{links, ups, Walk, to_go}
use Rattle.tree.proofs.linked.Linked.gap.Given as goal

abbrev pub invariant-loop-here : goal.invariant-loop-here
invariant-loop-here g l = Walk (links l.self.cells.now) (ups l.self.cells.now l.self.used) l.self.used l.at l.symbol (number_of l.before) (number_of l.here) × Linkable l.before × Linkable l.here

abbrev pub decreases-loop-here : goal.decreases-loop-here
decreases-loop-here g l = to_go (links l.self.cells.now) (number_of l.here)
