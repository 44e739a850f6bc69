use Rattle.std.proofs.Common.{◌≡◌, ◌<◌, take}
use Rattle.tree.specs.Cells.{links, ups}
use Rattle.tree.specs.Paths.{spelling_at}
use Rattle.tree.specs.Leasts.{Passed}
use Rattle.tree.proofs.linked.Linked.next_cell.Given as goal

abbrev pub invariant-loop-depth : goal.invariant-loop-depth
invariant-loop-depth g l = (l.at < l.self.used) × (spelling_at l.self.cells.now l.self.used l.at ≡ take l.depth l.other) × Passed (links l.self.cells.now) (ups l.self.cells.now l.self.used) l.self.used l.other l.depth l.best
