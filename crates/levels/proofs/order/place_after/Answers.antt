use Rattle.std.proofs.Common.{arith}
use Rattle.levels.proofs.Placing.{place_up, place_down}
use Rattle.levels.proofs.order.place_after.Goals as goal

pub returns-then-before-length-clause-place : goal.returns-then-before-length-clause-place
returns-then-before-length-clause-place c = omega (arith, place_up c.args.length c.args.before (omega arith) (omega arith) (omega arith))

pub returns-else-before-length-clause-place : goal.returns-else-before-length-clause-place
returns-else-before-length-clause-place c = omega (arith, place_down c.args.length c.args.before (omega arith) (omega arith) (omega arith))
