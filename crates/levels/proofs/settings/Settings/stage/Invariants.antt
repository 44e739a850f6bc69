use Rattle.std.proofs.Common.{◌≡◌}
use Rattle.std.specs.List.{slice_get}
use Rattle.levels.specs.Order.{passes}
use Rattle.levels.proofs.settings.Settings.stage.Given as goal

-- the pass sought is the one behind `before` of those from `length` on
abbrev pub invariant-loop-length : goal.invariant-loop-length
invariant-loop-length l = slice_get (passes l.length l.self.hi) l.before ≡ slice_get (passes l.self.lo l.self.hi) l.done
