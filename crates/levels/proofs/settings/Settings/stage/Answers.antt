use Rattle.std.proofs.Common.{ℕ, ◌+◌, ◌-◌, Some, Option, sym, ap, ◌∙◌, arith}
use Rattle.levels.specs.Order.{Pass}
use Rattle.levels.proofs.Passing.{pass_here, pass_on, pass_past, order_of_passes}
use Rattle.levels.proofs.settings.Settings.stage.Goals as goal

abbrev passed : ℕ → ℕ → Option Pass
passed m k = Some (m, k)

pub returns-then-before-length : goal.returns-then-before-length
returns-then-before-length c =
    let s = c.args.self.now in
    record {
      pass = ap (λ (k : ℕ). passed c.loop-length.length k) c.place_after.ensures.place
          ∙ sym (pass_here c.loop-length.length s.hi c.loop-length.before (omega arith) (omega arith) (omega arith))
          ∙ c.loop-length.invariant;
      order = order_of_passes;
    }

pub loop-length-preserved : goal.loop-length-preserved
loop-length-preserved c =
    let s = c.args.self.now in
    sym (pass_on c.loop-length.length s.hi c.loop-length.before (omega arith) (omega arith) (omega arith)) ∙ c.loop-length.invariant

-- the last length has too few passes
pub returns-else-before-length : goal.returns-else-before-length
returns-else-before-length c =
    let s = c.args.self.now in
    record {
      pass = sym (pass_past (c.loop-length.length + 1) s.hi (c.loop-length.before - (c.loop-length.length + 1)) (omega arith))
          ∙ sym (pass_on c.loop-length.length s.hi c.loop-length.before (omega arith) (omega arith) (omega arith))
          ∙ c.loop-length.invariant;
      order = order_of_passes;
    }
