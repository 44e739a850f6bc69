use Rattle.std.proofs.Common.{◌+◌, take, ap, ◌∙◌, arith}
use Rattle.std.proofs.lemmas.List.{length-take-le, take-append-le, take-take}
use Rattle.table.proofs.Shifting.{order_before, opened_copy}
use Rattle.table.proofs.table.Table.make_room.Goals as goal

-- the rows before `at` stay
pub invariant_of-self-2 : goal.invariant_of-self-2
invariant_of-self-2 c =
    let t = c.args.self.now in
    let rows = t.rows.now in
    let at = c.args.at in
    let e = c.copy_within.ensures.after ∙ opened_copy rows at t.used c.requires.0 c.requires.1 in
    let n = c.copy_within.ensures.len in
    let l = length-take-le (at + 1) rows (omega arith) in
    record {
      within = omega (arith, t.within);
      ordered = order_before rows c.copy_within.new.self at t.used c.requires.0 (ap (take at) e ∙ take-append-le at _ _ (omega arith) ∙ take-take at (at + 1) rows (omega arith)) t.ordered;
    }
