use Rattle.std.proofs.Common.{refl, arith}
use Rattle.std.proofs.lemmas.List.{length-set}
use Rattle.table.proofs.Raises.{held_order, held_raised, refused, put_length, put_rest, put_order, put_raised}
use Rattle.table.proofs.writing.TableWritingBook.raise.Goals as goal

-- ---- the spelling is held

pub invariant_of-self : goal.invariant_of-self
invariant_of-self c =
    let t = c.args.self.now in
    let f = c.in-Ok.ensures in
    let n = length-set t.rows.now c.in-Ok.at c.joined.result in
    record {
      within = omega (arith, t.within);
      ordered = held_order t c.args.pattern.now c.in-Ok.at c.index-self-at.result f.within f.place c.joined.result c.joined.ensures;
    }

pub returns-in-Ok-clause-held : goal.returns-in-Ok-clause-held
returns-in-Ok-clause-held c =
    let t = c.args.self.now in
    let f = c.in-Ok.ensures in
    held_raised t c.args.pattern.now c.in-Ok.at c.index-self-at.result f.within f.place c.joined.result c.joined.ensures

-- ---- the spelling is not held

pub returns-then-used-self-clause-held : goal.returns-then-used-self-clause-held
returns-then-used-self-clause-held c =
    let f = c.in-Err.ensures in
    (refused c.args.self.now c.args.pattern.now c.in-Err.at f.within f.place c.if-used-self.true, refl)

pub invariant_of-self-in-Err : goal.invariant_of-self-in-Err
invariant_of-self-in-Err c =
    let t = c.args.self.now in
    let f = c.in-Err.ensures in
    let new = c.make_room.new.self.rows.now in
    let e = put_length t c.args.pattern.now c.in-Err.at f.within f.place c.if-used-self.false new c.make_room.ensures.rows in
    record {
      within = omega arith;
      ordered = put_order t c.args.pattern.now c.in-Err.at f.within f.place c.if-used-self.false new c.make_room.ensures.rows;
    }

pub returns-else-used-self-clause-held : goal.returns-else-used-self-clause-held
returns-else-used-self-clause-held c =
    let f = c.in-Err.ensures in
    put_raised c.args.self.now c.args.pattern.now c.in-Err.at f.within f.place c.if-used-self.false c.make_room.new.self.rows.now c.make_room.ensures.rows

pub returns-else-used-self-clause-rows : goal.returns-else-used-self-clause-rows
returns-else-used-self-clause-rows c =
    let f = c.in-Err.ensures in
    put_rest c.args.self.now c.args.pattern.now c.in-Err.at f.within f.place c.if-used-self.false c.make_room.new.self.rows.now c.make_room.ensures.rows
