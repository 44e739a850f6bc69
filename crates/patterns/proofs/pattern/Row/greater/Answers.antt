use Rattle.patterns.specs.Spellings.{places}
use Rattle.patterns.proofs.Rowing.{joined_all}
use Rattle.patterns.proofs.pattern.Row.greater.Goals as goal

pub returns : goal.returns
returns c =
    joined_all c.args.self.now.values c.args.other.now.values places c.loop-k.k c.loop-k.value-items
    c.args.self.now.full c.args.other.now.full c.loop-k-test.false c.loop-k.invariant
