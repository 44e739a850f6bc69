use Rattle.std.proofs.Common.{sym, inl, inr}
use Rattle.patterns.proofs.Cutting.{padded_edge}
use Rattle.patterns.proofs.parts.symbol_at.Goals as goal
use Rattle.patterns.proofs.parts.symbol_at.Goals.{then-at-lt1-via-then-at-lt1, then-at-lt1-via-else-at-lt1+then-at-word}

pub returns-then-at-lt1 : goal.returns-then-at-lt1
returns-then-at-lt1 c =
    sym (padded_edge c.args.word.now c.args.at (elim c.then-at-lt1.branch [
      | then-at-lt1-via-then-at-lt1 w ↦ inl w.if-at-lt1.true
      | then-at-lt1-via-else-at-lt1+then-at-word w ↦ inr w.if-at-word.true
    ]))
