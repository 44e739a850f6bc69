use Rattle.std.proofs.Common.{◌≡◌, ◌+◌, ◌≤◌, ltb, take}
use Rattle.std.specs.List.{count_by}
use Rattle.patterns.proofs.pattern.Pattern.text_len.Given as goal

abbrev pub invariant-loop-value : goal.invariant-loop-value
invariant-loop-value l =
    (l.n ≡ l.self.spelling.len + count_by (λ v. ltb 0 v) (take l.value-index (take (l.self.spelling.len + 1) l.self.row.values)))
    × (l.n ≤ l.self.spelling.len + l.value-index)
