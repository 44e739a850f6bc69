use Rattle.std.proofs.Common.{◌≡◌, ◌+◌, ◌*◌, ◌≤◌, length, take, decimal}
use Rattle.std.specs.List.{flat_map}
use Rattle.text.proofs.memory.line_length.Given as goal

abbrev pub invariant-loop-figure : goal.invariant-loop-figure
invariant-loop-figure l =
    (l.total ≡ l.initial.total + length (flat_map decimal (take l.figure-index l.figures)))
    × (l.total ≤ l.initial.total + 20 * l.figure-index)
