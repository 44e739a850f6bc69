use Rattle.std.proofs.Common.{◌≡◌, ◌+◌, length, take}
use Rattle.std.specs.List.{flat_map}
use Rattle.text.specs.Written.{overlaid}
use Rattle.text.proofs.Commas.{behind}
use Rattle.text.proofs.memory.put_figures.Given as goal

abbrev pub invariant-loop-figure : goal.invariant-loop-figure
invariant-loop-figure l =
    let put = flat_map behind (take l.figure-index l.rest) in
    (l.end ≡ l.initial.end + length put) × (l.memory ≡ overlaid l.initial.memory l.initial.end put)
