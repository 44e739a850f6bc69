use Rattle.std.proofs.Common.{◌≡◌, ◌-◌, length, take}
use Rattle.text.specs.Figures.{pieces, pieces_after, figures_of}
use Rattle.text.proofs.Values.{onward}
use Rattle.text.proofs.figures.read_figures.Given as goal

abbrev pub invariant-loop-figure : goal.invariant-loop-figure
invariant-loop-figure g l =
    (length l.figure-items ≡ g.row.N)
    × (onward (take l.figure-index l.figure-items) (g.row.N - l.figure-index) (pieces_after l.rest) ≡ figures_of g.row.N (pieces l.line))
