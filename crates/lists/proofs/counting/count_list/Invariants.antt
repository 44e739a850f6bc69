use Rattle.std.proofs.Common.{◌≡◌, ◌+◌, ◌*◌, ◌≤◌, length, drop}
use Rattle.words.specs.Counting.{sum_of}
use Rattle.words.specs.Words.{hyphens_in_bounds}
use Rattle.lists.proofs.counting.count_list.Given as goal

-- what is counted, joined with what is unread, is the whole
abbrev pub invariant-loop-word : goal.invariant-loop-word
invariant-loop-word g l =
    (g.L.WordList.content l.list ≡ g.L.WordList.content l.initial.list)
    × (l.words + length (drop (g.L.WordList.taken l.list) ((g.L.WordList.content l.list).0)) ≡ length ((g.L.WordList.content l.list).0))
    × (l.hyphens + sum_of (hyphens_in_bounds l.bounds.left l.bounds.right) (drop (g.L.WordList.taken l.list) ((g.L.WordList.content l.list).0)) ≡ sum_of (hyphens_in_bounds l.bounds.left l.bounds.right) ((g.L.WordList.content l.list).0))
    × (l.hyphens ≤ 48 * l.words)

abbrev pub decreases-loop-word : goal.decreases-loop-word
decreases-loop-word g l = length (drop (g.L.WordList.taken l.list) ((g.L.WordList.content l.list).0))
