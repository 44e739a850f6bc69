use Rattle.std.proofs.Common.{◌≡◌, ◌+◌, length}
use Rattle.text.specs.Lines.{lines_of}
use Rattle.text.specs.Cursor.{unread, Follows}
use Rattle.lists.specs.Texts.{content_from}
use Rattle.lists.proofs.texts.next_word.Given as goal

abbrev pub invariant-loop-line : goal.invariant-loop-line
invariant-loop-line l =
    Follows l.initial.lines l.lines
    × (content_from (l.initial.lines.number + 1) l.read (lines_of (unread l.initial.lines)) ≡ content_from (l.lines.number + 1) l.read (lines_of (unread l.lines)))

abbrev pub decreases-loop-line : goal.decreases-loop-line
decreases-loop-line l = length (lines_of (unread l.lines))
