-- What a reader of lines has before it.
use Rattle.std.specs.Prelude.{◌≡◌, ℕ, ◌+◌, ◌-◌, ◌≤◌, List, [], ◌∷◌, length, drop, Some, None, Option}
use Rattle.std.specs.Borrow.{Bor}
use Rattle.text.specs.declared.cursor.Lines.{Lines}
use Rattle.text.specs.Lines.{lines_of, Begins}

-- the part of the text that is still to be read
abbrev pub unread : Lines → List ℕ
unread l = l.rest.now

-- the reader stands in a text: what is still to be read is an end of it, and no more lines were read than bytes
abbrev pub StandsIn : List ℕ → Lines → Type 0
StandsIn text l = (l.number + length (unread l) ≤ length text) × (drop (length text - length (unread l)) text ≡ unread l)

-- a later reader of the same lines: in whatever text the earlier one stands, it stands too
abbrev pub Follows : Lines → Lines → Type 0
Follows before after = (text : List ℕ) → StandsIn text before → StandsIn text after

-- the next line: none where nothing is left; else the first line of what is left, and the reader stands behind it
abbrev pub NextLine : Lines → Option (Bor (List ℕ)) → Lines → Type 0
NextLine before None after = (unread before ≡ []) × (after ≡ before)
NextLine before (Some line) after =
    Begins (unread before) line.now (unread after) × (lines_of (unread before) ≡ line.now ∷ lines_of (unread after)) × (after.number ≡ before.number + 1)
