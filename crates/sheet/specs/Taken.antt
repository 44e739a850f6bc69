-- A line of a sheet that was taken, or was not what it must be.
use Rattle.std.specs.Prelude.{◌≡◌, ℕ, ◌+◌, ◌⊎◌, List, [], ◌∷◌, Some, None, Option, Ok, Err, Result}
use Rattle.std.specs.Borrow.{Bor}
use Rattle.std.specs.Fn.{FnOnceReturnsAt, Once}
use Rattle.text.specs.declared.cursor.Lines.{Lines}
use Rattle.text.specs.Refusals.{at_line}
use Rattle.text.specs.Lines.{lines_of, behind_line}
use Rattle.text.specs.Cursor.{unread, Follows}
use Rattle.sheet.specs.declared.fault.SheetFault.{SheetFault}
use Rattle.sheet.specs.Faults.{sheet_refused}

-- the first line that was left is this one, and the reader stands behind it
abbrev pub Passed : Lines → List ℕ → Lines → Type 0
Passed before line after =
    (lines_of (unread before) ≡ line ∷ lines_of (unread after)) × (behind_line (unread before) ≡ unread after) × (after.number ≡ before.number + 1)

-- and there it stands in whatever text it stood before
abbrev pub PassedOn : Lines → List ℕ → Lines → Type 0
PassedOn before line after = Passed before line after × Follows before after

-- the next line gives `read` a value; or it gives none, or is missing, and then the reader stays where it is
abbrev pub Taken : {F T : Type 0} → Once F (Bor (List ℕ) × Unit {0}) (Option T) → F → Lines → Result T SheetFault → Lines → Type 0
Taken g read before (Ok value) after = (line : List ℕ) × PassedOn before line after × FnOnceReturnsAt g read line (Some value)
Taken g read before (Err f) after =
    (sheet_refused f ≡ at_line 16 (before.number + 1))
    × (((unread before ≡ []) × (after ≡ before)) ⊎ ((line : List ℕ) × PassedOn before line after × FnOnceReturnsAt g read line None))
