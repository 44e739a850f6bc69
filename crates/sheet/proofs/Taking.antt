-- A line of a sheet that is taken, or is not what it must be.
use Rattle.std.proofs.Common.{◌≡◌, ℕ, ◌+◌, Bool, true, false, eqb, ◌⊎◌, List, [], ◌∷◌, length, get_or, is_some, Some, None, Option, refl, ap, ◌∙◌, inr, ⊎_elim, arith, Bor}
use Rattle.std.specs.Bool.{then_some}
use Rattle.std.proofs.lemmas.Bool.{eqb-true}
use Rattle.std.proofs.lemmas.List.{nil_from_length}
use Rattle.std.specs.Fn.{Once}
use Rattle.std.specs.Option.{ok_or}
use Rattle.text.specs.declared.cursor.Lines.{Lines}
use Rattle.text.specs.Refusals.{at_line}
use Rattle.text.specs.Lines.{lines_of}
use Rattle.text.specs.Cursor.{unread, NextLine}
use Rattle.text.specs.Figures.{pieces, figures_of}
use Rattle.text.proofs.Splitting.{begins_behind}
use Rattle.text.proofs.Ends.{stands_next}
use Rattle.sheet.specs.declared.fault.SheetFault.{SheetFault}
use Rattle.sheet.specs.Faults.{sheet_refused}
use Rattle.sheet.specs.Sheets.{is_empty, first_empty, has_figures}
use Rattle.sheet.specs.Taken.{Passed, PassedOn, Taken}

module _ (before after : Lines) (line : Bor (List ℕ)) (next : NextLine before (Some line) after) where
  passed : PassedOn before line.now after
  passed = ((next.1, begins_behind (unread before) line.now (unread after) next.0, next.2), stands_next before after line next)

  -- what `read` gives of the line
  pub taken_by : {F T : Type 0} (g : Once F (Bor (List ℕ) × Unit {0}) (Option T)) (read : F) (given : Option T) (f : SheetFault) → sheet_refused f ≡ at_line 16 (before.number + 1) → g.post read (line, tt) given → Taken g read before (ok_or given f) after
  taken_by g read None f e p = (e, inr (line.now, passed, (line, p, refl)))
  taken_by g read (Some value) f e p = (line.now, passed, (line, p, refl))

-- nothing was left, or the first line is no figures
pub not_figures : (before after : Lines) (n : ℕ) → (unread before ≡ []) ⊎ ((line : List ℕ) × Passed before line after × (figures_of n (pieces line) ≡ None)) → has_figures n (get_or (lines_of (unread before)) 0 []) ≡ false
unfolding lines_of
not_figures before after n h =
    ⊎_elim (λ (e : unread before ≡ []). ap (λ (t : List ℕ). has_figures n (get_or (lines_of t) 0 [])) e)
    (λ p. ap (λ (ls : List (List ℕ)). has_figures n (get_or ls 0 [])) p.1.0 ∙ ap is_some p.2)
    h

-- nothing was left, or the first line is not empty
pub not_empty : (before after : Lines) → (unread before ≡ []) ⊎ ((line : List ℕ) × Passed before line after × (is_empty line ≡ false)) → first_empty (lines_of (unread before)) ≡ false
unfolding lines_of
not_empty before after h =
    ⊎_elim (λ (e : unread before ≡ []). ap (λ (t : List ℕ). first_empty (lines_of t)) e)
    (λ p. ap first_empty p.1.0 ∙ p.2)
    h

some_told : (t : Bool) (u : Unit {0}) → ◌≡◌ {A = Option (Unit {0})} (Some u) (then_some t (tt {0})) → t ≡ true
some_told true u e = refl
some_told false u e = let z : ◌≡◌ {A = ℕ} 0 1 = cc in absurd (omega arith)

none_told : (t : Bool) → ◌≡◌ {A = Option (Unit {0})} None (then_some t (tt {0})) → t ≡ false
none_told true e = let z : ◌≡◌ {A = ℕ} 0 1 = cc in absurd (omega arith)
none_told false e = refl

-- a line that is read as empty
pub empty_some : (l : List ℕ) (u : Unit {0}) → ◌≡◌ {A = Option (Unit {0})} (Some u) (then_some (eqb (length l) 0) (tt {0})) → l ≡ []
empty_some l u e = nil_from_length l (eqb-true (length l) 0 (some_told (eqb (length l) 0) u e))

-- and one that is not
pub empty_none : (l : List ℕ) → ◌≡◌ {A = Option (Unit {0})} None (then_some (eqb (length l) 0) (tt {0})) → is_empty l ≡ false
empty_none [] e = none_told true e
empty_none (b ∷ bs) e = refl
