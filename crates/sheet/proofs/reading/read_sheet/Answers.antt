use Rattle.std.proofs.Common.{◌≡◌, ℕ, ◌-◌, false, eqb, List, [], length, get_or, drop, Some, None, Option, sym, ap, ◌∙◌, ap₂, inl, inr, rules, subst, arith}
use Rattle.std.proofs.lemmas.Result.{err_from_is_err_and}
use Rattle.std.specs.Bool.{then_some}
use Rattle.text.specs.Lines.{lines_of}
use Rattle.text.specs.Cursor.{unread}
use Rattle.text.specs.Figures.{pieces, figures_of}
use Rattle.text.proofs.Ends.{stands_new}
use Rattle.sheet.specs.Sheets.{sheet, is_empty, first_empty, has_figures, ranged_by, sheet_of}
use Rattle.sheet.specs.Taken.{Passed}
use Rattle.sheet.specs.Views.{kept, bytes_in}
use Rattle.sheet.proofs.Sheeting.{too_long, in_range_lem, out_of_range, line_1_bad, line_2_bad, lines_good}
use Rattle.sheet.proofs.Taking.{not_figures, not_empty, empty_some, empty_none}
use Rattle.sheet.proofs.reading.read_sheet.Goals as goal

pub returns-in_default-clause-value : goal.returns-in_default-clause-value
unfolding sheet_of
returns-in_default-clause-value c = ap (λ i. sheet_of (kept i)) (sym c.in_default.is)

pub returns-then-input-gt-LARGEST-clause-value : goal.returns-then-input-gt-LARGEST-clause-value
returns-then-input-gt-LARGEST-clause-value c = too_long c.in-Some.input.now c.if-input-gt-LARGEST.true ∙ ap (λ i. sheet_of (kept i)) (sym c.in-Some.is)

pub returns-in_err-left-clause-value : goal.returns-in_err-left-clause-value
returns-in_err-left-clause-value c =
    let new = c.new-lines.result in
    let other : has_figures 2 (get_or (lines_of (unread new)) 0 []) ≡ false =
    not_figures new c.take.new.lines 2 (elim c.in_err-left.ensures.1 [
      | inl none ↦ inl none.0
      | inr w ↦
          let m = w.2.1 in
          let e : None ≡ figures_of 2 (pieces w.2.0.now) = search rules in
          inr (w.0, w.1.0, ap (λ l. figures_of 2 (pieces l)) (sym w.2.2) ∙ sym e)
    ]) in
    let v = line_1_bad c.in-Some.input.now c.if-input-gt-LARGEST.false new c.new-lines.ensures.all c.new-lines.ensures.none c.in_err-left.field-0.0 c.in_err-left.ensures.0 other in
    let q = err_from_is_err_and c.from_residual.result c.from_residual.ensures.1 in
    rw (q.1, q.2) (v ∙ ap (λ i. sheet_of (kept i)) (sym c.in-Some.is))

-- the two figures of line 1
pub returns-in_err-take-clause-value : goal.returns-in_err-take-clause-value
returns-in_err-take-clause-value c =
    let line = c.in_ok-left.ensures.0 in
    let m = c.in_ok-left.ensures.2.1 in
    let e : Some c.in_ok-left.field-0 ≡ figures_of 2 (pieces c.in_ok-left.ensures.2.0.now) = search rules in
    let first = c.take.new.lines in
    let other : first_empty (lines_of (unread first)) ≡ false =
    not_empty first c.take-2.new.lines (elim c.in_err-take.ensures.1 [
      | inl none ↦ inl none.0
      | inr w ↦
          let n = w.2.1 in
          let f : ◌≡◌ {A = Option (Unit {0})} None (then_some (eqb (length w.2.0.now) 0) (tt {0})) = search rules in
          inr (w.0, w.1.0, ap is_empty (sym w.2.2) ∙ empty_none w.2.0.now f)
    ]) in
    let v = line_2_bad c.in-Some.input.now c.if-input-gt-LARGEST.false c.new-lines.result c.new-lines.ensures.all c.new-lines.ensures.none
    line first c.in_ok-left.ensures.1.0 c.in_ok-left.field-0 (ap (λ l. figures_of 2 (pieces l)) (sym c.in_ok-left.ensures.2.2) ∙ sym e)
    c.in_err-take.field-0.0 c.in_err-take.ensures.0 other in
    let q = err_from_is_err_and c.from_residual-in_err-take.result c.from_residual-in_err-take.ensures.1 in
    rw (q.1, q.2) (v ∙ ap (λ i. sheet_of (kept i)) (sym c.in-Some.is))

pub returns-in-Ok-clause-value : goal.returns-in-Ok-clause-value
returns-in-Ok-clause-value c =
    let line = c.in_ok-left.ensures.0 in
    let m = c.in_ok-left.ensures.2.1 in
    let e : Some c.in_ok-left.field-0 ≡ figures_of 2 (pieces c.in_ok-left.ensures.2.0.now) = search rules in
    let n = c.in_ok-take.ensures.2.1 in
    let f : ◌≡◌ {A = Option (Unit {0})} (Some c.in_ok-take.field-0) (then_some (eqb (length c.in_ok-take.ensures.2.0.now) 0) (tt {0})) = search rules in
    let second = c.take-2.new.lines in
    let empty = sym c.in_ok-take.ensures.2.2 ∙ empty_some c.in_ok-take.ensures.2.0.now c.in_ok-take.field-0 f in
    let passed = subst (λ (l : List ℕ). Passed c.take.new.lines l second) empty c.in_ok-take.ensures.1.0 in
    let b = c.in-Ok.ensures in
    let input = c.in-Some.input.now in
    let inside = c.in_ok-take.ensures.1.1 input (c.in_ok-left.ensures.1.1 input (stands_new input c.new-lines.result c.new-lines.ensures.all c.new-lines.ensures.none)) in
    ap (λ i. sheet c.in-Ok.bounds.left c.in-Ok.bounds.right (drop (length input - length (unread second)) (bytes_in (kept i)))) c.in-Some.is
    ∙ ap (sheet c.in-Ok.bounds.left c.in-Ok.bounds.right) inside.1
    ∙ sym (in_range_lem c.in-Ok.bounds.left c.in-Ok.bounds.right (unread second) c.in-Ok.bounds.ranged)
    ∙ ap₂ (λ (l r : ℕ). ranged_by l r (unread second)) b.0 b.1
    ∙ lines_good c.in-Some.input.now c.if-input-gt-LARGEST.false c.new-lines.result c.new-lines.ensures.all c.new-lines.ensures.none
    line c.take.new.lines c.in_ok-left.ensures.1.0 c.in_ok-left.field-0 (ap (λ l. figures_of 2 (pieces l)) (sym c.in_ok-left.ensures.2.2) ∙ sym e) second passed
    ∙ ap (λ i. sheet_of (kept i)) (sym c.in-Some.is)

pub returns-in-Ok-clause-inside : goal.returns-in-Ok-clause-inside
returns-in-Ok-clause-inside c =
    let size : length (bytes_in (kept c.args.input)) ≡ length c.in-Some.input.now = ap (λ i. length (bytes_in (kept i))) c.in-Some.is in
    omega (arith, size)

pub returns-in-Err-clause-value : goal.returns-in-Err-clause-value
returns-in-Err-clause-value c =
    let line = c.in_ok-left.ensures.0 in
    let m = c.in_ok-left.ensures.2.1 in
    let e : Some c.in_ok-left.field-0 ≡ figures_of 2 (pieces c.in_ok-left.ensures.2.0.now) = search rules in
    let n = c.in_ok-take.ensures.2.1 in
    let f : ◌≡◌ {A = Option (Unit {0})} (Some c.in_ok-take.field-0) (then_some (eqb (length c.in_ok-take.ensures.2.0.now) 0) (tt {0})) = search rules in
    let second = c.take-2.new.lines in
    let empty = sym c.in_ok-take.ensures.2.2 ∙ empty_some c.in_ok-take.ensures.2.0.now c.in_ok-take.field-0 f in
    let passed = subst (λ (l : List ℕ). Passed c.take.new.lines l second) empty c.in_ok-take.ensures.1.0 in
    sym (out_of_range _ _ _ c.in-Err.ensures)
    ∙ lines_good c.in-Some.input.now c.if-input-gt-LARGEST.false c.new-lines.result c.new-lines.ensures.all c.new-lines.ensures.none
    line c.take.new.lines c.in_ok-left.ensures.1.0 c.in_ok-left.field-0 (ap (λ l. figures_of 2 (pieces l)) (sym c.in_ok-left.ensures.2.2) ∙ sym e) second passed
    ∙ ap (λ i. sheet_of (kept i)) (sym c.in-Some.is)
