-- What a sheet comes to, by what was found in it.
use Rattle.std.proofs.Common.{◌≡◌, ℕ, ◌+◌, ◌<◌, ◌≤◌, true, false, not, ◌&&◌, ltb, leb, List, [], ◌∷◌, length, get_or, is_some, Some, Option, unwrap_or, sym, ap, ◌∙◌, ⊎_elim}
use Rattle.std.proofs.lemmas.Bool.{cond-true, cond-false, lt-ltb, le-ltb, le-leb, leb-true, and_from, and_parts, cases_Bool, not_from_true, not_from_false}
use Rattle.text.specs.declared.cursor.Lines.{Lines}
use Rattle.text.specs.Refusals.{bare, at_line}
use Rattle.text.specs.Lines.{lines_of, behind_line}
use Rattle.text.specs.Cursor.{unread}
use Rattle.text.specs.Figures.{pieces, figures_of}
use Rattle.words.specs.Words.{InRange, widest}
use Rattle.sheet.specs.declared.fault.SheetFault.{SheetFault}
use Rattle.sheet.specs.Faults.{sheet_refused}
use Rattle.sheet.specs.Sheets.{largest, first_empty, has_figures, in_range, sheet, wrong, ranged_by, sheet_by, sheet_of}
use Rattle.sheet.specs.Taken.{Passed}

-- ---- the size of the input

pub too_long : (input : List ℕ) → largest < length input → wrong (bare 16) ≡ sheet_of (Some input)
unfolding sheet_of
too_long input h = sym (cond-true (ltb largest (length input)) _ _ (lt-ltb largest (length input) h))

-- ---- the bounds

range_ok : (left right : ℕ) → InRange left right → in_range left right ≡ true
range_ok left right h =
    and_from (leb 1 left && leb left widest) (leb 1 right && leb right widest)
    (and_from (leb 1 left) (leb left widest) (le-leb 1 left h.0) (le-leb left widest h.1))
    (and_from (leb 1 right) (leb right widest) (le-leb 1 right h.2) (le-leb right widest h.3))

ok_range : (left right : ℕ) → in_range left right ≡ true → InRange left right
ok_range left right e =
    let p = and_parts (leb 1 left && leb left widest) (leb 1 right && leb right widest) e in
    let l = and_parts (leb 1 left) (leb left widest) p.0 in
    let r = and_parts (leb 1 right) (leb right widest) p.1 in
    (leb-true 1 left l.0, leb-true left widest l.1, leb-true 1 right r.0, leb-true right widest r.1)

pub in_range_lem : (left right : ℕ) (words : List ℕ) → InRange left right → ranged_by left right words ≡ sheet left right words
in_range_lem left right words h = cond-true (in_range left right) _ _ (range_ok left right h)

pub out_of_range : (left right : ℕ) (words : List ℕ) → (InRange left right → ⊥) → ranged_by left right words ≡ wrong (at_line 1 1)
out_of_range left right words f =
    ⊎_elim (λ e. absurd (f (ok_range left right e))) (λ e. cond-false (in_range left right) _ _ e) (cases_Bool (in_range left right))

-- ---- the lines

first_bad : (ls : List (List ℕ)) (words : List ℕ) → has_figures 2 (get_or ls 0 []) ≡ false → sheet_by ls words ≡ wrong (at_line 16 1)
first_bad ls words e = cond-true (not (has_figures 2 (get_or ls 0 []))) _ _ (not_from_false _ e)

module _ (line : List ℕ) (ls : List (List ℕ)) (words figures : List ℕ) (e : figures_of 2 (pieces line) ≡ Some figures) where
  second_bad : first_empty ls ≡ false → sheet_by (line ∷ ls) words ≡ wrong (at_line 16 2)
  second_bad f =
      cond-false (not (has_figures 2 line)) _ _ (not_from_true _ (ap is_some e))
      ∙ cond-true (not (first_empty ls)) _ _ (not_from_false _ f)

  both_good : first_empty ls ≡ true → sheet_by (line ∷ ls) words ≡ ranged_by (get_or figures 0 0) (get_or figures 1 0) words
  both_good f =
      cond-false (not (has_figures 2 line)) _ _ (not_from_true _ (ap is_some e))
      ∙ cond-false (not (first_empty ls)) _ _ (not_from_true _ f)
      ∙ ap (λ (o : Option (List ℕ)). ranged_by (get_or (unwrap_or o []) 0 0) (get_or (unwrap_or o []) 1 0) words) e

-- ---- the lines of an input that is no longer than a sheet can be: `new` stands before it, `first` behind line 1, `second`
-- behind line 2

module _ (input : List ℕ) (short : length input ≤ largest) (new : Lines) (all : unread new ≡ input) (none : new.number ≡ 0) where
  short_sheet : sheet_by (lines_of input) (behind_line (behind_line input)) ≡ sheet_of (Some input)
  unfolding sheet_of
  short_sheet = sym (cond-false (ltb largest (length input)) _ _ (le-ltb largest (length input) short))

  -- what a line was read as by a reader that says whether it is two figures
  pub line_1_bad : (f : SheetFault) → sheet_refused f ≡ at_line 16 (new.number + 1) → has_figures 2 (get_or (lines_of (unread new)) 0 []) ≡ false → wrong (sheet_refused f) ≡ sheet_of (Some input)
  line_1_bad f e t =
      ap wrong (e ∙ ap (λ (n : ℕ). at_line 16 (n + 1)) none)
      ∙ sym (first_bad (lines_of input) (behind_line (behind_line input)) (ap (λ (x : List ℕ). has_figures 2 (get_or (lines_of x) 0 [])) (sym all) ∙ t))
      ∙ short_sheet

  module _ (line : List ℕ) (first : Lines) (p : Passed new line first) (figures : List ℕ) (t : figures_of 2 (pieces line) ≡ Some figures) where
    input_lines : lines_of input ≡ line ∷ lines_of (unread first)
    input_lines = ap lines_of (sym all) ∙ p.0

    pub line_2_bad : (f : SheetFault) → sheet_refused f ≡ at_line 16 (first.number + 1) → first_empty (lines_of (unread first)) ≡ false → wrong (sheet_refused f) ≡ sheet_of (Some input)
    line_2_bad f e u =
        ap wrong (e ∙ ap (λ (n : ℕ). at_line 16 (n + 1)) (p.2 ∙ ap (λ (n : ℕ). n + 1) none))
        ∙ sym (ap (λ (ls : List (List ℕ)). sheet_by ls (behind_line (behind_line input))) input_lines ∙ second_bad line (lines_of (unread first)) _ figures t u)
        ∙ short_sheet

    pub lines_good : (second : Lines) → Passed first [] second → ranged_by (get_or figures 0 0) (get_or figures 1 0) (unread second) ≡ sheet_of (Some input)
    lines_good second u =
        let w : behind_line (behind_line input) ≡ unread second = ap behind_line (ap behind_line (sym all) ∙ p.1) ∙ u.1 in
        ap (ranged_by (get_or figures 0 0) (get_or figures 1 0)) (sym w)
        ∙ sym (ap (λ (ls : List (List ℕ)). sheet_by ls (behind_line (behind_line input))) input_lines ∙ both_good line (lines_of (unread first)) _ figures t (ap first_empty u.0))
        ∙ short_sheet
