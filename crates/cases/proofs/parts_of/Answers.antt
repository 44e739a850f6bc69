use Rattle.std.proofs.Common.{◌≡◌, List, ℕ, [], get_or, sym, ap, subst, refl, ◌∙◌}
use Rattle.text.specs.Lines.{lines_of, behind_line}
use Rattle.text.specs.Cursor.{unread}
use Rattle.text.proofs.Splitting.{begins_behind}
use Rattle.cases.proofs.parts_of.Goals as goal

pub returns-in-Some-clause-sheet : goal.returns-in-Some-clause-sheet
returns-in-Some-clause-sheet c =
    sym (ap behind_line (sym c.new-lines.ensures.all) ∙ begins_behind (unread c.new-lines.result) c.in-Some.title.now (unread c.next.new.self) c.in-Some.ensures.steps.0)

pub returns-in-None-clause-title : goal.returns-in-None-clause-title
unfolding lines_of
returns-in-None-clause-title c =
    subst (λ (t : List ℕ). t ≡ get_or (lines_of t) 0 []) (sym (sym c.new-lines.ensures.all ∙ c.in-None.ensures.steps.0)) refl

pub returns-in-None-clause-sheet : goal.returns-in-None-clause-sheet
unfolding behind_line
returns-in-None-clause-sheet c =
    subst (λ (t : List ℕ). t ≡ behind_line t) (sym (sym c.new-lines.ensures.all ∙ c.in-None.ensures.steps.0)) refl
