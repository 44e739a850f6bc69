use Rattle.std.proofs.Common.{◌<◌, List, ℕ, length, sym, subst, refl, ◌∙◌, arith, Bor}
use Rattle.std.proofs.lemmas.Bool.{eqb-false}
use Rattle.text.specs.Lines.{Begins}
use Rattle.text.proofs.Splitting.{begins_cut, begins_lines}
use Rattle.text.proofs.lines.LinesIterator.next.Goals as goal

pub returns-clause-steps : goal.returns-clause-steps
returns-clause-steps c =
    let text = c.args.self.now.rest.now in
    let line = c.cut.result.0.now in
    let some : 0 < length text = omega (arith, eqb-false (length text) 0 (sym c.is_empty.ensures ∙ c.if-is_empty.false)) in
    let begins = subst (λ (r : Bor (List ℕ)). Begins text line r.now) (sym c.unwrap_or.ensures) (begins_cut text line c.cut.result.1 _ refl some c.cut.ensures) in
    (begins, begins_lines _ _ _ begins, refl)
