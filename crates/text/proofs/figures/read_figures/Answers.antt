use Rattle.std.proofs.Common.{◌≡◌, ℕ, ◌+◌, ◌-◌, List, take, Option, sym, ap, ◌∙◌, arith, Bor}
use Rattle.std.proofs.lemmas.List.{length-set, take_more_set}
use Rattle.text.specs.Figures.{pieces, pieces_after}
use Rattle.text.proofs.Pieces.{pieces_cut, pieces_some}
use Rattle.text.proofs.Values.{onward, onward_more, onward_refused, onward_other}
use Rattle.text.proofs.figures.read_figures.Goals as goal

-- the invariant, where what is left of the line is known
left_at : (done : List ℕ) (n : ℕ) (rest known : Option (Bor (List ℕ))) (r : Option (List ℕ)) → rest ≡ known → onward done n (pieces_after rest) ≡ r → onward done n (pieces_after known) ≡ r
left_at done n rest known r is inv = ap (λ o. onward done n (pieces_after o)) (sym is) ∙ inv

pub loop-figure-preserved : goal.loop-figure-preserved
loop-figure-preserved g c =
    let items = c.loop-figure.figure-items in
    let i = c.loop-figure.figure-index in
    let v = c.in_ok-figure.field-0 in
    let ps = pieces_after c.cut.result.1 in (
      length-set items i v ∙ c.loop-figure.invariant.0,
      ap (λ done. onward done (g.row.N - (i + 1)) ps) (take_more_set items i v (omega arith))
          ∙ onward_more (take i items) (g.row.N - i) (g.row.N - (i + 1)) c.cut.result.0.now ps v (omega arith) c.in_ok-figure.ensures
          ∙ ap (onward (take i items) (g.row.N - i)) (sym (pieces_cut _ _ c.cut.result.1 c.cut.ensures))
          ∙ left_at _ _ _ _ _ c.in_ok-rest.was c.loop-figure.invariant.1,
    )

pub returns-in_err-figure : goal.returns-in_err-figure
returns-in_err-figure g c =
    let items = c.loop-figure.figure-items in
    let i = c.loop-figure.figure-index in
    c.from_residual-in_err-figure.ensures
    ∙ onward_refused (take i items) (g.row.N - i) c.cut.result.0.now (pieces_after c.cut.result.1) c.in_err-figure.ensures
    ∙ ap (onward (take i items) (g.row.N - i)) (sym (pieces_cut _ _ c.cut.result.1 c.cut.ensures))
    ∙ left_at _ _ _ _ _ c.in_ok-rest.was c.loop-figure.invariant.1

pub returns-in-Some : goal.returns-in-Some
returns-in-Some g c =
    let over = c.in-Some.field-0.now in
    onward_other _ _ (pieces over) (λ e. omega (arith, pieces_some over)) ∙ left_at _ _ _ _ _ c.in-Some.is c.loop-figure.invariant.1
