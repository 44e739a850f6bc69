use Rattle.std.proofs.Common.{Bool, ◌&&◌, eqb, drop, sym, ap, ◌∙◌}
use Rattle.std.specs.List.{list_all}
use Rattle.words.specs.Rows.{is_symbol}
use Rattle.words.proofs.Rowing.{symbols_split}
use Rattle.words.proofs.row.symbols_fit.Goals as goal

pub returns-then-are_letters-clause-value : goal.returns-then-are_letters-clause-value
returns-then-are_letters-clause-value c =
    let letters = c.args.letters.now in
    let n = c.args.len in
    let unused = list_all (λ s. eqb s 0) (drop n letters) in
    let e = ap (list_all is_symbol) (sym c.split_at.ensures.front) ∙ sym c.are_letters.ensures ∙ c.if-are_letters.true in
    c.are_unused.ensures ∙ ap (list_all (λ s. eqb s 0)) c.split_at.ensures.back
    ∙ ap (λ (t : Bool). t && unused) (sym e) ∙ symbols_split n letters c.told-letters

pub returns-else-are_letters-clause-value : goal.returns-else-are_letters-clause-value
returns-else-are_letters-clause-value c =
    let letters = c.args.letters.now in
    let n = c.args.len in
    let unused = list_all (λ s. eqb s 0) (drop n letters) in
    let e = ap (list_all is_symbol) (sym c.split_at.ensures.front) ∙ sym c.are_letters.ensures ∙ c.if-are_letters.false in
    c.if-are_letters.false ∙ ap (λ (t : Bool). t && unused) (sym e) ∙ symbols_split n letters c.told-letters
