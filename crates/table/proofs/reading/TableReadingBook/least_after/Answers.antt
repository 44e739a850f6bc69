use Rattle.std.proofs.Common.{◌≡◌, ℕ, List, map, take, drop, sym, ap, ◌∙◌, arith}
use Rattle.std.proofs.lemmas.List.{drop-map, length-drop, take_all}
use Rattle.patterns.specs.declared.pattern.Pattern.{Pattern}
use Rattle.patterns.specs.Views.{symbols_of, spelled}
use Rattle.books.specs.Maps.{least_of, after}
use Rattle.books.specs.Books.{Book}
use Rattle.table.specs.Views.{rows_of, held_by}
use Rattle.table.proofs.Meaning.{after_held, after_other}
use Rattle.table.proofs.reading.TableReadingBook.least_after.Goals as goal
use Rattle.table.proofs.reading.TableReadingBook.least_after.Goals.{in-Ok, in-Err}

pub returns : goal.returns
returns c =
    let t = c.args.self.now in
    let b = held_by t in
    let u = symbols_of c.args.other.now in
    let k = c.match-find.behind in
    let e : drop k b ≡ after u b = elim c.match-find.branch [
      | in-Ok w ↦ ap (λ (n : ℕ). drop n b) w.behind-is ∙ sym (after_held b u w.in-Ok.at w.in-Ok.ensures.place)
      | in-Err w ↦ ap (λ (n : ℕ). drop n b) w.behind-is ∙ sym (after_other b u w.in-Err.at w.in-Err.ensures.place)
    ] in
    let rest = drop k c.in_use.result.now in
    let n = length-drop k c.in_use.result.now in
    c.first_spelling.ensures
    ∙ ap (λ (rows : List Pattern). least_of (map spelled rows)) (take_all _ rest (omega arith))
    ∙ ap (λ (rows : List Pattern). least_of (map spelled (drop k rows))) c.in_use.ensures
    ∙ ap (λ (x : Book). least_of x) (sym (drop-map spelled k (take t.used (rows_of t))) ∙ e)
