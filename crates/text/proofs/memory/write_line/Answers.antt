use Rattle.std.proofs.Common.{ℕ, ◌+◌, ◌≤◌, List, ◌++◌, length, drop, ap, ◌∙◌, zero-add, arith}
use Rattle.std.proofs.lemmas.List.{length-append}
use Rattle.text.specs.Written.{commaed, overlaid}
use Rattle.text.proofs.Overlays.{overlaid_more}
use Rattle.text.proofs.memory.write_line.Goals as goal

pub returns : goal.returns
returns c =
    let m = c.args.memory.now in
    let prefix = c.args.prefix.now in
    let text = commaed c.args.figures.now in
    let long = length-append prefix text in
    let room : 0 + length prefix ≤ length m = omega (arith, long, c.line_length.ensures) in (
      omega (arith, long, c.put_figures.ensures.end, c.put-at.ensures.end),
      c.put_figures.ensures.text
          ∙ ap (λ (x : List ℕ). overlaid x c.put-at.result text) c.put-at.ensures.text
          ∙ overlaid_more m 0 prefix c.put-at.result text room c.put-at.ensures.end
          ∙ ap (λ (k : ℕ). (prefix ++ text) ++ drop k m) (zero-add (length (prefix ++ text))),
      omega (arith, c.line_length.ensures),
    )
