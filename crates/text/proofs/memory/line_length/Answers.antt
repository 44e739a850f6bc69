use Rattle.std.proofs.Common.{◌≤◌, length, get_or, take, decimal, ap, ◌∙◌, arith}
use Rattle.std.specs.List.{flat_map}
use Rattle.std.proofs.lemmas.Fmt.{length-decimal-le}
use Rattle.std.proofs.lemmas.List.{length-append, take_all}
use Rattle.text.specs.Written.{commaed}
use Rattle.text.proofs.Commas.{joined_step, length_commaed}
use Rattle.text.proofs.memory.line_length.Goals as goal

pub loop-figure-preserved : goal.loop-figure-preserved
loop-figure-preserved c =
    let ns = c.args.figures.now in
    let i = c.loop-figure.figure-index in
    let n = get_or ns i 0 in
    let few : length (decimal n) ≤ 20 = length-decimal-le 20 n (omega arith) (omega (arith, c.type_inv.figures i)) (omega (arith, c.type_inv.figures i)) in
    let more = ap length (joined_step decimal ns i c.loop-figure-test.true) ∙ length-append (flat_map decimal (take i ns)) (decimal n) in
    (omega (arith, more, c.digits.ensures), omega (arith, few, c.digits.ensures))

pub returns : goal.returns
returns c =
    let ns = c.args.figures.now in
    let all = ap (λ xs. length (flat_map decimal xs)) (take_all c.loop-figure.figure-index ns c.loop-figure-test.false) in
    omega (arith, all, length_commaed ns, length-append c.args.prefix.now (commaed ns), c.saturating_sub-commas.ensures)
