use Rattle.std.proofs.Common.{length, sym, ap, ◌∙◌, arith}
use Rattle.std.proofs.lemmas.Fmt.{decimal_digit}
use Rattle.text.specs.Written.{overlaid}
use Rattle.text.proofs.memory.put_number.Goals as goal

pub put-requires : goal.put-requires
put-requires c = omega (arith, ap length (decimal_digit c.args.n c.if-n-lt10.true))

pub returns-then-n-lt10 : goal.returns-then-n-lt10
returns-then-n-lt10 c =
    let one = decimal_digit c.args.n c.if-n-lt10.true in
    record {
      end = omega (arith, ap length one, c.put.ensures.end);
      text = c.put.ensures.text ∙ ap (overlaid c.args.memory.now c.args.at) (sym one);
    }
