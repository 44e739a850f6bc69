use Rattle.std.proofs.Common.{length, sym, ap}
use Rattle.std.proofs.lemmas.Fmt.{decimal_digit}
use Rattle.text.proofs.memory.digits.Goals as goal

pub returns-then-n-lt10 : goal.returns-then-n-lt10
returns-then-n-lt10 c = ap length (sym (decimal_digit c.args.n c.if-n-lt10.true))
