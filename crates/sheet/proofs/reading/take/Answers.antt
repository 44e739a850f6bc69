use Rattle.std.proofs.Common.{sym, subst, refl}
use Rattle.sheet.specs.Taken.{Taken}
use Rattle.sheet.proofs.Taking.{taken_by}
use Rattle.sheet.proofs.reading.take.Goals as goal

pub returns : goal.returns
returns g c =
    subst (λ r. Taken g.F.FnOnce c.args.read c.args.lines.now r c.next.new.self) (sym c.ok_or.ensures.value)
    (taken_by c.args.lines.now c.next.new.self c.in-Some.line c.in-Some.ensures.steps g.F.FnOnce c.args.read c.read.result _ refl c.read.ensures)
