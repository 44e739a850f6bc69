use Rattle.std.proofs.Common.{refl}
use Rattle.lists.proofs.Whole.{listed}
use Rattle.lists.proofs.textlist.TextList.new.Goals as goal

pub returns : goal.returns
returns c = record { list = (refl, refl); meaning = listed c.args.text.now }
