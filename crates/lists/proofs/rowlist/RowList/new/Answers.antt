use Rattle.std.proofs.Common.{refl}
use Rattle.lists.proofs.RowWhole.{rows_listed}
use Rattle.lists.proofs.rowlist.RowList.new.Goals as goal

pub returns : goal.returns
returns c = record { list = (refl, refl); meaning = rows_listed c.args.rows.now }
