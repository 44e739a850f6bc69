use Rattle.patterns.specs.Spellings.{no_values}
use Rattle.books.proofs.Lawful.{map_laws}
use Rattle.table.proofs.table.Table.new.Goals as goal

pub returns-clause-laws : goal.returns-clause-laws
returns-clause-laws c = map_laws no_values
