-- What a table holds, and what a call leaves of its rows.
use Rattle.std.specs.Prelude.{◌≡◌, ℕ, List, length, drop, Ok, Err, Result}
use Rattle.patterns.specs.declared.pattern.Pattern.{Pattern}
use Rattle.books.specs.declared.book.Full.{Full}
use Rattle.books.specs.Books.{Book}
use Rattle.table.specs.declared.table.Table.{Table}
use Rattle.table.specs.Rows.{in_use}

abbrev pub rows_of : Table → List Pattern
rows_of t = t.rows.now

-- the patterns held
abbrev pub held_by : Table → Book
held_by t = in_use (rows_of t) t.used

-- the limit: the number of rows
abbrev pub limit_of : Table → ℕ
limit_of t = length (rows_of t)

-- what a raise leaves of the rows: those beyond the rows in use as they were, and where it is refused, all of them
abbrev pub RowsLeft : Table → Result (Unit {0}) Full → Table → Type 0
RowsLeft old (Ok done) new = drop new.used (rows_of new) ≡ drop new.used (rows_of old)
RowsLeft old (Err full) new = (rows_of new ≡ rows_of old) × (new.used ≡ old.used)
